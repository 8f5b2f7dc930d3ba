use Rattle.cet_own.proofs.Switched.{raises_run}
use Rattle.cet_own.proofs.laws.every_run_raises.Goals as goal

pub returns : goal.returns
returns c = raises_run
