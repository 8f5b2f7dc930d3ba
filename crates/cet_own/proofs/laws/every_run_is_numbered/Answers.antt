use Rattle.cet_own.proofs.Numbers.{numbered_run}
use Rattle.cet_own.proofs.laws.every_run_is_numbered.Goals as goal

pub returns : goal.returns
returns c = numbered_run
