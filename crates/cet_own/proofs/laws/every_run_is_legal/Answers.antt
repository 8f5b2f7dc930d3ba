use Rattle.cet_own.proofs.Switched.{legal_run}
use Rattle.cet_own.proofs.laws.every_run_is_legal.Goals as goal

pub returns : goal.returns
returns c = legal_run
