use Rattle.cet_own.proofs.Run.{exit_run}
use Rattle.cet_own.proofs.laws.every_run_ends_right.Goals as goal

pub returns : goal.returns
returns c = exit_run
