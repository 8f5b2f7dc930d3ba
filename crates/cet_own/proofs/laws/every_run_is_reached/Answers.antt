use Rattle.cet_own.proofs.Naming.{reached_run}
use Rattle.cet_own.proofs.laws.every_run_is_reached.Goals as goal

pub returns : goal.returns
returns c = reached_run
