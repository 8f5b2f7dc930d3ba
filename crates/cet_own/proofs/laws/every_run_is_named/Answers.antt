use Rattle.cet_own.proofs.Naming.{named_run}
use Rattle.cet_own.proofs.laws.every_run_is_named.Goals as goal

pub returns : goal.returns
returns c = named_run
