use Rattle.cet_own.proofs.Run.{restores_run}
use Rattle.cet_own.proofs.laws.every_restore_is_exact.Goals as goal

pub returns : goal.returns
returns c = restores_run
