use Rattle.cet_own.proofs.Run.{stands_run}
use Rattle.cet_own.proofs.laws.every_run_stands.Goals as goal

-- src/laws.rt:22:1
pub returns : goal.returns
returns c = stands_run
