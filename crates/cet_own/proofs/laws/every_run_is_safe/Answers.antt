use Rattle.cet_own.proofs.Run.{safe_run}
use Rattle.cet_own.proofs.laws.every_run_is_safe.Goals as goal

-- src/laws.rt:11:1
pub returns : goal.returns
returns c = safe_run
