use Rattle.cet_own.proofs.CoveredRun.{last_covered}
use Rattle.cet_own.proofs.laws.every_run_is_covered.Goals as goal

pub returns : goal.returns
returns c = last_covered
