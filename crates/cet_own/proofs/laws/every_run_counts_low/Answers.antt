use Rattle.cet_own.proofs.Numbers.{low_run}
use Rattle.cet_own.proofs.laws.every_run_counts_low.Goals as goal

pub returns : goal.returns
returns c = low_run
