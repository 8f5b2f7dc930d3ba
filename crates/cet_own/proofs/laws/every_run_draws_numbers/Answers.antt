use Rattle.cet_own.proofs.Numbers.{draws_run}
use Rattle.cet_own.proofs.laws.every_run_draws_numbers.Goals as goal

pub returns : goal.returns
returns c = draws_run
