use Rattle.cet_page.proofs.NumberLaws as number
use Rattle.cet_page.proofs.laws.accesses_run_out.Goals as goal

pub returns : goal.returns
returns c = number.accesses_run_out
