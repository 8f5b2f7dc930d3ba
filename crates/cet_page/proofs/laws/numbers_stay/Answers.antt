use Rattle.cet_page.proofs.NumberLaws as number
use Rattle.cet_page.proofs.laws.numbers_stay.Goals as goal

pub returns : goal.returns
returns c = number.numbers_stay
