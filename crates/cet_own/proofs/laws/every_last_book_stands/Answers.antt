use Rattle.cet_own.proofs.CoveredRun.{last_stands}
use Rattle.cet_own.proofs.laws.every_last_book_stands.Goals as goal

pub returns : goal.returns
returns c = last_stands
