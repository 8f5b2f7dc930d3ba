use Rattle.cet_own.proofs.Naming.{births_told}
use Rattle.cet_own.proofs.laws.births_are_told.Goals as goal

pub returns : goal.returns
returns c = births_told
