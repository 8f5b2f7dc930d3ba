use Rattle.cet_page.proofs.RowLaws.{parts_of_row}
use Rattle.cet_page.proofs.laws.parts_are_in_their_rows.Goals as goal

pub returns : goal.returns
returns c = parts_of_row
