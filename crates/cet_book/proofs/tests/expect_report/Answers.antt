use Rattle.std.proofs.Common.{refl}
use Rattle.cet_book.proofs.Readable.{readable}
use Rattle.cet_book.proofs.tests.expect_report.Goals as goal

pub report_of_words-requires : goal.report_of_words-requires
report_of_words-requires g c = readable _ _ refl refl
