use Rattle.std.proofs.Common.{◌≡◌}
use Rattle.cet_book.specs.Marks.{reports}
use Rattle.cet_book.proofs.reports.reports_of.Given as goal

abbrev pub invariant-loop-at : goal.invariant-loop-at
invariant-loop-at l = l.list ≡ reports l.regions l.copies l.marks l.at
