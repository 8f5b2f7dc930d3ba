use Rattle.std.proofs.Common.{◌≡◌}
use Rattle.cet_book.specs.Marks.{parks}
use Rattle.cet_book.proofs.marks.mark_parked.Given as goal

abbrev pub invariant-loop-at : goal.invariant-loop-at
invariant-loop-at l = l.found ≡ parks l.regions l.copies l.at l.initial.found
