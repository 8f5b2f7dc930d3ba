use Rattle.std.proofs.Common.{◌≡◌}
use Rattle.cet_book.specs.Marks.{currents}
use Rattle.cet_book.proofs.marks.mark_current.Given as goal

abbrev pub invariant-loop-at : goal.invariant-loop-at
invariant-loop-at l = l.found ≡ currents l.regions l.ssps l.at l.initial.found
