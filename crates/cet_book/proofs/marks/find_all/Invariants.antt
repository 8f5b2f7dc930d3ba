use Rattle.std.proofs.Common.{◌≡◌}
use Rattle.cet_book.specs.Marks.{follow_all}
use Rattle.cet_book.proofs.marks.find_all.Given as goal

abbrev pub invariant-loop-turn : goal.invariant-loop-turn
invariant-loop-turn l = l.found ≡ follow_all l.regions l.copies l.turn l.initial.found
