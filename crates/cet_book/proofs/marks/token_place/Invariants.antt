-- the token, or the end, is among the words still to come
use Rattle.std.proofs.Common.{◌≡◌, ◌+◌, ◌*◌, drop}
use Rattle.cet_book.specs.Marks.{token_from}
use Rattle.cet_book.proofs.marks.token_place.Given as goal

abbrev pub invariant-loop-at : goal.invariant-loop-at
invariant-loop-at l = token_from l.start l.words ≡ l.at + token_from (l.start + 8 * l.at) (drop l.at l.words)
