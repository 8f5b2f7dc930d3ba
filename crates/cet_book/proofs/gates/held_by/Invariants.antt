-- the thread holds none of those before
use Rattle.std.proofs.Common.{◌≡◌, ℕ, ◌<◌, false, get_or, None}
use Rattle.cet_book.specs.Book.{holds_stack}
use Rattle.cet_book.proofs.gates.held_by.Given as goal

abbrev pub invariant-loop-at : goal.invariant-loop-at
invariant-loop-at l = (k : ℕ) → k < l.at → holds_stack l.thread (get_or l.gates k None) ≡ false
