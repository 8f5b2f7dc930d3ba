-- taking the rest off from here gives what taking all off gives at first; there are enough, and none leads to this stack
use Rattle.std.proofs.Common.{◌≡◌, ◌-◌, ◌<◌, ◌≤◌, ℕ, List, Option, length, get_or}
use Rattle.cet_book.specs.Book.{nowhere, raised}
use Rattle.cet_book.specs.Facts.{links}
use Rattle.cet_book.specs.Events.{book_of}
use Rattle.cet_book.proofs.steps.raised.Given as goal

abbrev pub invariant-loop-entry : goal.invariant-loop-entry
invariant-loop-entry l = record {
  rest : (g : List (Option ℕ)) → raised l.at (l.count - l._entry) (book_of l.stacks g) ≡ raised l.at l.count (book_of l.initial.stacks g);
  inside : l.at < length l.stacks;
  room : l.count - l._entry ≤ length (get_or l.stacks l.at nowhere).entries;
  other : links l.at (get_or l.stacks l.at nowhere).entries ≡ 0;
}
