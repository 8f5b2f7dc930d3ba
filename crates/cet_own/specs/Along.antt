-- What holds along a run, with the book beside it. Source: own.
use Rattle.std.specs.Prelude.{◌≡◌, ℕ, List, [], ◌∷◌, Some}
use Rattle.cet_words.specs.Job.{JobData}
use Rattle.cet_book.specs.Book.{Book, books_after}
use Rattle.cet_page.specs.Machine.{Machine, step}
use Rattle.cet_own.specs.Event.{turn_changes}

-- Along these turns, from this machine and book: At holds at each moment, the book has each change, and Turn holds of each
-- turn with the books before and after it.
abbrev pub Along : (At : Machine → Book → Type 0) → (Turn : Machine → (before after : Book) → (t : ℕ) → Type 0) → JobData → Machine → Book → (turns : List ℕ) → Type 0
Along At Turn job m b [] = At m b
Along At Turn job m b (t ∷ ts) =
    At m b × (next : Book) × (books_after t b (turn_changes job m t) ≡ Some next) × Turn m b next t × Along At Turn job (step job m t) next ts
