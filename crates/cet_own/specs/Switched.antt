-- What every run's events promise: that the book has them all, that a switch to another shadow stack and back leaves both as
-- they were, and that INCSSP takes off what it counts. Source: Intel SDM volume 1, chapter on CET; own for the statements.
use Rattle.std.specs.Prelude.{◌≡◌, ℕ, List, Some}
use Rattle.cet_words.specs.Job.{JobData}
use Rattle.cet_book.specs.Book.{Book}
use Rattle.cet_book.specs.Switched.{SwitchesBack, RaisesExactly}
use Rattle.cet_page.specs.Machine.{Machine}
use Rattle.cet_own.specs.Event.{events, book_of}

-- each event of these turns is one that the book before it has, so there is a last book
abbrev pub Legal : JobData → Machine → (turns : List ℕ) → Type 0
Legal job start turns = (last : Book) × (book_of job start turns ≡ Some last)

-- Where a thread acquires a region while it has another, and its next event that changes a list is Released: in every book
-- between them it is on the first and has left the second for it, with its list unchanged. Afterwards the second is parked and
-- the thread is on the first, each with the list that it had before.
abbrev pub Switched : JobData → Machine → (turns : List ℕ) → Type 0
Switched job start turns = SwitchesBack (events job start turns)

-- In any stretch in which a thread's only events that change a list are Raised, its region loses exactly as many of its newest
-- entries as the counts add up to.
abbrev pub Raises : JobData → Machine → (turns : List ℕ) → Type 0
Raises job start turns = RaisesExactly (events job start turns)
