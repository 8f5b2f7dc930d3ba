-- What an access of each class promises. Source: own.
use Rattle.std.specs.Prelude.{◌≡◌, ℕ, true, List, Some, slice_get}
use Rattle.cet_words.specs.Access.{answer}
use Rattle.cet_words.specs.Job.{JobData, IsJob}
use Rattle.cet_words.specs.declared.accesses.Access.{Access}
use Rattle.cet_isa.specs.declared.threads.Arch.{Arch}
use Rattle.cet_book.specs.Book.{Book, books_after}
use Rattle.cet_page.specs.Core.{next_access}
use Rattle.cet_page.specs.Machine.{Machine, Thread, Starts, run, step}
use Rattle.cet_own.specs.Class.{all_of}
use Rattle.cet_own.specs.Event.{turn_changes, book_of}
use Rattle.cet_own.specs.Stands.{Stands}
use Rattle.cet_own.specs.declared.access_classes.Class.{Class}

-- A turn of thread t of this class: its changes are of the class, the book has each, and the ownership invariant holds of
-- the machine and the book after it.
pub record Keeps (c : Class) (job : JobData) (m : Machine) (b : Book) (t : ℕ) : Type 0 where
  pub fits : all_of c (turn_changes job m t) ≡ true
  pub next : Book
  pub is : books_after t b (turn_changes job m t) ≡ Some next
  pub stands : Stands job (step job m t) next

-- thread t is in this state, makes this access next, and gets this answer
pub record IsNext (a : Access) (arch : Arch) (value : ℕ) (job : JobData) (m : Machine) (t : ℕ) : Type 0 where
  pub thread : Thread
  pub found : slice_get m.threads t ≡ Some thread
  pub state : thread.core.arch ≡ arch
  pub wants : next_access job thread.core ≡ Some a
  pub answers : answer m.words a ≡ value

-- In any machine of which, with a book, the ownership invariant holds, an access of this class keeps it, wherever a thread in this
-- state makes it next and gets this answer.
abbrev pub HasClass : Class → Access → Arch → (value : ℕ) → Type 0
HasClass c a arch value = (job : JobData) (m : Machine) (b : Book) (t : ℕ) → IsJob job → Stands job m b → IsNext a arch value job m t → Keeps c job m b t

-- So in every run from a start m there is a book, and the access keeps it.
abbrev pub HasClassInRuns : Class → Access → Arch → (value : ℕ) → Type 0
HasClassInRuns c a arch value =
    (job : JobData) (m : Machine) (turns : List ℕ) (t : ℕ) → IsJob job → Starts job m → IsNext a arch value job (run job m turns) t
    → (b : Book) × (book_of job m turns ≡ Some b) × Keeps c job (run job m turns) b t

-- The invariant is inductive: a turn of any thread keeps it, with the book after the turn's changes, which the book before it has.
abbrev pub TurnStands : JobData → Machine → Book → (t : ℕ) → Type 0
TurnStands job m b t = (next : Book) × (books_after t b (turn_changes job m t) ≡ Some next) × Stands job (step job m t) next
