-- Lists of events: whose each event is, and the books that they lead to. Source: own.
use Rattle.std.specs.Prelude.{◌≡◌, ℕ, List, [], ◌∷◌, Option, Some, option_and_then}
use Rattle.cet_book.specs.declared.events.Event.{Event}
use Rattle.cet_book.specs.declared.events.Event.TheVariants as event
use Rattle.cet_book.specs.Book.{Book, region, book_step}

-- the thread whose access the event is; a birth is its parent's
abbrev pub thread_of : Event → ℕ
thread_of (event.Called t back) = t
thread_of (event.Returned t) = t
thread_of (event.Raised t count) = t
thread_of (event.Acquired t at) = t
thread_of (event.Released t) = t
thread_of (event.Claimed t start pages maker) = t
thread_of (event.Seeded t s blanks) = t
thread_of (event.Born parent child s) = parent
thread_of (event.Pushed t restorer) = t
thread_of (event.Popped t) = t
thread_of (event.Ended t) = t
thread_of (event.Busied t stack) = t
thread_of (event.Freed t stack) = t

-- the book after events, or None where one of them has no case
abbrev pub book_by : Book → List Event → Option Book
book_by b [] = Some b
book_by b (e ∷ es) = option_and_then (λ next. book_by next es) (book_step b e)

-- P of each event that the book has, with the books before and after it
abbrev pub Each : (P : Book → Event → Book → Type 0) → Book → List Event → Type 0
Each P b [] = Unit {0}
Each P b (e ∷ es) = (next : Book) → book_step b e ≡ Some next → P b e next × Each P next es

-- the book has each event, and P holds of the book before them, of each between two of them, and of the last
abbrev pub Throughout : (P : Book → Type 0) → Book → List Event → Type 0
Throughout P b [] = P b
Throughout P b (e ∷ es) = P b × (next : Book) × (book_step b e ≡ Some next) × Throughout P next es

-- No list of entries differs in the two books. An event changes a list where this is not so.
abbrev pub SameLists : (b next : Book) → Type 0
SameLists b next = (i : ℕ) → (region next i).entries ≡ (region b i).entries
