-- What it says that a call applied an event to a book. Source: own.
use Rattle.std.specs.Prelude.{◌≡◌, ◌≢◌, ℕ, List, Option, Some, None, Result, Ok, Err}
use Rattle.cet_book.specs.Book.{Region, Book}
use Rattle.cet_book.specs.declared.events.BookFault.{BookFault}
use Rattle.cet_book.specs.declared.events.BookFault.TheVariants.{NotLegal, NoMemory}

-- An answer over the book before and after, and the book that the event leads to, if any. Success brings that book; a
-- refusal leaves the book. NotLegal says that there is no next book, and want of memory that there is one.
abbrev pub Applied : Result (Unit {0}) BookFault → (old new : Book) → (next : Option Book) → Type 0
Applied (Ok u) old new next = next ≡ Some new
Applied (Err NotLegal) old new next = (next ≡ None) × (new ≡ old)
Applied (Err NoMemory) old new next = (next ≢ None) × (new ≡ old)

abbrev pub book_of : List Region → List (Option ℕ) → Book
book_of regions stacks = record { regions = regions; stacks = stacks }

-- the same of regions alone, whoever holds the supervisor stacks
abbrev pub AppliedTo : Result (Unit {0}) BookFault → (old new : List Region) → (next : Book → Option Book) → Type 0
AppliedTo result old new next = (stacks : List (Option ℕ)) → Applied result (book_of old stacks) (book_of new stacks) (next (book_of old stacks))
