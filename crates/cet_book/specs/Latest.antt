-- Which stack a thread came to last, by which the one that it is on is found at once. Source: own.
use Rattle.std.specs.Prelude.{◌≡◌, ℕ, List, slice_index_or, Option}
use Rattle.cet_book.specs.declared.entries.Holder.TheVariants.{Current}
use Rattle.cet_book.specs.Book.{Region, nowhere}
use Rattle.cet_book.specs.Events.{book_of}
use Rattle.cet_book.specs.Shape.{IsBook}

-- A stack on which a thread is has its number in the thread's place of the list. What the list has for other threads is free.
abbrev pub Latest : List Region → List ℕ → Type 0
Latest regions latest = (i t : ℕ) → (slice_index_or regions i nowhere).holder ≡ Current t → slice_index_or latest t 0 ≡ i

-- a book, and the list for its threads
pub record IsListed (regions : List Region) (stacks : List (Option ℕ)) (latest : List ℕ) : Type 0 where
  pub book : IsBook (book_of regions stacks)
  pub list : Latest regions latest
