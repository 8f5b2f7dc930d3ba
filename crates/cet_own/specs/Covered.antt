-- What a report of a finished run shows is covered by what its records tell: the words are in step with the book, and the
-- stacks told are the book's regions, with all that are kept. Source: own.
use Rattle.std.specs.Prelude.{◌≡◌, ℕ, ◌≤◌, List, map, length, Some, slice_get}
use Rattle.cet_words.specs.Job.{JobData}
use Rattle.cet_isa.specs.declared.threads.End.{End}
use Rattle.cet_book.specs.Book.{Book, starting_at}
use Rattle.cet_book.specs.View.{Span, IsReadable, InStep, Covers}
use Rattle.cet_page.specs.Machine.{Machine, Thread, run}
use Rattle.cet_own.specs.Event.{book_of}
use Rattle.cet_own.specs.Told.{told_spans, kept_pointers}

-- the numbers that the regions of these stacks have in the book
abbrev pub told_numbers : Book → List Thread → List ℕ
told_numbers b threads = map (λ (s : Span). starting_at s.start b) (told_spans threads)

-- what a report of these words, stacks and pointers needs, so that it shows what the book does
pub record Covered (job : JobData) (m : Machine) (b : Book) : Type 0 where
  pub in_step : InStep job.image m.words b
  pub readable : IsReadable (told_spans m.threads) (kept_pointers m.threads)
  pub covers : Covers b (told_numbers b m.threads) (told_spans m.threads) (kept_pointers m.threads)
  pub few : length m.threads ≤ 32
  -- each thread has the number of its place
  pub numbers : (t : ℕ) (thread : Thread) → slice_get m.threads t ≡ Some thread → thread.core.arch.number ≡ t

-- every thread has ended
abbrev pub AllEnded : List Thread → Type 0
AllEnded threads = (t : ℕ) (thread : Thread) → slice_get threads t ≡ Some thread → (e : End) × (thread.core.over ≡ Some e)

-- the last book of a run, and that a report of what the run has left shows what the book does
pub record LastCovered (job : JobData) (start : Machine) (turns : List ℕ) : Type 0 where
  pub book : Book
  pub last : book_of job start turns ≡ Some book
  pub covered : Covered job (run job start turns) book
