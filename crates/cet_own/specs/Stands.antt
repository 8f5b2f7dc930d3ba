-- The ownership invariant: what holds of words, threads and book at each moment of each run. It is thirteen facts, which have both
-- words and lists, and what they rest on from one access to the next. Source: own.
use Rattle.std.specs.Prelude.{◌≡◌, ◌↔◌, ℕ, ◌+◌, length, slice_get, bit_or, Some}
use Rattle.cet_words.specs.Job.{JobData}
use Rattle.cet_words.specs.Layout.{word_count}
use Rattle.cet_book.specs.Book.{Book, region, top}
use Rattle.cet_book.specs.Facts.{Place, Stack, is_left, links, one}
use Rattle.cet_book.specs.Stack.{slot_word, tops}
use Rattle.cet_page.specs.Machine.{Machine, Thread}
use Rattle.cet_own.specs.ExitWord.{EndsRight}
use Rattle.cet_own.specs.Facts.{AllBounds, Counters, Counts, HasMade, Restorers, RowValues, ShadowPages, SteadyRow, SupervisorTokens}
use Rattle.cet_own.specs.Safe.{IsSafeAt}
use Rattle.cet_own.specs.Threads.{ThreadStands}
use Rattle.cet_own.specs.ToldTokens.{IsToken}

pub record Stands (job : JobData) (m : Machine) (b : Book) : Type 0 where
  pub safe : IsSafeAt job m b
  pub shadow_pages : ShadowPages m.words b
  -- each entry has its word in memory
  pub entries_written : (i : ℕ) → Stack m.words (tops b) (top (region b i)) (region b i).entries
  -- the word at p is (p + 8) | 1 exactly where a parked region has its token there
  pub tokens : (p : ℕ) → Place p → slot_word m.words p ≡ bit_or (p + 8) 1 ↔ IsToken b p
  -- Previous(s) stands once in the region that s was left for, and nowhere else
  pub previous_left : (q s : ℕ) → links s (region b q).entries ≡ one (is_left q (region b s).holder)
  pub supervisor_tokens : SupervisorTokens job m b
  pub restorers : Restorers job.image m.words
  pub steady_rows : (t : ℕ) (thread : Thread) → slice_get m.threads t ≡ Some thread → SteadyRow job m.words b t thread.core
  pub counters : Counters m.words m.threads b
  -- each thread has the start of a region of eight pages
  pub made : (t : ℕ) (thread : Thread) → slice_get m.threads t ≡ Some thread → HasMade thread.core.arch.made b
  pub bounds : AllBounds job.image m.words b
  pub row_values : (t : ℕ) (thread : Thread) → slice_get m.threads t ≡ Some thread → RowValues job m.words b thread.core
  pub counts : Counts job m.words m.threads
  -- ---- and on what these rest: all words are there, and eight supervisor stacks
  pub size : length m.words ≡ word_count
  pub eight : length b.stacks ≡ 8
  -- EXIT says how the process ends
  pub ending : EndsRight m
  -- each thread claims the rest of its row: it can go on whatever the others do, and keeps all this at each access
  pub rows : (t : ℕ) → ThreadStands job t (record { book = b }) (slice_get m.threads t)
