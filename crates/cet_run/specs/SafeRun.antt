-- A whole run of a job, and what it comes to. Source: own.
use Rattle.std.specs.Prelude.{◌≡◌, ℕ, List, Some, slice_index, map}
use Rattle.cet_words.specs.Layout.{exit_word}
use Rattle.cet_words.specs.Job.{JobData, IsJob}
use Rattle.cet_book.specs.Book.{Book, first_book}
use Rattle.cet_page.specs.Machine.{Machine, Starts, run}
use Rattle.cet_own.specs.Along.{Along}
use Rattle.cet_own.specs.Event.{book_of}
use Rattle.cet_own.specs.ExitWord.{EndsRight}
use Rattle.cet_own.specs.Gates.{TurnTells}
use Rattle.cet_own.specs.Safe.{Safe}
use Rattle.cet_own.specs.Stands.{Stands}
use Rattle.cet_own.specs.Switched.{Raises, Switched}
use Rattle.cet_own.specs.Told.{kept_pointers}
use Rattle.cet_run.specs.Outcome.{thread_out, process_end}
use Rattle.cet_run.specs.Schedule.{IsComplete}
use Rattle.cet_run.specs.Shown.{shown_stacks}
use Rattle.cet_run.specs.declared.outcomes.Outcome.{Outcome}
use Rattle.cet_run.specs.declared.outcomes.ThreadOut.{ThreadOut}

-- what a finished run comes to, with its last book
abbrev pub outcome_of : Machine → Book → Outcome
outcome_of m b = record {
  threads = map thread_out m.threads;
  stacks = shown_stacks b m.threads;
  process = process_end (slice_index m.words exit_word) (map thread_out m.threads);
}

-- A run of the job by this schedule, in which every thread ended, and its outcome. It is a safe one, as every run is, the
-- ownership invariant holds at each of its moments, switches of shadow stacks leave both as they were, and its word EXIT is one
-- that a process may leave. Where the schedule may be any, this says of what some schedule led to.
pub record SafeRun (job : JobData) (Schedule : Machine → List ℕ → Type 0) (outcome : Outcome) : Type 0 where
  pub is_job : IsJob job
  pub start : Machine
  pub starts : Starts job start
  pub turns : List ℕ
  pub schedule : Schedule start turns
  pub complete : IsComplete (run job start turns)
  pub book : Book
  pub legal : book_of job start turns ≡ Some book
  pub is : outcome ≡ outcome_of (run job start turns) book
  pub safe : Safe job start first_book turns
  pub stands : Along (Stands job) (TurnTells job) job start first_book turns
  -- at the end it holds with the book that is reported
  pub last : Stands job (run job start turns) book
  -- what a switch to another shadow stack and back leaves, and what INCSSP takes off
  pub switched : Switched job start turns
  pub raises : Raises job start turns
  pub exit : EndsRight (run job start turns)

-- these turns from this start, and no others
pub record IsThis (start : Machine) (turns : List ℕ) (m : Machine) (given : List ℕ) : Type 0 where
  pub from : m ≡ start
  pub by : given ≡ turns

-- The words, the threads with their records and ends, and the pointers of those that keep their stacks are those that a run of
-- the job by these turns leaves, in which every thread has ended.
pub record IsLeft (job : JobData) (start : Machine) (turns : List ℕ) (words : List ℕ) (outs : List ThreadOut) (pointers : List (ℕ × ℕ)) : Type 0 where
  pub starts : Starts job start
  pub complete : IsComplete (run job start turns)
  pub words_left : words ≡ (run job start turns).words
  pub threads_left : outs ≡ map thread_out (run job start turns).threads
  pub pointers_left : pointers ≡ kept_pointers (run job start turns).threads
