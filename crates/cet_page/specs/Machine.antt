-- The whole machine, one access after another. Source: own.
use Rattle.std.specs.Prelude.{◌≡◌, ℕ, List, [], ◌∷◌, ◌++◌, Option, Some, None, slice_get, slice_set}
use Rattle.cet_words.specs.Access.{answer, after}
use Rattle.cet_words.specs.Job.{JobData}
use Rattle.cet_words.specs.Start.{IsStart}
use Rattle.cet_words.specs.declared.accesses.Access.{Access}
use Rattle.cet_isa.specs.declared.threads.Record.{Record}
use Rattle.cet_page.specs.Core.{Core, After, first_core, next_access, taken}

-- a thread and its trace, the oldest record first
pub record Thread : Type 0 where
  pub core : Core
  pub trace : List Record

-- the words, and the threads by their numbers
pub record Machine : Type 0 where
  pub words : List ℕ
  pub threads : List Thread

abbrev pub machine : List ℕ → List Thread → Machine
machine words threads = record { words = words; threads = threads }

abbrev pub traced : List Record → Option Record → List Record
traced trace None = trace
traced trace (Some noted) = trace ++ noted ∷ []

abbrev pub thread_after : Thread → After → Thread
thread_after thread left = record { core = left.core; trace = traced thread.trace left.noted }

abbrev pub with_child : List Thread → Option Core → List Thread
with_child threads None = threads
with_child threads (Some core) = threads ++ record { core = core; trace = [] } ∷ []

-- thread t makes this access
abbrev pub accessed : JobData → Machine → (t : ℕ) → Thread → Access → Machine
accessed job m t thread a = record {
  words = after m.words a;
  threads = with_child (slice_set m.threads t (thread_after thread (taken job thread.core (answer m.words a)))) (taken job thread.core (answer m.words a)).child;
}

abbrev pub act : JobData → Machine → (t : ℕ) → Thread → Option Access → Machine
act job m t thread None = m
act job m t thread (Some a) = accessed job m t thread a

abbrev pub step_by : JobData → Machine → (t : ℕ) → Option Thread → Machine
step_by job m t None = m
step_by job m t (Some thread) = act job m t thread (next_access job thread.core)

-- One turn: thread t makes its next access. A thread that isn't born or has ended changes nothing.
unfoldable pub step : JobData → Machine → (t : ℕ) → Machine
step job m t = step_by job m t (slice_get m.threads t)

-- the turns of a list of thread numbers
abbrev pub run : JobData → Machine → (turns : List ℕ) → Machine
run job m [] = m
run job m (t ∷ ts) = run job (step job m t) ts

-- the machine at the start: the start words, and thread 0 alone
pub record Starts (job : JobData) (m : Machine) : Type 0 where
  pub words : IsStart job.image m.words
  pub threads : m.threads ≡ record { core = first_core job; trace = [] } ∷ []
