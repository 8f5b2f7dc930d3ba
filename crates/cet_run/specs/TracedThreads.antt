-- The threads of a run, with what is kept beside them. Source: own.
use Rattle.std.specs.Prelude.{◌≡◌, ℕ, List, [], ◌∷◌, ◌++◌, Option, Some, None, All, map, option_map, slice_get, slice_set}
use Rattle.cet_words.specs.Access.{answer, after}
use Rattle.cet_words.specs.Job.{JobData}
use Rattle.cet_words.specs.declared.accesses.Access.{Access}
use Rattle.cet_isa.specs.declared.threads.Record.{Record}
use Rattle.cet_cpu.specs.Cpu.{CpuData, IsCpu}
use Rattle.cet_page.specs.Core.{Core, next_access, taken}
use Rattle.cet_page.specs.Machine.{Thread, thread_after}
use Rattle.cet_run.specs.Schedule.{live_from}
use Rattle.cet_run.specs.Turns.{IsGoing, total_left}

pub record TracedThreadData : Type 0 where
  pub cpu : CpuData
  pub trace : List Record

abbrev pub thread_of : TracedThreadData → Thread
thread_of traced = record { core = traced.cpu.core; trace = traced.trace }

abbrev pub threads_of : List TracedThreadData → List Thread
threads_of all_traced = map thread_of all_traced

-- the child without its code and next access
abbrev pub core_of : Option CpuData → Option Core
core_of child = option_map (λ (cpu : CpuData). cpu.core) child

-- a child comes last, and has no record yet
abbrev pub with_traced : List TracedThreadData → Option CpuData → List TracedThreadData
with_traced all_traced None = all_traced
with_traced all_traced (Some cpu) = all_traced ++ record { cpu = cpu; trace = [] } ∷ []

-- the words answered the thread's next access with this value
pub record Asked (job : JobData) (traced : TracedThreadData) (words words' : List ℕ) (value : ℕ) : Type 0 where
  pub access : Access
  pub next : next_access job traced.cpu.core ≡ Some access
  pub left : words' ≡ after words access
  pub gave : value ≡ answer words access

-- they did so to the thread at a place
pub record AskedAt (job : JobData) (all_traced : List TracedThreadData) (at : ℕ) (words words' : List ℕ) (value : ℕ) : Type 0 where
  pub traced : TracedThreadData
  pub here : slice_get all_traced at ≡ Some traced
  pub asked : Asked job traced words words' value

-- the thread that the one at a place bears by this answer to its next access, if any, came last
pub record BoreAt (job : JobData) (old new : List TracedThreadData) (at value : ℕ) : Type 0 where
  pub traced : TracedThreadData
  pub here : slice_get old at ≡ Some traced
  pub child : Option CpuData
  pub bears : core_of child ≡ (taken job traced.cpu.core value).child
  pub is : new ≡ with_traced old child

-- one thread is another than before
pub record IsSetAt (old new : List TracedThreadData) (at : ℕ) : Type 0 where
  pub traced : TracedThreadData
  pub is : new ≡ slice_set old at traced

-- the thread at a place took this answer to its next access
pub record TookAt (job : JobData) (old new : List TracedThreadData) (at value : ℕ) : Type 0 where
  pub traced : TracedThreadData
  pub here : slice_get old at ≡ Some traced
  pub set : IsSetAt old new at
  pub took : thread_of set.traced ≡ thread_after (thread_of traced) (taken job traced.cpu.core value)

-- the numbers are those of the threads that were live before this one's turn
pub record LiveBefore (all_traced : List TracedThreadData) (live : List ℕ) (at : ℕ) : Type 0 where
  pub old : List TracedThreadData
  pub set : IsSetAt old all_traced at
  pub going : IsGoing (threads_of old) at
  pub numbers : live ≡ live_from (threads_of old) 0

-- each is a thread of the job
abbrev pub AllTraced : JobData → List TracedThreadData → Type 0
AllTraced job all_traced = All (λ traced. IsCpu job traced.cpu) all_traced

-- threads of the job, and the numbers of those that are live
pub record AreGuests (job : JobData) (all_traced : List TracedThreadData) (live : List ℕ) : Type 0 where
  pub cores : AllTraced job all_traced
  pub numbers : live ≡ live_from (threads_of all_traced) 0

-- the accesses that are left to all threads, and to those not yet born, at most
abbrev pub left_to : JobData → List TracedThreadData → ℕ
left_to job all_traced = total_left job (threads_of all_traced)
