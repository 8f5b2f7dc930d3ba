-- Passes with the records of their threads, how they go on, and how much work is left to them. Source: own.
use Rattle.std.specs.Prelude.{◌≡◌, ◌≢◌, ℕ, ◌+◌, ◌-◌, ◌*◌, ◌^◌, ◌<◌, ◌≤◌, ◌⊎◌, List, [], ◌∷◌, ◌++◌, length, Option, Some, None, All, sum_by}
use Rattle.std.specs.List.{Contains}
use Rattle.cet_words.specs.Job.{JobData}
use Rattle.cet_words.specs.Layout.{thread_limit}
use Rattle.cet_isa.specs.declared.threads.Record.{Record}
use Rattle.cet_cpu.specs.Cpu.{CpuData}
use Rattle.cet_page.specs.Core.{Core, After}
use Rattle.cet_page.specs.Left.{left_of}
use Rattle.cet_page.specs.Machine.{Thread, thread_after}
use Rattle.cet_page.specs.Numbered.{TellsOf}
use Rattle.cet_page.specs.Within.{IsCore}
use Rattle.cet_run.specs.TracedThreads.{core_of}
use Rattle.cet_shared.specs.Held.{IsOf, Place, first_of, newborn}
use Rattle.cet_shared.specs.Performed.{left_by}
use Rattle.cet_pool.specs.declared.lives.Live.{Live}

-- a pass's own thread
abbrev pub own : Live → Thread
own live = first_of live.pass.view.threads

-- The pass is one of this table, with its own thread and no other, and the records are that thread's.
pub record IsLive (place : Place) (live : Live) : Type 0 where
  pub of : IsOf place live.pass
  pub threads : live.pass.view.threads ≡ own live ∷ []
  pub born : live.pass.view.born ≡ []
  pub trace : live.records ≡ (own live).trace

-- its thread hasn't ended
pub record IsReady (place : Place) (pass : Live) : Type 0 where
  pub live : IsLive place pass
  pub goes : (own pass).core.over ≡ None
  pub state : IsCore place.job (own pass).core

-- its thread has ended
pub record IsOver (place : Place) (pass : Live) : Type 0 where
  pub live : IsLive place pass
  pub over : (own pass).core.over ≢ None

-- ---- how they go on

-- this is so of one of the passes
abbrev pub OfOne : (Live → Type 0) → List Live → Type 0
OfOne P xs = (x : Live) × Contains xs x × P x

-- the pass's own thread has this number
abbrev pub Numbers : ℕ → Live → Type 0
Numbers n live = (own live).core.arch.number ≡ n

-- it has told of thread n by a record, or is about to
abbrev pub Tells : JobData → ℕ → Live → Type 0
Tells job n live = TellsOf job (own live) n

-- the accesses that a thread may make, at most
abbrev pub most_left : JobData → ℕ
most_left job = 4096 * (job.limit + length job.signals + 1)

-- A thread's weight is above that of all threads that it and its children may bear, since a child's number is above its
-- parent's: it is what the thread may still do, times a power that falls with its number.
unfoldable pub weight : JobData → Core → ℕ
weight job core = left_of job core core.over * (most_left job + 1) ^ (thread_limit - 1 - core.arch.number)

abbrev pub weigh : JobData → List Live → ℕ
weigh job xs = sum_by (λ x. weight job (own x).core) xs

-- At least k accesses lead from these passes to those: no thread is lost, each child that is told of is there, and the weight
-- falls.
pub record Goes (job : JobData) (k : ℕ) (before after : List Live) : Type 0 where
  pub kept : (n : ℕ) → OfOne (Numbers n) before → OfOne (Numbers n) after
  pub told : (n : ℕ) → OfOne (Tells job n) after → OfOne (Tells job n) before ⊎ OfOne (Numbers n) after
  pub falls : weigh job after + k ≤ weigh job before

-- what the next access of a pass's own thread leaves that found this in its word
abbrev pub left_at : JobData → Live → (found : ℕ) → After
left_at job live found = left_by job (own live).core found

-- The pass's own thread made its next access, and its record is among the records. A child that it bore has no pass yet.
pub record Accessed (place : Place) (before after : Live) (child : Option CpuData) : Type 0 where
  pub found : ℕ
  pub of : IsOf place after.pass
  pub threads : after.pass.view.threads ≡ thread_after (own before) (left_at place.job before found) ∷ []
  pub born : after.pass.view.born ≡ newborn (left_at place.job before found).child
  pub trace : after.records ≡ (thread_after (own before) (left_at place.job before found)).trace
  pub bears : core_of child ≡ (left_at place.job before found).child
  pub above : (core : Core) → (left_at place.job before found).child ≡ Some core → (own before).core.arch.number < core.arch.number

-- A pass after at least k accesses of its own thread. The passes of the children that it bore come behind the others.
pub record Went (place : Place) (k : ℕ) (before after : Live) (old new : List Live) : Type 0 where
  pub children : List Live
  pub added : new ≡ old ++ children
  pub lives : All (IsLive place) children
  pub itself : IsLive place after
  pub goes : Goes place.job k (before ∷ []) (after ∷ children)
