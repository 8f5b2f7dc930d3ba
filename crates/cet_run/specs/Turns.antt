-- A run by turns, from one machine to another. Source: own.
use Rattle.std.specs.Prelude.{◌≡◌, ℕ, ◌+◌, ◌-◌, ◌*◌, List, ◌++◌, length, drop, Option, Some, None, IsSome, slice_get, slice_set, sum_by}
use Rattle.cet_words.specs.Job.{JobData, IsJob}
use Rattle.cet_words.specs.Layout.{thread_limit}
use Rattle.cet_page.specs.Left.{left_of}
use Rattle.cet_page.specs.Machine.{Machine, Thread, Starts, run, step}
use Rattle.cet_run.specs.Schedule.{IsComplete, IsMix, IsRobin, live_from}

-- the thread of this number is there and hasn't ended
abbrev pub IsGoing : List Thread → ℕ → Type 0
IsGoing threads t = (thread : Thread) × (slice_get threads t ≡ Some thread) × (thread.core.over ≡ None)

abbrev pub NotGoing : Option Thread → Type 0
NotGoing None = Unit {0}
NotGoing (Some thread) = IsSome thread.core.over

-- no thread has this number, or it has ended
abbrev pub IsStill : List Thread → ℕ → Type 0
IsStill threads t = NotGoing (slice_get threads t)

-- the accesses that a thread may make, at most
abbrev pub whole_thread : JobData → ℕ
whole_thread job = 4096 * job.limit + 4096 * length job.signals + 4096

abbrev pub thread_left : JobData → Thread → ℕ
thread_left job thread = left_of job thread.core thread.core.over

-- the accesses that are left to all threads, and to those not yet born, at most
abbrev pub total_left : JobData → List Thread → ℕ
total_left job threads = sum_by (thread_left job) threads + (thread_limit - length threads) * whole_thread job

-- how threads stand after a turn: one is another than before, and more may come last
pub record IsTurned (threads threads' : List Thread) (t : ℕ) : Type 0 where
  pub thread : Thread
  pub more : List Thread
  pub is : threads' ≡ slice_set threads t thread ++ more

-- a moment of a run of the job
pub record Reached (job : JobData) (m : Machine) : Type 0 where
  pub is_job : IsJob job
  pub start : Machine
  pub starts : Starts job start
  pub turns : List ℕ
  pub ran : run job start turns ≡ m

-- The live thread at a place in the order of the live ones had a turn, and the live ones after it begin at the place `next`.
pub record TurnedAt (job : JobData) (m m' : Machine) (place next : ℕ) : Type 0 where
  pub thread : ℕ
  pub at : slice_get (live_from m.threads 0) place ≡ Some thread
  pub step : m' ≡ step job m thread
  pub later : drop next (live_from m'.threads 0) ≡ live_from (drop (thread + 1) m'.threads) (thread + 1)

-- a whole run by Robin leads from one machine to the other
pub record Robined (job : JobData) (m m' : Machine) : Type 0 where
  pub turns : List ℕ
  pub robin : IsRobin job m None turns
  pub ran : run job m turns ≡ m'

-- a whole run by the numbers of Mix does
pub record Mixed (job : JobData) (x : ℕ) (m m' : Machine) : Type 0 where
  pub turns : List ℕ
  pub mix : IsMix job m x turns
  pub ran : run job m turns ≡ m'

-- these turns lead from the job's start to this machine, in which every thread has ended
pub record Finishes (job : JobData) (start : Machine) (turns : List ℕ) (m : Machine) : Type 0 where
  pub starts : Starts job start
  pub ran : run job start turns ≡ m
  pub complete : IsComplete m
