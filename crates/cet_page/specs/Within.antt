-- What holds of a thread of a job between two of its accesses. Source: own.
use Rattle.std.specs.Prelude.{◌≡◌, ℕ, ◌<◌, ◌≤◌, List, Option, Some, None}
use Rattle.cet_words.specs.declared.accesses.Access.{Access}
use Rattle.cet_words.specs.Change.{Change}
use Rattle.cet_words.specs.Job.{JobData}
use Rattle.cet_isa.specs.declared.threads.Arch.{Arch}
use Rattle.cet_isa.specs.declared.threads.End.{End}
use Rattle.cet_page.specs.Script.{Wants}
use Rattle.cet_page.specs.ValsData.{no_vals}
use Rattle.cet_page.specs.Finish.{IsMade}
use Rattle.cet_page.specs.Core.{Core, row_played}
use Rattle.cet_page.specs.Trail.{vals_of, trail_of}
use Rattle.cet_words.specs.Layout.{thread_limit}

-- the thread has a number, and eight pages that the kernel made for it
pub record IsState (arch : Arch) : Type 0 where
  pub number : arch.number < thread_limit
  pub made : IsMade arch.made

-- the thread is below the limit, and its row waits for the answer to an access after those that it has seen
pub record Waits (job : JobData) (core : Core) : Type 0 where
  pub state : IsState core.arch
  pub count : core.arch.count < job.limit
  pub limit : job.limit ≤ 100000
  pub vals : vals_of (trail_of job core) ≡ core.vals
  pub waits : (a : Access) × (changes : ℕ → List Change) × (row_played job core.arch core.vals ≡ Wants a changes)

-- the thread is at an end: it has made at most as many records as the limit says, and has seen nothing of a further row
pub record Rests (job : JobData) (core : Core) : Type 0 where
  pub state : IsState core.arch
  pub count : core.arch.count ≤ job.limit
  pub vals : core.vals ≡ no_vals

abbrev pub CoreAt : JobData → Core → Option End → Type 0
CoreAt job core (Some e) = Rests job core
CoreAt job core None = Waits job core

-- a thread of the job: it has ended, or it waits
abbrev pub IsCore : JobData → Core → Type 0
IsCore job core = CoreAt job core core.over
