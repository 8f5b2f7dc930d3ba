-- A thread between two of its accesses, with what is kept beside it. Source: own.
use Rattle.std.specs.Prelude.{◌≡◌, ℕ, List, Option, Some, None, IfSome, Result, Ok, Err}
use Rattle.cet_words.specs.Job.{JobData}
use Rattle.cet_words.specs.declared.accesses.Access.{Access}
use Rattle.cet_isa.specs.declared.threads.Arch.{Arch}
use Rattle.cet_page.specs.Core.{Core, row_played, kept_by, next_access}
use Rattle.cet_page.specs.Plays.{Suspends, Wanted}
use Rattle.cet_page.specs.Script.{Played, Completed}
use Rattle.cet_page.specs.Within.{IsCore}
use Rattle.cet_page.specs.declared.cursors.Mark.{Mark}
use Rattle.cet_page.specs.declared.cursors.Suspended.{Suspended}
use Rattle.cet_page.specs.declared.finishes.Finish.{Finish}
use Rattle.cet_cpu.specs.Changes.{finish_with, Stays}
use Rattle.cet_cpu.specs.Code.{IsCode}
use Rattle.cet_cpu.specs.declared.fetches.Code.{Code}
use Rattle.cet_cpu.specs.declared.kernel.RowEnd.{RowEnd}

-- the thread, the access that it waits for with its mark, and the code at RIP, once its row has read that
pub record CpuData : Type 0 where
  pub core : Core
  pub next : Option (Access × Mark)
  pub code : Option Code

-- what is kept is the code at RIP
abbrev pub KeepsCode : JobData → CpuData → Type 0
KeepsCode job cpu = IfSome cpu.code (IsCode job.image.segments cpu.core.arch.rip)

abbrev pub awaited : Option (Access × Mark) → Option Access
awaited None = None
awaited (Some next) = Some next.0

-- the row of the thread wants this access, with this mark
abbrev pub IsWanted : JobData → Core → Access × Mark → Type 0
IsWanted job core next = Wanted (row_played job core.arch core.vals) next.0 next.1

-- a thread of the job, with its next access
pub record IsCpu (job : JobData) (cpu : CpuData) : Type 0 where
  pub state : IsCore job cpu.core
  pub waits : awaited cpu.next ≡ next_access job cpu.core
  pub wanted : IfSome cpu.next (IsWanted job cpu.core)
  pub code : KeepsCode job cpu

-- the thread has this next access
pub record IsNext (job : JobData) (core : Core) (next : Access × Mark) : Type 0 where
  pub waits : next_access job core ≡ Some next.0
  pub wanted : IsWanted job core next

-- What a row has come to, as a function returns it that changes the state in its place: where the row is over, the thread
-- keeps its number and what it holds.
abbrev pub RefinesRow : Played Finish → (before after : Arch) → Result RowEnd Suspended → Type 0
RefinesRow came before after (Ok done) =
    (next : Arch) × (left : ℕ) × (values : List ℕ) × (after ≡ kept_by before before.held next)
    × (came ≡ Completed (finish_with next done) left values) × Stays before after (Ok done)
RefinesRow came before after (Err stop) = (after ≡ before) × Suspends came stop
