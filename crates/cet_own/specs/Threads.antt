-- Where a thread stands between two accesses, and what it claims of the rest of its row. Source: own.
use Rattle.std.specs.Prelude.{◌≡◌, ℕ, false, List, [], Option, Some, None}
use Rattle.cet_words.specs.Job.{JobData}
use Rattle.cet_isa.specs.declared.threads.Arch.{Arch}
use Rattle.cet_isa.specs.declared.threads.End.{End}
use Rattle.cet_isa.specs.declared.threads.End.TheVariants as ending
use Rattle.cet_isa.specs.declared.threads.Fault.{Fault}
use Rattle.cet_book.specs.declared.entries.Entry.{Entry}
use Rattle.cet_book.specs.Book.{Book, region, current_of}
use Rattle.cet_book.specs.Relied.{Held}
use Rattle.cet_page.specs.Core.{Core, kept_by, unheld}
use Rattle.cet_page.specs.Machine.{Thread}
use Rattle.cet_page.specs.Row.{row}
use Rattle.cet_page.specs.Trail.{Visit, trail_of}
use Rattle.cet_page.specs.ValsData.{ValsData}
use Rattle.cet_page.specs.Within.{Rests, Waits}
use Rattle.cet_page.specs.declared.finishes.Finish.{Finish}
use Rattle.cet_page.specs.declared.finishes.Finish.TheVariants.{Noted, Posted, Exited, Stopped}
use Rattle.cet_own.specs.Claims.{AtRest, HasNone, Stacked}
use Rattle.cet_own.specs.Facts.{AllTold}
use Rattle.cet_own.specs.Frame.{SteadyAt}
use Rattle.cet_own.specs.Owed.{State, own_stack, rules}
use Rattle.cet_own.specs.Past.{below_frame, drew, frame_pushed, held_in, numbered}
use Rattle.cet_own.specs.Safe.{AtReturn, IsReturnFault, ReturnsBy}
use Rattle.cet_own.specs.ToldTokens.{MissesToken, TokensBy}

-- SSP is at the top of the thread's region before each access
abbrev pub During : Arch → List Visit → State → Type 0
During arch past s = Stacked arch.number s.book (below_frame (frame_pushed past) arch.ssp)

-- a fault leaves the thread as it was, and one of a return has its names
abbrev pub Fails : JobData → Arch → State → Fault → Type 0
Fails job arch s e = AtRest arch.number s.book arch.ssp × (AtReturn job arch → IsReturnFault e.name e.code) × MissesToken s.book e.code e.a e.name

-- the entries of a thread's region
abbrev pub entries_of : (t : ℕ) → Book → List Entry
entries_of t b = (region b (current_of t b)).entries

-- What holds at the end of a row: the thread is at rest, or has nothing left, and a return goes right by the entries
-- before the last access.
abbrev pub Ends : JobData → Arch → (past : List Visit) → (before s : State) → Finish → Type 0
Ends job arch past before s (Noted next r) =
    AtRest arch.number s.book next.ssp × ((held now : Option ℕ) → ReturnsBy job (entries_of arch.number before.book) (record arch { held = held }) (kept_by arch now next) r r.what) × TokensBy before.book s.book r r.what
Ends job arch past before s (Posted next) = AtRest arch.number s.book next.ssp × (drew past ≡ false) × (numbered past ≡ false) × (next.rip ≡ arch.rip)
Ends job arch past before s (Exited next r status) =
    HasNone arch.number s.book × ((held now : Option ℕ) → ReturnsBy job (entries_of arch.number before.book) (record arch { held = held }) (kept_by arch now next) r r.what) × TokensBy before.book s.book r r.what
Ends job arch past before s Stopped = AtRest arch.number s.book arch.ssp × (drew past ≡ false) × (numbered past ≡ false)

-- the claim on what is left of a thread's row
abbrev pub Left : JobData → Arch → (before s : State) → ValsData → Type 0
Left job arch before s seen = SteadyAt (rules job arch.number) (During arch) (Ends job arch) (λ p. Fails job arch) [] before s (row job arch) seen.accesses seen.values

-- a thread that waits for an access
pub record InRow (job : JobData) (t : ℕ) (s : State) (core : Core) : Type 0 where
  pub waits : Waits job core
  pub number : core.arch.number ≡ t
  -- it holds what its row has taken, and what it has seen stays told
  pub holding : core.arch.held ≡ held_in (trail_of job core)
  pub own : (k : ℕ) → core.arch.held ≡ Some k → k ≡ own_stack job core.arch.number
  pub told : AllTold job.image s.book (trail_of job core)
  pub before : State
  pub left : Left job (unheld core.arch) before s core.vals

-- an ended thread is at rest, and in no row
abbrev pub Ended : JobData → (t : ℕ) → State → Core → Type 0
Ended job t s core = AtRest t s.book core.arch.ssp × (trail_of job core ≡ []) × Rests job core × (core.arch.number ≡ t)

abbrev pub CoreStands : JobData → (t : ℕ) → State → Core → Option End → Type 0
CoreStands job t s core None = InRow job t s core
CoreStands job t s core (Some (ending.Exit status)) = HasNone t s.book × Rests job core × (core.arch.number ≡ t)
CoreStands job t s core (Some ending.Group) = Ended job t s core
CoreStands job t s core (Some ending.Limit) = Ended job t s core

-- a thread by its number, where it is born
abbrev pub ThreadStands : JobData → (t : ℕ) → State → Option Thread → Type 0
ThreadStands job t s None = HasNone t s.book
ThreadStands job t s (Some thread) = Held t s.book thread.core.arch.held × CoreStands job t s thread.core thread.core.over
