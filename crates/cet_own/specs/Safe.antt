-- What every run promises of shadow stacks. Source: Intel SDM volume 1 (CET shadow stacks) for returns; own for the book.
use Rattle.std.specs.Prelude.{◌≡◌, ℕ, ◌<◌, ◌↔◌, Bool, true, false, List, [], ◌∷◌, length, Option, Some, None, slice_get}
use Rattle.std.specs.Prelude.{IsTrue}
use Rattle.cet_words.specs.Access.{answer}
use Rattle.cet_words.specs.Bytes.{code_byte}
use Rattle.cet_words.specs.Job.{JobData}
use Rattle.cet_words.specs.declared.accesses.Access.{Access}
use Rattle.cet_isa.specs.Address.{canonical}
use Rattle.cet_isa.specs.Reading.{Decoding, Read, Short, Unknown, decoded}
use Rattle.cet_isa.specs.declared.instructions.Instr.{Instr}
use Rattle.cet_isa.specs.declared.instructions.Instr.TheVariants as instr
use Rattle.cet_isa.specs.declared.threads.Arch.{Arch}
use Rattle.cet_isa.specs.declared.threads.End.{End}
use Rattle.cet_isa.specs.declared.threads.End.TheVariants as ending
use Rattle.cet_isa.specs.declared.threads.FaultName.{FaultName}
use Rattle.cet_isa.specs.declared.threads.FaultName.TheVariants.{Ud, Gp, Pf, Ac, Cp}
use Rattle.cet_isa.specs.declared.threads.Record.{Record}
use Rattle.cet_isa.specs.declared.threads.What.{What}
use Rattle.cet_isa.specs.declared.threads.What.TheVariants as what
use Rattle.cet_book.specs.declared.entries.Entry.{Entry}
use Rattle.cet_book.specs.declared.entries.Entry.TheVariants.{Call, Restorer, Frame, Previous, Blank}
use Rattle.cet_book.specs.declared.entries.Holder.TheVariants.{Current}
use Rattle.cet_book.specs.Book.{Book, region, top, stack_of}
use Rattle.cet_page.specs.Core.{Core, After, next_access, taken}
use Rattle.cet_page.specs.Machine.{Machine, Thread}
use Rattle.cet_page.specs.Row.{instruction_bytes}
use Rattle.cet_own.specs.Along.{Along}
use Rattle.cet_own.specs.Past.{in_force}

-- ---- where returns go

-- The newest entry lets a return go to the target: it is the call, or the signal, that was to return there; or else no
-- instruction is at the target, since it lies in no executable page.
abbrev pub GoesRight : JobData → List Entry → (target : ℕ) → Type 0
GoesRight job [] target = ⊥
GoesRight job (Call back ∷ es) target = target ≡ back
GoesRight job (Restorer back ∷ es) target = target ≡ back
GoesRight job (Frame ∷ es) target = ⊥
GoesRight job (Previous s ∷ es) target = IsTrue (canonical target) × (code_byte job.image.segments target ≡ None)
GoesRight job (Blank ∷ es) target = IsTrue (canonical target) × (code_byte job.image.segments target ≡ None)

-- a fault of a return: #CP of a near return, #GP, #PF or #AC
abbrev pub IsReturnFault : FaultName → (code : ℕ) → Type 0
IsReturnFault Ud code = ⊥
IsReturnFault Gp code = Unit {0}
IsReturnFault Pf code = Unit {0}
IsReturnFault Ac code = Unit {0}
IsReturnFault Cp code = code ≡ 1

-- RET, with an immediate or without
abbrev pub is_near_return : Instr → Bool
is_near_return instr.Ret = true
is_near_return (instr.RetImm bytes) = true
is_near_return i = false

-- the bytes at RIP are a near return
abbrev pub IsNearReturn : Decoding → Type 0
IsNearReturn (Read i len) = IsTrue (is_near_return i)
IsNearReturn Short = ⊥
IsNearReturn Unknown = ⊥

abbrev pub AtReturn : JobData → Arch → Type 0
AtReturn job arch = (arch.due ≡ None) × IsNearReturn (decoded (instruction_bytes job arch))

-- no near return stands at RIP
abbrev pub IsElsewhere : JobData → Arch → Type 0
IsElsewhere job arch = AtReturn job arch → ⊥

-- A record of a return. Where it completes it goes right; where it faults, the fault is named, it stands at the return and
-- RIP stays. A return has no record but these, that of a signal that comes in its place, which goes to the handler, and those of a
-- signal that is ignored or kills, or of a supervisor stack that is busy, which leave RIP as it was.
abbrev pub ReturnsBy : JobData → List Entry → (before after : Arch) → Record → What → Type 0
ReturnsBy job entries before after r what.Ret = GoesRight job entries after.rip
ReturnsBy job entries before after r (what.Fault name) = AtReturn job before → IsReturnFault name r.code × (r.rip ≡ before.rip) × (after.rip ≡ before.rip)
ReturnsBy job entries before after r what.Step = IsElsewhere job before
ReturnsBy job entries before after r what.Call = IsElsewhere job before
ReturnsBy job entries before after r what.Raise = IsElsewhere job before
ReturnsBy job entries before after r what.Take = IsElsewhere job before
ReturnsBy job entries before after r what.Save = IsElsewhere job before
ReturnsBy job entries before after r what.Busy = after.rip ≡ before.rip
ReturnsBy job entries before after r what.Sys = IsElsewhere job before
ReturnsBy job entries before after r what.Claim = IsElsewhere job before
ReturnsBy job entries before after r what.Born = IsElsewhere job before
ReturnsBy job entries before after r what.Wrote = IsElsewhere job before
ReturnsBy job entries before after r what.Signal = Unit {0}
ReturnsBy job entries before after r what.Ignore = after.rip ≡ before.rip
ReturnsBy job entries before after r what.SigReturn = IsElsewhere job before
ReturnsBy job entries before after r what.Kill = after.rip ≡ before.rip

-- and an access without a record leaves RIP as it was
abbrev pub NotedReturns : JobData → List Entry → Core → After → Option Record → Type 0
NotedReturns job entries core left None = left.core.arch.rip ≡ core.arch.rip
NotedReturns job entries core left (Some r) = ReturnsBy job entries core.arch left.core.arch r r.what

abbrev pub AccessReturns : JobData → Machine → Thread → List Entry → Option Access → Type 0
AccessReturns job m thread entries None = Unit {0}
AccessReturns job m thread entries (Some a) = NotedReturns job entries thread.core (taken job thread.core (answer m.words a)) (taken job thread.core (answer m.words a)).noted

-- every list of entries that is current on thread t
abbrev pub ThreadReturns : JobData → Machine → Book → (t : ℕ) → Option Thread → Type 0
ThreadReturns job m b t None = Unit {0}
ThreadReturns job m b t (Some thread) = (i : ℕ) → (region b i).holder ≡ Current t → AccessReturns job m thread (region b i).entries (next_access job thread.core)

-- the turn of thread t, by the book before it, is no wrong return
abbrev pub TurnReturns : JobData → Machine → Book → (t : ℕ) → Type 0
TurnReturns job m b t = ThreadReturns job m b t (slice_get m.threads t)

-- ---- what holds at each moment

-- the thread hasn't ended by exit
abbrev pub KeepsStack : Option End → Type 0
KeepsStack None = Unit {0}
KeepsStack (Some (ending.Exit status)) = ⊥
KeepsStack (Some ending.Group) = Unit {0}
KeepsStack (Some ending.Limit) = Unit {0}

-- one region and no other is current on a thread, and its shadow stack pointer is at the top
pub record HasStack (b : Book) (t ssp : ℕ) : Type 0 where
  pub number : ℕ
  pub current : (region b number).holder ≡ Current t
  pub only : (i : ℕ) → (region b i).holder ≡ Current t → i ≡ number
  pub at : ssp ≡ top (region b number)

pub record IsSafeAt (job : JobData) (m : Machine) (b : Book) : Type 0 where
  -- each thread that hasn't ended by exit has exactly one region, with its SSP in force at the top
  pub stacks : (t : ℕ) (thread : Thread) → slice_get m.threads t ≡ Some thread → KeepsStack thread.core.over → HasStack b t (in_force job thread.core)
  -- no region is current on a thread that isn't born, or ended by exit
  pub owners : (t i : ℕ) → (region b i).holder ≡ Current t → (thread : Thread) × (slice_get m.threads t ≡ Some thread) × KeepsStack thread.core.over
  -- the closed ranges of two regions have no address in common
  pub apart : (i j : ℕ) → i < j → j < length b.regions → (region b i).end < (region b j).start
  -- a thread holds the supervisor stack that the book says, and a thread that holds one is born
  pub held : (t : ℕ) (thread : Thread) → slice_get m.threads t ≡ Some thread → (k : ℕ) → (thread.core.arch.held ≡ Some k) ↔ (stack_of b k ≡ Some t)
  pub holders : (t k : ℕ) → stack_of b k ≡ Some t → (thread : Thread) × (slice_get m.threads t ≡ Some thread)

-- along these turns the facts hold at each moment, the book has each change, and no return goes wrong
abbrev pub Safe : JobData → Machine → Book → (turns : List ℕ) → Type 0
Safe job m b turns = Along (IsSafeAt job) (λ m before after t. TurnReturns job m before t) job m b turns
