-- A thread without its trace, and what one access does to it. Source: own: this is the atomic step of the machine.
use Rattle.std.specs.Prelude.{ℕ, ◌+◌, List, [], ◌∷◌, Option, Some, None, ◌==◌, if◌then◌else◌, slice_index, slice_set}
use Rattle.cet_words.specs.Layout.{first_region_end, first_region_start, thread_region_size}
use Rattle.cet_words.specs.Job.{JobData}
use Rattle.cet_words.specs.declared.accesses.Access.{Access}
use Rattle.cet_isa.specs.declared.threads.Fault.{Fault}
use Rattle.cet_isa.specs.declared.threads.Record.{Record}
use Rattle.cet_isa.specs.declared.threads.What.TheVariants as what
use Rattle.cet_isa.specs.declared.threads.Arch.{Arch}
use Rattle.cet_isa.specs.declared.threads.End.{End}
use Rattle.cet_isa.specs.declared.threads.End.TheVariants as ending
use Rattle.cet_words.specs.Change.{Change}
use Rattle.cet_page.specs.Script.{Played, Completed, Faulted, Wants, play, birth, held_after}
use Rattle.cet_page.specs.ValsData.{ValsData, no_vals, vals_after}
use Rattle.cet_page.specs.Gate.{after_syscall}
use Rattle.cet_page.specs.Row.{row}
use Rattle.cet_page.specs.declared.finishes.Finish.{Finish}
use Rattle.cet_page.specs.declared.finishes.Finish.TheVariants.{Noted, Posted, Exited, Stopped}

-- the state, what was seen in the present row, and the end
pub record Core : Type 0 where
  pub arch : Arch
  pub vals : ValsData
  pub over : Option End

-- what an access leaves: the thread, the record that it completed, and the thread that it bore
pub record After : Type 0 where
  pub core : Core
  pub noted : Option Record
  pub child : Option Core

-- the sixteen registers of thread 0: RSP stands below the end of the main stack
abbrev pub first_regs : List ℕ
first_regs = 0 ∷ 0 ∷ 0 ∷ 0 ∷ 0x7fffffc0 ∷ 0 ∷ 0 ∷ 0 ∷ 0 ∷ 0 ∷ 0 ∷ 0 ∷ 0 ∷ 0 ∷ 0 ∷ 0 ∷ []

-- thread 0, whose shadow stack is from 0x200001000 to 0x200009000, before the instruction at this address
abbrev pub core_at : (entry : ℕ) → Core
core_at entry = record {
  arch = record {
    regs = first_regs;
    rip = entry;
    flags = 2;
    ssp = first_region_end;
    mask = 0;
    count = 0;
    posted = 0;
    number = 0;
    made = first_region_start;
    due = None;
    held = None;
  };
  vals = no_vals;
  over = None;
}

abbrev pub first_core : JobData → Core
first_core job = core_at job.image.entry

-- Nothing within a row depends on the supervisor stack that is held: a row is that of the state without it.
abbrev pub unheld : Arch → Arch
unheld arch = record arch { held = None }

-- what a row has come to
abbrev pub row_played : JobData → Arch → ValsData → Played Finish
row_played job arch seen = play (row job (unheld arch)) seen.accesses seen.values

abbrev pub wanted : Played Finish → Option Access
wanted (Wants a changes) = Some a
wanted (Faulted e) = None
wanted (Completed x left values) = None

abbrev pub access_of : JobData → Core → Option End → Option Access
access_of job core (Some e) = None
access_of job core None = wanted (row_played job core.arch core.vals)

-- the next access; none where the thread has ended, and some where it waits in a row
unfoldable pub next_access : JobData → Core → Option Access
next_access job core = access_of job core core.over

-- the changes that come with a wanted access, where it gives this answer
abbrev pub changes_of : Played Finish → (answer : ℕ) → List Change
changes_of (Wants a changes) answer = changes answer
changes_of (Faulted e) answer = []
changes_of (Completed x left values) answer = []

abbrev pub next_changes : JobData → Core → (answer : ℕ) → List Change
next_changes job core answer = changes_of (row_played job core.arch core.vals) answer

-- the child of a clone: the parent's registers after SYSCALL with RAX 0 and the stack of RSI, and its own shadow stack
abbrev pub child_arch : Arch → (child start : ℕ) → Arch
child_arch arch child start = record arch {
  regs = slice_set (slice_set (slice_set (slice_set arch.regs 1 (after_syscall arch)) 11 arch.flags) 0 0) 4 (slice_index arch.regs 6);
  rip = after_syscall arch;
  ssp = start + thread_region_size;
  count = 0;
  posted = 0;
  number = child;
  made = start;
  due = None;
  held = None;
}

abbrev pub child_core : Arch → (child start : ℕ) → Core
child_core arch child start = record { arch = child_arch arch child start; vals = no_vals; over = None }

-- a birth appends the child
abbrev pub born : Arch → Option (ℕ × ℕ) → Option Core
born arch None = None
born arch (Some b) = Some (child_core arch b.0 b.1)

abbrev pub child_of : Arch → List Change → Option Core
child_of arch changes = born arch (birth changes)

-- a new state keeps the thread's number, and holds what the access left it
abbrev pub kept_by : Arch → Option ℕ → Arch → Arch
kept_by arch held next = record next { number = arch.number; held = held }

-- after a record the thread goes on, unless it has reached the limit
abbrev pub recorded : JobData → Arch → Core
recorded job next = record { arch = next; vals = no_vals; over = if next.count == job.limit then Some ending.Limit else None }

abbrev pub fault_record : Arch → Fault → Record
fault_record arch e = record { rip = arch.rip; what = what.Fault e.name; code = e.code; a = e.a; b = e.b }

-- a fault changes no register, flag, SSP or mask; it is due
abbrev pub faulted : Arch → Fault → Arch
faulted arch e = record arch { due = Some e; count = arch.count + 1 }

-- the thread, by what its row has come to
abbrev pub core_by : JobData → Arch → Option ℕ → ValsData → Played Finish → Core
core_by job arch held seen (Wants a changes) = record { arch = kept_by arch held arch; vals = seen; over = None }
core_by job arch held seen (Faulted e) = recorded job (kept_by arch held (faulted arch e))
core_by job arch held seen (Completed (Noted next noted) left values) = recorded job (kept_by arch held next)
core_by job arch held seen (Completed (Posted next) left values) = record { arch = kept_by arch held next; vals = no_vals; over = None }
core_by job arch held seen (Completed (Exited next noted status) left values) =
    record { arch = kept_by arch held next; vals = no_vals; over = Some (ending.Exit status) }
core_by job arch held seen (Completed Stopped left values) = record { arch = kept_by arch held arch; vals = no_vals; over = Some ending.Group }

-- the record that came with it
abbrev pub noted_by : Arch → Played Finish → Option Record
noted_by arch (Wants a changes) = None
noted_by arch (Faulted e) = Some (fault_record arch e)
noted_by arch (Completed (Noted next noted) left values) = Some noted
noted_by arch (Completed (Posted next) left values) = None
noted_by arch (Completed (Exited next noted status) left values) = Some noted
noted_by arch (Completed Stopped left values) = None

-- what the answer to a wanted access leaves
abbrev pub answered : JobData → Core → (answer : ℕ) → Played Finish → After
answered job core answer (Wants a changes) = record {
  core = core_by job core.arch (held_after (changes answer) core.arch.held) (vals_after core.vals a answer) (row_played job core.arch (vals_after core.vals a answer));
  noted = noted_by core.arch (row_played job core.arch (vals_after core.vals a answer));
  child = child_of core.arch (changes answer);
}
answered job core answer (Faulted e) = record { core = core; noted = None; child = None }
answered job core answer (Completed x left values) = record { core = core; noted = None; child = None }

-- what the answer to its next access makes of a thread that hasn't ended
unfoldable pub taken : JobData → Core → (answer : ℕ) → After
taken job core answer = answered job core answer (row_played job core.arch core.vals)
