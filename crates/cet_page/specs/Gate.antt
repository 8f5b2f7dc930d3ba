-- The gate into the kernel, what a call leaves, the delivery of a fault and the kill. Source: Intel SDM volume 1 (supervisor
-- shadow-stack tokens, SETSSBSY and CLRSSBSY) for the token; Linux for the numbers of errors; the fixed order is own.
use Rattle.std.specs.Prelude.{ℕ, ◌+◌, ◌-◌, ◌/◌, ◌%◌, ◌^◌, Bool, List, [], ◌∷◌, Option, Some, None, ◌==◌, if◌then◌else◌, slice_set}
use Rattle.cet_words.specs.Layout.{exit_word, token, token_page, token_word, kernel_return}
use Rattle.cet_words.specs.Job.{JobData}
use Rattle.cet_isa.specs.declared.threads.FaultName.{FaultName}
use Rattle.cet_isa.specs.declared.threads.FaultName.TheVariants.{Ud, Gp, Pf, Ac, Cp}
use Rattle.cet_isa.specs.declared.threads.Record.{Record}
use Rattle.cet_isa.specs.declared.threads.What.TheVariants as what
use Rattle.cet_isa.specs.declared.threads.Arch.{Arch}
use Rattle.cet_words.specs.Change.{Change, Popped, Busied, Freed, Ended}
use Rattle.cet_page.specs.Script.{Script, done, ◌>>=◌}
use Rattle.cet_page.specs.Parts.{read_entry, load, store, compare_exchange, compare_exchange_as}
use Rattle.cet_page.specs.Finish.{rax, counted}
use Rattle.cet_page.specs.Word64.{add64}
use Rattle.cet_page.specs.declared.finishes.Finish.{Finish}
use Rattle.cet_page.specs.declared.finishes.Finish.TheVariants as finish
use Rattle.cet_page.specs.declared.services.Errno.{Errno}
use Rattle.cet_page.specs.declared.services.Errno.TheVariants as errno
use Rattle.cet_page.specs.declared.finishes.Leaving.{Leaving}
use Rattle.cet_page.specs.declared.finishes.Leaving.TheVariants as leaving

-- ---- the gate

-- the supervisor stack of a thread's processor
abbrev pub stack_of : JobData → Arch → ℕ
stack_of job arch = arch.number % job.procs

abbrev pub busied_if : (k found : ℕ) → List Change
busied_if k found = if found == token k then Busied k ∷ [] else []

-- the way in; where the stack is busy, the word found
unfoldable pub gate_in : (k : ℕ) → Script (Option ℕ)
gate_in k = do
  _ ← read_entry (token_page k)
  found ← compare_exchange_as (busied_if k) (token_word k) (token k) (token k + 1)
  if found == token k
      then (do
        _ ← store (token_word k - 1) kernel_return
        done None)
      else done (Some found)

-- the changes with the last exchange of the way out
abbrev pub freed : Leaving → (k : ℕ) → List Change
freed leaving.Back k = Freed k ∷ []
freed leaving.Popped k = Popped ∷ Freed k ∷ []
freed (leaving.Ended status) k = Ended ∷ Freed k ∷ []

-- the way out; what follows is the same whatever it finds
unfoldable pub gate_out : Leaving → (k : ℕ) → Script (Unit {0})
gate_out ends k = do
  _ ← load (token_word k - 1)
  _ ← compare_exchange_as (λ found. freed ends k) (token_word k) (token k + 1) (token k)
  done tt

-- ---- work of the kernel

-- a piece of work without the gate: the state after it, its record, and what ends with the way out
abbrev pub Work : Type 0
Work = Script (Arch × Record × Leaving)

abbrev pub finish_of : Arch → Record → Leaving → Finish
finish_of next noted leaving.Back = finish.Noted next noted
finish_of next noted leaving.Popped = finish.Noted next noted
finish_of next noted (leaving.Ended status) = finish.Exited next noted status

-- the record of a busy supervisor stack: the address of its token, and the word found there
abbrev pub busy_record : Arch → (k found : ℕ) → Record
busy_record arch k found = record { rip = arch.rip; what = what.Busy; code = 0; a = token k; b = found }

-- a busy supervisor stack: nothing else has changed, and the instruction, fault or delivery starts anew
abbrev pub found_busy : Arch → (k found : ℕ) → Finish
found_busy arch k found = finish.Noted (counted arch) (busy_record arch k found)

-- the way out after a piece of work
abbrev pub leave : (k : ℕ) → Arch × Record × Leaving → Script Finish
leave k came = do
  _ ← gate_out came.2 k
  done (finish_of came.0 came.1 came.2)

-- what is done after the way in: the work and the way out, where the stack was free
abbrev pub inside : Arch → (k : ℕ) → Work → Option ℕ → Script Finish
inside arch k work (Some found) = done (found_busy arch k found)
inside arch k work None = work >>= leave k

-- the kernel's entry: the gate round a piece of work
unfoldable pub entered : JobData → Arch → Work → Script Finish
entered job arch work = do
  busy ← gate_in (stack_of job arch)
  inside arch (stack_of job arch) work busy

-- ---- kernel calls

abbrev pub sys_record : Arch → (result : ℕ) → Record
sys_record arch result = record { rip = arch.rip; what = what.Sys; code = 0; a = rax arch; b = result }

abbrev pub error_number : Errno → ℕ
error_number errno.Perm = 1
error_number errno.Srch = 3
error_number errno.BadF = 9
error_number errno.Again = 11
error_number errno.NoMem = 12
error_number errno.Fault = 14
error_number errno.Exist = 17
error_number errno.Inval = 22
error_number errno.NoSpc = 28
error_number errno.Range = 34
error_number errno.NoSys = 38
error_number errno.Overflow = 75

-- the address after SYSCALL, which is two bytes long
abbrev pub after_syscall : Arch → ℕ
after_syscall arch = add64 arch.rip 2

-- SYSCALL leaves the address after it in RCX and RFLAGS in R11, and the result stands in RAX
abbrev pub served : Arch → (result : ℕ) → Arch
served arch result = record arch {
  regs = slice_set (slice_set (slice_set arch.regs 1 (after_syscall arch)) 11 arch.flags) 0 result;
  rip = after_syscall arch;
  count = arch.count + 1;
}

-- a service that goes back to the thread with a result
abbrev pub serve : Arch → (result : ℕ) → Arch × Record × Leaving
serve arch result = (served arch result, sys_record arch result, leaving.Back)

-- the result of an error is minus its number
abbrev pub failed : Arch → Errno → Arch × Record × Leaving
failed arch error = serve arch (2 ^ 64 - error_number error)

-- ---- the kill, and the delivery of a due fault

abbrev pub killed : Arch → (signal before : ℕ) → Arch × Record × Leaving
killed arch signal before = (
  record arch { due = None; count = arch.count + 1 },
  record { rip = arch.rip; what = what.Kill; code = 0; a = signal; b = before },
  leaving.Back,
)

-- the kill of the process by a signal, where no thread has ended the process before
unfoldable pub kill : Arch → (signal : ℕ) → Work
kill arch signal = do
  before ← compare_exchange exit_word 0 (0x200 + signal)
  done (killed arch signal before)

-- SIGILL 4 for #UD, SIGSEGV 11 for all others
abbrev pub signal_of : FaultName → ℕ
signal_of Ud = 4
signal_of Gp = 11
signal_of Pf = 11
signal_of Ac = 11
signal_of Cp = 11

-- bit s - 1 of a mask is signal s
abbrev pub is_masked : (mask signal : ℕ) → Bool
is_masked mask signal = mask / 2 ^ (signal - 1) % 2 == 1
