-- What the first exchange of the kernel's entry leaves, by the word that it finds. Source: Intel SDM volume 2 (SETSSBSY), and
-- volume 1 (supervisor shadow-stack tokens); own for the accesses before it, and that what finds its stack busy starts anew.
use Rattle.std.specs.Prelude.{◌≡◌, ◌≢◌, ℕ, ◌+◌, ◌-◌, true, [], ◌∷◌, Option, Some, None}
use Rattle.cet_words.specs.Layout.{token, token_word, kernel_return}
use Rattle.cet_words.specs.Job.{JobData}
use Rattle.cet_words.specs.declared.accesses.Access.{Access}
use Rattle.cet_words.specs.declared.accesses.Access.TheVariants as access
use Rattle.cet_isa.specs.Address.{canonical}
use Rattle.cet_isa.specs.Reading.{Read, decoded}
use Rattle.cet_isa.specs.declared.instructions.Instr.TheVariants as instr
use Rattle.cet_isa.specs.declared.threads.Fault.{Fault}
use Rattle.cet_isa.specs.declared.threads.Record.{Record}
use Rattle.cet_page.specs.Core.{Core, next_access, recorded}
use Rattle.cet_page.specs.Finish.{counted}
use Rattle.cet_page.specs.Gate.{stack_of, busy_record}
use Rattle.cet_page.specs.Posting.{due_signal, pending_signal}
use Rattle.cet_page.specs.Row.{instruction_bytes}

-- The thread is at the kernel's entry, and has looked at the page of its supervisor stack's token.
pub data AtGate (job : JobData) (core : Core) : Type 0 where
  -- by SYSCALL: no fault and no listed signal is due, EXIT was 0, and no pending signal was unmasked
  at_syscall : (len pending entry : ℕ) → core.arch.due ≡ None → due_signal job core.arch ≡ None → pending_signal pending core.arch.mask ≡ None → canonical core.arch.rip ≡ true →
      decoded (instruction_bytes job core.arch) ≡ Read instr.Syscall len → core.vals ≡ record { accesses = 3; values = 0 ∷ pending ∷ entry ∷ [] } → AtGate job core
  -- by a pending signal that isn't masked, between instructions
  at_signal : (signal pending entry : ℕ) → core.arch.due ≡ None → due_signal job core.arch ≡ None → pending_signal pending core.arch.mask ≡ Some signal →
      core.vals ≡ record { accesses = 3; values = 0 ∷ pending ∷ entry ∷ [] } → AtGate job core
  -- by a due fault
  at_fault : (e : Fault) (entry : ℕ) → core.arch.due ≡ Some e → core.vals ≡ record { accesses = 1; values = entry ∷ [] } → AtGate job core

-- the one access that tests the token and makes it busy
abbrev pub gate_exchange : (k : ℕ) → Access
gate_exchange k = access.CompareExchange (token_word k) (token k) (token k + 1)

-- The thread takes the supervisor stack where its token is free, and else has a record that names the word found.
pub record Enters (job : JobData) (before after : Core) (answer : ℕ) (noted : Option Record) : Type 0 where
  -- the access that has this answer
  pub exchange : next_access job before ≡ Some (gate_exchange (stack_of job before.arch))
  -- the token is free: the thread holds the stack, there is no record, and next the kernel's return address is stored below the token
  pub takes : answer ≡ token (stack_of job before.arch) → (noted ≡ None) × (after.arch ≡ record before.arch { held = Some (stack_of job before.arch) }) ×
      (next_access job after ≡ Some (access.Store (token_word (stack_of job before.arch) - 1) kernel_return))
  -- another word is found: nothing changes but the count, so that what entered the kernel starts anew
  pub waits : answer ≢ token (stack_of job before.arch) → (noted ≡ Some (busy_record before.arch (stack_of job before.arch) answer)) × (after ≡ recorded job (counted before.arch))
