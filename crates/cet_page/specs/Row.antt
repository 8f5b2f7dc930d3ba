-- The row of a thread: what it does from a boundary, or from a due fault, to its next record. Source: Intel SDM volume 2
-- for the instructions, own for the order. That `decoded` is exactly the table of spellings is what the contract of `decode` says.
use Rattle.std.specs.Prelude.{ℕ, ◌+◌, List, length, Option, Some, None, ◌==◌, if◌then◌else◌}
use Rattle.cet_words.specs.Layout.{exit_word, pend_word}
use Rattle.cet_words.specs.Job.{JobData}
use Rattle.cet_isa.specs.Address.{canonical}
use Rattle.cet_isa.specs.Reading.{Decoding, Read, Short, Unknown, decoded}
use Rattle.cet_isa.specs.declared.instructions.Instr.{Instr}
use Rattle.cet_isa.specs.declared.threads.Fault.{Fault}
use Rattle.cet_isa.specs.declared.threads.Arch.{Arch}
use Rattle.cet_page.specs.Script.{Script, done, fault, ◌>>=◌}
use Rattle.cet_page.specs.Parts.{general_protection, invalid_opcode, load}
use Rattle.cet_page.specs.Finish.{noted}
use Rattle.cet_page.specs.Word64.{add64}
use Rattle.cet_page.specs.Arithmetic.{arithmetic}
use Rattle.cet_page.specs.Flow.{flow}
use Rattle.cet_page.specs.Family.{family_of}
use Rattle.cet_page.specs.declared.families.Family.{Family}
use Rattle.cet_page.specs.declared.families.Family.TheVariants as families
use Rattle.cet_page.specs.ShadowStacks.{shadow_stacks}
use Rattle.cet_page.specs.Gate.{entered}
use Rattle.cet_page.specs.Delivery.{fault_delivery, pending_delivery}
use Rattle.cet_page.specs.Posting.{due_signal, pending_signal, posting}
use Rattle.cet_page.specs.Services.{syscall}
use Rattle.cet_page.specs.Fetch.{fetchable, missing}
use Rattle.cet_page.specs.declared.finishes.Finish.{Finish}
use Rattle.cet_page.specs.declared.finishes.Finish.TheVariants as finish

abbrev pub execute_family : JobData → Arch → Instr → (next : ℕ) → Family → Script Finish
execute_family job arch i next families.Arithmetic = arithmetic arch i next >>= noted
execute_family job arch i next families.Flow = flow arch i next >>= noted
execute_family job arch i next families.ShadowStacks = shadow_stacks arch i next >>= noted
execute_family job arch i next families.SystemCall = syscall job arch
execute_family job arch i next families.Supervisor = fault general_protection

-- An instruction, with the address of the next one. SETSSBSY and CLRSSBSY are the supervisor's: from the user they are
-- #GP(0), before any other test.
abbrev pub execute : JobData → Arch → Instr → (next : ℕ) → Script Finish
execute job arch i next = execute_family job arch i next (family_of i)

-- the address after the instruction that the bytes at RIP are; RIP itself where they are none
abbrev pub address_after : Arch → Decoding → ℕ
address_after arch (Read i len) = add64 arch.rip len
address_after arch Short = arch.rip
address_after arch Unknown = arch.rip

-- by what the fetchable bytes at RIP are
abbrev pub fetched : JobData → Arch → List ℕ → Decoding → Script Finish
fetched job arch bytes (Read i len) = execute job arch i (add64 arch.rip len)
fetched job arch bytes Short = missing (arch.rip + length bytes)
fetched job arch bytes Unknown = fault invalid_opcode

abbrev pub instruction_bytes : JobData → Arch → List ℕ
instruction_bytes job arch = fetchable job.image.segments arch.rip 15

abbrev pub next_address : JobData → Arch → ℕ
next_address job arch = address_after arch (decoded (instruction_bytes job arch))

-- the instruction at RIP
unfoldable pub instruction : JobData → Arch → Script Finish
instruction job arch =
    if canonical arch.rip
    then fetched job arch (instruction_bytes job arch) (decoded (instruction_bytes job arch))
    else fault general_protection

-- the delivery of a pending signal comes in place of the instruction
abbrev pub after_signals : JobData → Arch → Option ℕ → Script Finish
after_signals job arch None = instruction job arch
after_signals job arch (Some signal) = entered job arch (pending_delivery arch signal)

-- Between instructions: EXIT, then PEND, then the instruction.
unfoldable pub boundary : JobData → Arch → Script Finish
boundary job arch = do
  ending ← load exit_word
  if ending == 0
      then (do
        pending ← load (pend_word arch.number)
        after_signals job arch (pending_signal pending arch.mask))
      else done finish.Stopped

-- a listed signal that is due is posted first
abbrev pub between : JobData → Arch → Option ℕ → Script Finish
between job arch None = boundary job arch
between job arch (Some signal) = posting arch signal

-- a due fault goes to the kernel at once
abbrev pub row_from : JobData → Arch → Option Fault → Script Finish
row_from job arch (Some e) = entered job arch (fault_delivery arch e)
row_from job arch None = between job arch (due_signal job arch)

-- the row of a thread in this state
abbrev pub row : JobData → Arch → Script Finish
row job arch = row_from job arch arch.due
