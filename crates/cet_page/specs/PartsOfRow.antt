-- What instructions and the kernel's work are in the row of a thread. Source: own.
use Rattle.std.proofs.Common.{suc, true}
use Rattle.std.specs.Prelude.{◌≡◌, ℕ, List, ◌∷◌, None}
use Rattle.cet_words.specs.Layout.{token}
use Rattle.cet_words.specs.Job.{JobData}
use Rattle.cet_isa.specs.Address.{canonical}
use Rattle.cet_isa.specs.Reading.{Read, decoded}
use Rattle.cet_isa.specs.declared.instructions.Instr.{Instr}
use Rattle.cet_isa.specs.declared.threads.Arch.{Arch}
use Rattle.cet_page.specs.Script.{◌>>=◌, play}
use Rattle.cet_page.specs.Posting.{due_signal, pending_signal}
use Rattle.cet_page.specs.Gate.{Work, stack_of, entered, leave}
use Rattle.cet_page.specs.Row.{row, execute, instruction_bytes, next_address}

pub record PartsOfRow : Type 0 where
  -- Between instructions, where no listed signal is due, EXIT is 0 and no pending signal is unmasked, an instruction of any
  -- family does what its part says.
  pub instructions : (job : JobData) (arch : Arch) (i : Instr) (len pending n : ℕ) (values : List ℕ) → arch.due ≡ None → due_signal job arch ≡ None → pending_signal pending arch.mask ≡ None →
      canonical arch.rip ≡ true → decoded (instruction_bytes job arch) ≡ Read i len → play (row job arch) (suc (suc n)) (0 ∷ pending ∷ values) ≡ play
      (execute job arch i (next_address job arch)) n values
  -- The way in looks at the token's page, finds the token free and stores. Then any work of the kernel is done, and the way out.
  pub kernel : (job : JobData) (arch : Arch) (work : Work) (entry n : ℕ) (values : List ℕ) →
      play (entered job arch work) (suc (suc (suc n))) (entry ∷ token (stack_of job arch) ∷ values) ≡ play (work >>= leave (stack_of job arch)) n values
