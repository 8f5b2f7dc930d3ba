-- A row that has come to the instruction at RIP. Source: own.
use Rattle.std.specs.Prelude.{◌≡◌, ◌≤◌, true, length, slice_index, Option, Some, None, Result, Ok, Err}
use Rattle.cet_words.specs.Job.{JobData}
use Rattle.cet_isa.specs.Address.{canonical}
use Rattle.cet_isa.specs.declared.threads.Arch.{Arch}
use Rattle.cet_isa.specs.declared.threads.Record.{Record}
use Rattle.cet_decode.specs.declared.decoder.Decoded.{Decoded}
use Rattle.cet_decode.specs.declared.decoder.Decoded.TheVariants as answers
use Rattle.cet_page.specs.Family.{family_of}
use Rattle.cet_page.specs.Posting.{due_signal, pending_signal}
use Rattle.cet_page.specs.ValsData.{ValsData}
use Rattle.cet_page.specs.declared.cursors.Suspended.{Suspended}
use Rattle.cet_page.specs.declared.families.Family.{Family}
use Rattle.cet_cpu.specs.Cpu.{CpuData, KeepsCode}
use Rattle.cet_cpu.specs.declared.fetches.Code.{Code}
use Rattle.cet_cpu.specs.declared.kernel.RowEnd.{RowEnd}
use Rattle.cet_cpu.specs.declared.kernel.RowEnd.TheVariants as row_end

-- the row is past its two first accesses: nothing was due, EXIT was 0, and no signal was pending that isn't masked
pub record IsOpened (job : JobData) (arch : Arch) (seen : ValsData) : Type 0 where
  pub accesses : 2 ≤ seen.accesses
  pub values : 2 ≤ length seen.values
  pub goes : slice_index seen.values 0 ≡ 0
  pub none : pending_signal (slice_index seen.values 1) arch.mask ≡ None
  pub fault : arch.due ≡ None
  pub signal : due_signal job arch ≡ None

-- the code is an instruction of this family
abbrev pub IsOfFamily : Decoded → Family → Type 0
IsOfFamily (answers.Ok instr len) family = family_of instr ≡ family
IsOfFamily answers.Short family = ⊥
IsOfFamily answers.Unknown family = ⊥

abbrev pub HasFamily : Option Code → Family → Type 0
HasFamily None family = ⊥
HasFamily (Some code) family = IsOfFamily code.decoded family

-- the row has come to an instruction of this family, whose code is kept
pub record ComesTo (job : JobData) (cpu : CpuData) (family : Family) : Type 0 where
  pub opened : IsOpened job cpu.core.arch cpu.core.vals
  pub address : canonical cpu.core.arch.rip ≡ true
  pub code : KeepsCode job cpu
  pub part : HasFamily cpu.code family

-- an instruction ends its row with a record
abbrev pub ended : Result Record Suspended → Result RowEnd Suspended
ended (Ok noted) = Ok (row_end.Noted noted)
ended (Err stop) = Err stop
