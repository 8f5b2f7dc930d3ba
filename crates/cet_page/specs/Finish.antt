-- What rows come to. Source: own.
use Rattle.std.specs.Prelude.{◌≡◌, ℕ, ◌+◌, ◌%◌, ◌≤◌, slice_index}
use Rattle.cet_words.specs.Layout.{shadow_end, shadow_start, thread_region_size}
use Rattle.cet_isa.specs.declared.threads.Arch.{Arch}
use Rattle.cet_isa.specs.declared.threads.Record.{Record}
use Rattle.cet_page.specs.declared.finishes.Finish.{Finish}
use Rattle.cet_page.specs.declared.finishes.Finish.TheVariants as finish
use Rattle.cet_page.specs.Script.{Script, done}

-- an instruction that ends in a record: the state after it, and the record
abbrev pub Row : Type 0
Row = Script (Arch × Record)

abbrev pub noted : Arch × Record → Script Finish
noted x = done (finish.Noted x.0 x.1)

-- the general registers that the machine names itself, by their encodings
abbrev pub rax : Arch → ℕ
rax arch = slice_index arch.regs 0

abbrev pub rdx : Arch → ℕ
rdx arch = slice_index arch.regs 2

abbrev pub rsp : Arch → ℕ
rsp arch = slice_index arch.regs 4

abbrev pub rsi : Arch → ℕ
rsi arch = slice_index arch.regs 6

abbrev pub rdi : Arch → ℕ
rdi arch = slice_index arch.regs 7

abbrev pub r10 : Arch → ℕ
r10 arch = slice_index arch.regs 10

-- one record more
abbrev pub counted : Arch → Arch
counted arch = record arch { count = arch.count + 1 }

-- the start of eight whole pages of the shadow area
pub record IsMade (made : ℕ) : Type 0 where
  pub low : shadow_start ≤ made
  pub high : made + thread_region_size ≤ shadow_end
  pub whole : made % 4096 ≡ 0
