-- Where the bytes of a text stand, and how labels get into instructions. Source: own; relative displacements count from
-- the next instruction (Intel SDM volume 2, chapter 2).
use Rattle.std.specs.Prelude.{ℕ, ℤ, pos, ◌-ℤ◌, ◌+◌, ◌*◌, Bool, not, nat_le, if◌then◌else◌, List, length, Option, Some, None}
use Rattle.cet_isa.specs.Canonical.{canonical_spelling}
use Rattle.cet_isa.specs.declared.instructions.Base.{Base}
use Rattle.cet_isa.specs.declared.instructions.Base.TheVariants as bases
use Rattle.cet_isa.specs.declared.instructions.Instr.{Instr}
use Rattle.cet_isa.specs.declared.instructions.Instr.TheVariants as instrs
use Rattle.cet_isa.specs.declared.instructions.Mem.{Mem}
use Rattle.cet_isa.specs.declared.instructions.Operand.{Operand}
use Rattle.cet_isa.specs.declared.instructions.Operand.TheVariants as operands
use Rattle.cet_words.specs.Layout.{page_up}
use Rattle.cet_syntax.specs.Instructions.{Fixups}
use Rattle.cet_syntax.specs.Line.{Statement, TextSection, DataSection, Zero, Values, Quads, Code}
use Rattle.cet_asm.specs.declared.sections.Section.{Section}
use Rattle.cet_asm.specs.declared.sections.Section.TheVariants as sections
use Rattle.cet_asm.specs.declared.sections.LocationCounter.{LocationCounter}
use Rattle.cet_asm.specs.declared.sections.SymbolValue.{SymbolValue}

-- ---- labels in instructions

abbrev pub operand_memory : (Mem → Mem) → Operand → Operand
operand_memory f (operands.Mem m) = operands.Mem (f m)
operand_memory f (operands.Reg r) = operands.Reg r
operand_memory f (operands.Imm n) = operands.Imm n

abbrev pub operand_immediate : ℕ → Operand → Operand
operand_immediate a (operands.Imm n) = operands.Imm (pos a)
operand_immediate a (operands.Reg r) = operands.Reg r
operand_immediate a (operands.Mem m) = operands.Mem m

-- the instruction with its memory operand changed
unfoldable pub with_memory : (Mem → Mem) → Instr → Instr
with_memory f (instrs.Alu op size dst src) = instrs.Alu op size (operand_memory f dst) (operand_memory f src)
with_memory f (instrs.Test size dst src) = instrs.Test size (operand_memory f dst) src
with_memory f (instrs.Mov size dst src) = instrs.Mov size (operand_memory f dst) (operand_memory f src)
with_memory f (instrs.MovZero8 dst src) = instrs.MovZero8 dst (f src)
with_memory f (instrs.MovSign32 dst src) = instrs.MovSign32 dst (operand_memory f src)
with_memory f (instrs.Lea size dst src) = instrs.Lea size dst (f src)
with_memory f (instrs.Xchg dst reg) = instrs.Xchg (operand_memory f dst) reg
with_memory f (instrs.LockXadd mem reg) = instrs.LockXadd (f mem) reg
with_memory f (instrs.LockCmpxchg mem reg) = instrs.LockCmpxchg (f mem) reg
with_memory f (instrs.Imul size dst src) = instrs.Imul size dst (operand_memory f src)
with_memory f (instrs.Cmov cond size dst src) = instrs.Cmov cond size dst (operand_memory f src)
with_memory f (instrs.Push src) = instrs.Push (operand_memory f src)
with_memory f (instrs.CallInd target notrack) = instrs.CallInd (operand_memory f target) notrack
with_memory f (instrs.JmpInd target notrack) = instrs.JmpInd (operand_memory f target) notrack
with_memory f (instrs.Rstorssp mem) = instrs.Rstorssp (f mem)
with_memory f (instrs.Clrssbsy mem) = instrs.Clrssbsy (f mem)
with_memory f (instrs.Wrssq mem reg) = instrs.Wrssq (f mem) reg
with_memory f (instrs.Wrussq mem reg) = instrs.Wrussq (f mem) reg
with_memory f i = i

-- the instruction with an address as its immediate
unfoldable pub with_immediate : ℕ → Instr → Instr
with_immediate a (instrs.Alu op size dst src) = instrs.Alu op size dst (operand_immediate a src)
with_immediate a (instrs.Test size dst src) = instrs.Test size dst (operand_immediate a src)
with_immediate a (instrs.Mov size dst src) = instrs.Mov size dst (operand_immediate a src)
with_immediate a (instrs.MovWide dst value) = instrs.MovWide dst a
with_immediate a (instrs.Push src) = instrs.Push (operand_immediate a src)
with_immediate a i = i

-- the relative jump or call with this displacement
unfoldable pub with_target : ℤ → Instr → Instr
with_target disp (instrs.CallRel d) = instrs.CallRel disp
with_target disp (instrs.JmpRel d) = instrs.JmpRel disp
with_target disp (instrs.Jcc cond d) = instrs.Jcc cond disp
with_target disp i = i

-- from the next instruction to an address
abbrev pub distance : ℕ → ℕ → ℤ
distance next a = pos a -ℤ pos next

-- a displacement that is a label's address, or the distance to it where RIP is the base
abbrev pub placed_mem : ℕ → ℕ → Mem → Mem
placed_mem next a m = go m.base
  where
    go : Base → Mem
    go bases.Rip = record m { disp = distance next a }
    go base = record m { disp = pos a }

abbrev pub on_label : (List ℕ → ℕ) → Option (List ℕ) → (ℕ → Instr → Instr) → Instr → Instr
on_label env None f i = i
on_label env (Some name) f i = f (env name) i

-- the instruction with the addresses of its labels, the next one standing at `next`
unfoldable pub filled : (List ℕ → ℕ) → ℕ → Fixups → Instr → Instr
filled env next u i =
    on_label env u.target (λ a. with_target (distance next a))
    (on_label env u.immediate with_immediate
    (on_label env u.displacement (λ a. with_memory (placed_mem next a)) i))

-- ---- sizes

-- where the text starts
abbrev pub text_start : ℕ
text_start = 0x401000

-- the size of an instruction, which is the same wherever its labels are; a short jump has two bytes
abbrev pub code_size : Instr → Fixups → ℕ
code_size i u = go u.short
  where
    go : Option (List ℕ) → ℕ
    go None = length (canonical_spelling (filled (λ name. text_start) 0 u i))
    go (Some name) = 2

-- how many bytes a line states
unfoldable pub size_of : Statement → ℕ
size_of (Zero n) = n
size_of (Values bytes) = length bytes
size_of (Quads items) = 8 * length items
size_of (Code i u) = code_size i u
size_of s = 0

-- the most bytes that the text, rounded up to whole pages, and the data may have: they end at 0x800000
abbrev pub program_limit : ℕ
program_limit = 4190208

-- ---- sections

abbrev pub grown : LocationCounter → ℕ → LocationCounter
grown h n = go h.section
  where
    go : Section → LocationCounter
    go sections.Text = record h { text = h.text + n }
    go sections.Data = record h { static_data = h.static_data + n }

-- whether text, rounded up to whole pages, and data exceed what a program may have
abbrev pub exceeds : LocationCounter → Bool
exceeds h = not (nat_le (page_up h.text + h.static_data) program_limit)

unfoldable pub is_too_long : LocationCounter → Statement → Bool
is_too_long h s = exceeds (grown h (size_of s))

-- after a line; one that makes the program too long has no bytes
unfoldable pub after : LocationCounter → Statement → LocationCounter
after h TextSection = record h { section = sections.Text }
after h DataSection = record h { section = sections.Data }
after h s = if is_too_long h s then h else grown h (size_of s)

abbrev pub symbol_of : LocationCounter → SymbolValue
symbol_of h = go h.section
  where
    go : Section → SymbolValue
    go sections.Text = record { section = sections.Text; offset = h.text }
    go sections.Data = record { section = sections.Data; offset = h.static_data }

abbrev pub start : LocationCounter
start = record { section = sections.Text; text = 0; static_data = 0 }

-- the address of a place, where the text has so many bytes
unfoldable pub address_of : ℕ → SymbolValue → ℕ
address_of text symbol = go symbol.section
  where
    go : Section → ℕ
    go sections.Text = text_start + symbol.offset
    go sections.Data = text_start + page_up text + symbol.offset
