-- Which instructions have a spelling, as a test of their operands. Source: own.
use Rattle.std.specs.Prelude.{ℕ, ◌^◌, ◌<◌, Bool, true, false, ◌==◌, ◌&&◌, ◌||◌, not, Option, Some, None, FitsSigned}
use Rattle.std.specs.Int.{w32}
use Rattle.cet_isa.specs.declared.instructions.Reg.{Reg}
use Rattle.cet_isa.specs.declared.instructions.AluOp.{AluOp}
use Rattle.cet_isa.specs.declared.instructions.AluOp.TheVariants.{Cmp}
use Rattle.cet_isa.specs.declared.instructions.Size.{Size}
use Rattle.cet_isa.specs.declared.instructions.Size.TheVariants.{Dword, Qword}
use Rattle.cet_isa.specs.declared.instructions.Base.{Base}
use Rattle.cet_isa.specs.declared.instructions.Base.TheVariants as bases
use Rattle.cet_isa.specs.declared.instructions.Mem.{Mem}
use Rattle.cet_isa.specs.declared.instructions.Operand.{Operand}
use Rattle.cet_isa.specs.declared.instructions.Operand.TheVariants as operands
use Rattle.cet_isa.specs.declared.instructions.Count.{Count}
use Rattle.cet_isa.specs.declared.instructions.Count.TheVariants as counts
use Rattle.cet_isa.specs.declared.instructions.Instr.{Instr}
use Rattle.cet_isa.specs.declared.instructions.Instr.TheVariants as instrs
use Rattle.cet_isa.specs.Code.{reg_number}

-- rsp can't be an index
abbrev pub index_ok : Option Reg → Bool
index_ok None = true
index_ok (Some i) = not (reg_number i == 4)

-- 1, 2, 4 or 8, and 1 without an index
abbrev pub scale_ok : Option Reg → ℕ → Bool
scale_ok None s = s == 1
scale_ok (Some i) s = (s == 1) || ((s == 2) || ((s == 4) || (s == 8)))

-- RIP has no index
abbrev pub address_ok : Base → Option Reg → ℕ → Bool
address_ok bases.Rip None s = s == 1
address_ok bases.Rip (Some i) s = false
address_ok bases.None i s = index_ok i && scale_ok i s
address_ok (bases.Reg b) i s = index_ok i && scale_ok i s

abbrev pub mem_ok : Mem → Bool
mem_ok m = address_ok m.base m.index m.scale

-- a register or memory
abbrev pub place_ok : Operand → Bool
place_ok (operands.Reg r) = true
place_ok (operands.Mem m) = mem_ok m
place_ok (operands.Imm n) = false

abbrev pub is_cmp : AluOp → Bool
is_cmp Cmp = true
is_cmp op = false

abbrev pub is_qword : Size → Bool
is_qword Qword = true
is_qword Dword = false

-- of the operations only Cmp has memory first
abbrev pub alu_ok : AluOp → Operand → Operand → Bool
alu_ok op (operands.Reg d) (operands.Imm n) = true
alu_ok op (operands.Reg d) src = place_ok src
alu_ok op (operands.Mem m) (operands.Reg r) = is_cmp op && mem_ok m
alu_ok op (operands.Mem m) (operands.Imm n) = is_cmp op && mem_ok m
alu_ok op dst src = false

abbrev pub test_ok : Operand → Operand → Bool
test_ok dst (operands.Reg r) = place_ok dst
test_ok dst (operands.Imm n) = place_ok dst
test_ok dst (operands.Mem m) = false

-- a move to memory is of 64 bits
abbrev pub mov_ok : Size → Operand → Operand → Bool
mov_ok size (operands.Reg d) (operands.Imm n) = true
mov_ok size (operands.Reg d) src = place_ok src
mov_ok size (operands.Mem m) (operands.Reg r) = is_qword size && mem_ok m
mov_ok size (operands.Mem m) (operands.Imm n) = is_qword size && mem_ok m
mov_ok size dst src = false

abbrev pub push_ok : Operand → Bool
push_ok (operands.Imm n) = true
push_ok src = place_ok src

abbrev pub has_spelling : Instr → Bool
has_spelling (instrs.Alu op size dst src) = alu_ok op dst src
has_spelling (instrs.Test size dst src) = test_ok dst src
has_spelling (instrs.Mov size dst src) = mov_ok size dst src
has_spelling (instrs.MovZero8 dst src) = mem_ok src
has_spelling (instrs.MovSign32 dst src) = place_ok src
has_spelling (instrs.Lea size dst src) = mem_ok src
has_spelling (instrs.Xchg dst reg) = place_ok dst
has_spelling (instrs.LockXadd mem reg) = mem_ok mem
has_spelling (instrs.LockCmpxchg mem reg) = mem_ok mem
has_spelling (instrs.Imul size dst src) = place_ok src
has_spelling (instrs.Cmov cond size dst src) = place_ok src
has_spelling (instrs.Push src) = push_ok src
has_spelling (instrs.CallInd target notrack) = place_ok target
has_spelling (instrs.JmpInd target notrack) = place_ok target
has_spelling (instrs.Rstorssp mem) = mem_ok mem
has_spelling (instrs.Clrssbsy mem) = mem_ok mem
has_spelling (instrs.Wrssq mem reg) = mem_ok mem
has_spelling (instrs.Wrussq mem reg) = mem_ok mem
has_spelling i = true

-- ---- the ranges of the code's numbers

abbrev pub OperandFits : Operand → Type 0
OperandFits (operands.Reg r) = Unit {0}
OperandFits (operands.Mem m) = FitsSigned w32 m.disp
OperandFits (operands.Imm n) = FitsSigned w32 n

abbrev pub CountFits : Count → Type 0
CountFits (counts.Number n) = n < 256
CountFits counts.Cl = Unit {0}

-- the numbers of an instruction are those of its fields' types
abbrev pub InstrFits : Instr → Type 0
InstrFits (instrs.Alu op size dst src) = OperandFits dst × OperandFits src
InstrFits (instrs.Test size dst src) = OperandFits dst × OperandFits src
InstrFits (instrs.Mov size dst src) = OperandFits dst × OperandFits src
InstrFits (instrs.MovWide dst value) = value < 2 ^ 64
InstrFits (instrs.MovZero8 dst src) = FitsSigned w32 src.disp
InstrFits (instrs.MovSign32 dst src) = OperandFits src
InstrFits (instrs.Lea size dst src) = FitsSigned w32 src.disp
InstrFits (instrs.Xchg dst reg) = OperandFits dst
InstrFits (instrs.LockXadd mem reg) = FitsSigned w32 mem.disp
InstrFits (instrs.LockCmpxchg mem reg) = FitsSigned w32 mem.disp
InstrFits (instrs.Imul size dst src) = OperandFits src
InstrFits (instrs.Shl size reg count) = CountFits count
InstrFits (instrs.Shr size reg count) = CountFits count
InstrFits (instrs.Sar size reg count) = CountFits count
InstrFits (instrs.Cmov cond size dst src) = OperandFits src
InstrFits (instrs.Push src) = OperandFits src
InstrFits (instrs.CallRel disp) = FitsSigned w32 disp
InstrFits (instrs.CallInd target notrack) = OperandFits target
InstrFits (instrs.JmpRel disp) = FitsSigned w32 disp
InstrFits (instrs.JmpInd target notrack) = OperandFits target
InstrFits (instrs.Jcc cond disp) = FitsSigned w32 disp
InstrFits (instrs.RetImm bytes) = bytes < 2 ^ 16
InstrFits (instrs.Rstorssp mem) = FitsSigned w32 mem.disp
InstrFits (instrs.Clrssbsy mem) = FitsSigned w32 mem.disp
InstrFits (instrs.Wrssq mem reg) = FitsSigned w32 mem.disp
InstrFits (instrs.Wrussq mem reg) = FitsSigned w32 mem.disp
InstrFits i = Unit {0}
