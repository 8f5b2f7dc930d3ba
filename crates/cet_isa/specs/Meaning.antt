-- What the fields of an encoding mean. Source: Intel SDM volume 2, chapter 2: ModRM and SIB bytes, REX prefixes,
-- RIP-relative addressing.
use Rattle.std.specs.Prelude.{ℕ, ◌+◌, ◌*◌, ◌/◌, ◌%◌, ◌^◌, Bool, ◌==◌, nat_lt, ◌&&◌, not, if◌then◌else◌, List, length, Some, None, ℤ, pos, slice_index}
use Rattle.std.specs.Int.{w8, w16, w32, w64, cast_signed, from_le_bytes}
use Rattle.cet_isa.specs.declared.instructions.Reg.{Reg}
use Rattle.cet_isa.specs.declared.instructions.Reg.TheVariants as regs
use Rattle.cet_isa.specs.declared.instructions.AluOp.{AluOp}
use Rattle.cet_isa.specs.declared.instructions.Cond.{Cond}
use Rattle.cet_isa.specs.declared.instructions.Count.{Count}
use Rattle.cet_isa.specs.declared.instructions.Count.TheVariants as counts
use Rattle.cet_isa.specs.declared.instructions.Size.{Size}
use Rattle.cet_isa.specs.declared.instructions.Size.TheVariants as sizes
use Rattle.cet_isa.specs.declared.instructions.Base.{Base}
use Rattle.cet_isa.specs.declared.instructions.Base.TheVariants as bases
use Rattle.cet_isa.specs.declared.instructions.Mem.{Mem}
use Rattle.cet_isa.specs.declared.instructions.Operand.{Operand}
use Rattle.cet_isa.specs.declared.instructions.Operand.TheVariants as operands
use Rattle.cet_isa.specs.declared.instructions.Instr.{Instr}
use Rattle.cet_isa.specs.declared.instructions.Instr.TheVariants as instrs
use Rattle.cet_isa.specs.Form.{Kind, Amount, Given, One, InCl}
use Rattle.cet_isa.specs.Form as kinds
use Rattle.cet_isa.specs.Code.{reg_at, alu_at, cond_at}

-- bit k of a byte; of REX, B is bit 0, X 1, R 2 and W 3
abbrev pub bit : ℕ → ℕ → ℕ
bit n k = n / 2 ^ k % 2

-- ---- ModRM, SIB and displacement

-- a SIB byte follows a ModRM that names memory with rm 4
abbrev pub sib_len : ℕ → ℕ
sib_len modrm = if nat_lt modrm 192 && (modrm % 8 == 4) then 1 else 0

-- the three bits that name the base
abbrev pub base_field : ℕ → ℕ → ℕ
base_field modrm sib = if modrm % 8 == 4 then sib % 8 else modrm % 8

-- mod 0 with base 5 has no base register, but four bytes of displacement
abbrev pub lacks_base : ℕ → ℕ → Bool
lacks_base modrm sib = nat_lt modrm 64 && (base_field modrm sib == 5)

-- mod 3 names a register; mod 2 has four bytes of displacement, mod 1 one
abbrev pub disp_len : ℕ → ℕ → ℕ
disp_len modrm sib =
    if nat_lt modrm 192 then (if nat_lt modrm 128 then (if nat_lt modrm 64 then (if lacks_base modrm sib then 4 else 0) else 1) else 4)
    else 0

abbrev pub base_of : ℕ → ℕ → ℕ → Base
base_of rex modrm sib =
    if lacks_base modrm sib then (if modrm % 8 == 4 then bases.None else bases.Rip)
    else bases.Reg (reg_at (base_field modrm sib + 8 * bit rex 0))

abbrev pub index_number : ℕ → ℕ → ℕ
index_number rex sib = sib / 8 % 8 + 8 * bit rex 1

-- index 4 without REX.X is no index
abbrev pub has_index : ℕ → ℕ → ℕ → Bool
has_index rex modrm sib = (modrm % 8 == 4) && not (index_number rex sib == 4)

abbrev pub mem_of : ℕ → ℕ → ℕ → ℤ → Mem
mem_of rex modrm sib disp = record {
  base = base_of rex modrm sib;
  index = if has_index rex modrm sib then Some (reg_at (index_number rex sib)) else None;
  scale = if has_index rex modrm sib then 2 ^ (sib / 64) else 1;
  disp = disp;
}

abbrev pub operand_of : ℕ → ℕ → ℕ → ℤ → Operand
operand_of rex modrm sib disp =
    if nat_lt modrm 192 then operands.Mem (mem_of rex modrm sib disp)
    else operands.Reg (reg_at (modrm % 8 + 8 * bit rex 0))

-- ---- numbers, the lowest byte first

-- a signed number of one or four bytes
abbrev pub signed_of : List ℕ → ℤ
signed_of bytes =
    if length bytes == 1 then cast_signed w8 (from_le_bytes w8 bytes)
    else if length bytes == 4 then cast_signed w32 (from_le_bytes w32 bytes)
    else pos 0

-- ---- the instruction

-- the fields of an encoding: REX, opcode and ModRM (0 where there is none), what mod and rm name, the immediate's bytes
pub record Fields : Type 0 where
  pub rex : ℕ
  pub opcode : ℕ
  pub modrm : ℕ
  pub rm : Operand
  pub imm : List ℕ

-- W set is 64 bits
abbrev pub size_in : Fields → Size
size_in x = if bit x.rex 3 == 1 then sizes.Qword else sizes.Dword

-- the register of ModRM's reg field
abbrev pub reg_in : Fields → Reg
reg_in x = reg_at (x.modrm / 8 % 8 + 8 * bit x.rex 2)

-- the register in the opcode
abbrev pub opcode_reg : Fields → Reg
opcode_reg x = reg_at (x.opcode % 8 + 8 * bit x.rex 0)

-- the operation in the opcode, and the one in ModRM's reg field
abbrev pub opcode_op : Fields → AluOp
opcode_op x = alu_at (x.opcode / 8 % 8)

abbrev pub digit_op : Fields → AluOp
digit_op x = alu_at (x.modrm / 8 % 8)

-- the condition in the opcode
abbrev pub opcode_cond : Fields → Cond
opcode_cond x = cond_at (x.opcode % 16)

-- an operand that is a register, and one that is memory; an operand of another form counts as rax, as no place
abbrev pub reg_of : Operand → Reg
reg_of (operands.Reg r) = r
reg_of (operands.Mem m) = regs.Rax
reg_of (operands.Imm n) = regs.Rax

abbrev pub nowhere : Mem
nowhere = record { base = bases.None; index = None; scale = 1; disp = pos 0 }

abbrev pub mem_in : Operand → Mem
mem_in (operands.Mem m) = m
mem_in (operands.Reg r) = nowhere
mem_in (operands.Imm n) = nowhere

abbrev pub imm_in : Fields → Operand
imm_in x = operands.Imm (signed_of x.imm)

abbrev pub count_of : Amount → List ℕ → Count
count_of Given imm = counts.Number (slice_index imm 0)
count_of One imm = counts.Number 1
count_of InCl imm = counts.Cl

abbrev pub instr_of : Kind → Fields → Instr
instr_of kinds.AluRmReg x = instrs.Alu (opcode_op x) (size_in x) x.rm (operands.Reg (reg_in x))
instr_of kinds.AluRegRm x = instrs.Alu (opcode_op x) (size_in x) (operands.Reg (reg_in x)) x.rm
instr_of kinds.AluRmImm x = instrs.Alu (digit_op x) (size_in x) x.rm (imm_in x)
instr_of kinds.AluRaxImm x = instrs.Alu (opcode_op x) (size_in x) (operands.Reg regs.Rax) (imm_in x)
instr_of kinds.TestRmReg x = instrs.Test (size_in x) x.rm (operands.Reg (reg_in x))
instr_of kinds.TestRmImm x = instrs.Test (size_in x) x.rm (imm_in x)
instr_of kinds.TestRaxImm x = instrs.Test (size_in x) (operands.Reg regs.Rax) (imm_in x)
instr_of kinds.Imul x = instrs.Imul (size_in x) (reg_in x) x.rm
instr_of kinds.Inc x = instrs.Inc (size_in x) (reg_of x.rm)
instr_of kinds.Dec x = instrs.Dec (size_in x) (reg_of x.rm)
instr_of kinds.Not x = instrs.Not (size_in x) (reg_of x.rm)
instr_of kinds.Neg x = instrs.Neg (size_in x) (reg_of x.rm)
instr_of (kinds.Shl a) x = instrs.Shl (size_in x) (reg_of x.rm) (count_of a x.imm)
instr_of (kinds.Shr a) x = instrs.Shr (size_in x) (reg_of x.rm) (count_of a x.imm)
instr_of (kinds.Sar a) x = instrs.Sar (size_in x) (reg_of x.rm) (count_of a x.imm)
instr_of kinds.MovRmReg x = instrs.Mov (size_in x) x.rm (operands.Reg (reg_in x))
instr_of kinds.MovRegRm x = instrs.Mov (size_in x) (operands.Reg (reg_in x)) x.rm
instr_of kinds.MovRegImm x = instrs.Mov sizes.Dword (operands.Reg (opcode_reg x)) (imm_in x)
instr_of kinds.MovRmImm x = instrs.Mov (size_in x) x.rm (imm_in x)
instr_of kinds.MovWide x = instrs.MovWide (opcode_reg x) (from_le_bytes w64 x.imm)
instr_of kinds.MovZero8 x = instrs.MovZero8 (reg_in x) (mem_in x.rm)
instr_of kinds.MovSign32 x = instrs.MovSign32 (reg_in x) x.rm
instr_of kinds.Lea x = instrs.Lea (size_in x) (reg_in x) (mem_in x.rm)
instr_of kinds.Xchg x = instrs.Xchg x.rm (reg_in x)
instr_of kinds.LockXadd x = instrs.LockXadd (mem_in x.rm) (reg_in x)
instr_of kinds.LockCmpxchg x = instrs.LockCmpxchg (mem_in x.rm) (reg_in x)
instr_of kinds.Cmov x = instrs.Cmov (opcode_cond x) (size_in x) (reg_in x) x.rm
instr_of kinds.PushReg x = instrs.Push (operands.Reg (opcode_reg x))
instr_of kinds.PushImm x = instrs.Push (imm_in x)
instr_of kinds.PushMem x = instrs.Push x.rm
instr_of kinds.Pop x = instrs.Pop (opcode_reg x)
instr_of kinds.CallRel x = instrs.CallRel (signed_of x.imm)
instr_of (kinds.CallInd notrack) x = instrs.CallInd x.rm notrack
instr_of kinds.JmpRel x = instrs.JmpRel (signed_of x.imm)
instr_of (kinds.JmpInd notrack) x = instrs.JmpInd x.rm notrack
instr_of kinds.Jcc x = instrs.Jcc (opcode_cond x) (signed_of x.imm)
instr_of kinds.RetImm x = instrs.RetImm (from_le_bytes w16 x.imm)
instr_of kinds.Incsspq x = instrs.Incsspq (reg_of x.rm)
instr_of kinds.Rdsspq x = instrs.Rdsspq (reg_of x.rm)
instr_of kinds.Rstorssp x = instrs.Rstorssp (mem_in x.rm)
instr_of kinds.Clrssbsy x = instrs.Clrssbsy (mem_in x.rm)
instr_of kinds.Wrssq x = instrs.Wrssq (mem_in x.rm) (reg_in x)
instr_of kinds.Wrussq x = instrs.Wrussq (mem_in x.rm) (reg_in x)
instr_of (kinds.Plain i) x = i
