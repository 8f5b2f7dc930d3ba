-- The instruction that a mnemonic and its operands make. Source: Intel SDM volume 2; which operands are taken is own.
use Rattle.std.specs.Prelude.{ℕ, ℤ, pos, ◌^◌, Bool, true, false, not, ◌&&◌, if◌then◌else◌, List, Option, Some, None, is_some, unwrap_or}
use Rattle.std.specs.Option.{option_or}
use Rattle.cet_isa.specs.declared.instructions.Count.{Count}
use Rattle.cet_isa.specs.declared.instructions.Count.TheVariants as counts
use Rattle.cet_isa.specs.declared.instructions.Instr.{Instr}
use Rattle.cet_isa.specs.declared.instructions.Instr.TheVariants as instrs
use Rattle.cet_isa.specs.declared.instructions.Mem.{Mem}
use Rattle.cet_isa.specs.declared.instructions.Operand.{Operand}
use Rattle.cet_isa.specs.declared.instructions.Operand.TheVariants as operands
use Rattle.cet_isa.specs.declared.instructions.Reg.{Reg}
use Rattle.cet_isa.specs.declared.instructions.Size.{Size}
use Rattle.cet_isa.specs.declared.instructions.Size.TheVariants as sizes
use Rattle.cet_syntax.specs.Tokens.{◌>>=◌}
use Rattle.cet_syntax.specs.Words.{Place, Number, Label, dword_holds, immediate_field, unsigned_field, quad_field}
use Rattle.cet_syntax.specs.Operands.{Address, ParsedOperand, Register, Counter, Value, Memory, Dword, Byte, Relative, Short, Operands, Absent, One, Two}
use Rattle.cet_syntax.specs.declared.mnemonics.Mnemonic.{Mnemonic}
use Rattle.cet_syntax.specs.declared.mnemonics.Mnemonic.TheVariants as words

-- ---- fields

-- The labels whose addresses belong into an instruction: as displacement, where RIP is the base counted from the next
-- instruction; as immediate; as target of a relative jump of four bytes, and of one byte.
pub record Fixups : Type 0 where
  pub displacement : Option (List ℕ)
  pub immediate : Option (List ℕ)
  pub target : Option (List ℕ)
  pub short : Option (List ℕ)

abbrev pub no_fixups : Fixups
no_fixups = record { displacement = None; immediate = None; target = None; short = None }

-- a number of a field, 0 for a label and for one that doesn't fit
pub record Field : Type 0 where
  pub value : ℤ
  pub fits : Bool
  pub label : Option (List ℕ)

abbrev pub number_field : Option ℤ → Field
number_field None = record { value = pos 0; fits = false; label = None }
number_field (Some z) = record { value = z; fits = true; label = None }

-- of a number that may be ill-formed
abbrev pub value_field : Size → Option ℤ → Field
value_field size value = number_field (value >>= immediate_field size)

-- of an immediate
abbrev pub place_field : Size → Place → Field
place_field size (Label name) = record { value = pos 0; fits = true; label = Some name }
place_field size (Number value) = value_field size value

-- of a displacement
abbrev pub disp_field : Option Place → Field
disp_field None = record { value = pos 0; fits = true; label = None }
disp_field (Some p) = place_field sizes.Qword p

-- ---- operands

-- an operand, whether its number fits, and its labels
pub record Argument : Type 0 where
  pub operand : Operand
  pub fits : Bool
  pub displacement : Option (List ℕ)
  pub immediate : Option (List ℕ)

abbrev pub mem_of : Address → ℤ → Mem
mem_of a disp = record { base = a.base; index = a.index; scale = a.scale; disp = disp }

abbrev pub memory_argument : Address → Argument
memory_argument a =
    let f = disp_field a.disp in
    record { operand = operands.Mem (mem_of a f.value); fits = f.fits; displacement = f.label; immediate = None }

abbrev pub register_argument : Reg → Argument
register_argument r = record { operand = operands.Reg r; fits = true; displacement = None; immediate = None }

abbrev pub value_argument : Size → Place → Argument
value_argument size p =
    let f = place_field size p in
    record { operand = operands.Imm f.value; fits = f.fits; displacement = None; immediate = f.label }

-- a register, memory or a number
abbrev pub argument : Size → ParsedOperand → Option Argument
argument size (Register s r) = Some (register_argument r)
argument size (Memory a) = Some (memory_argument a)
argument size (Dword a) = Some (memory_argument a)
argument size (Value p) = Some (value_argument size p)
argument size g = None

abbrev pub same_size : Size → Size → Bool
same_size sizes.Dword sizes.Dword = true
same_size sizes.Qword sizes.Qword = true
same_size s t = false

-- the size of two operands: that of the registers, else 32 bits after `dword`, else 64 bits
unfoldable pub common_size : ParsedOperand → ParsedOperand → Option Size
common_size (Register s d) (Register t r) = if same_size s t then Some s else None
common_size (Register s d) (Memory a) = Some s
common_size (Register s d) (Value p) = Some s
common_size (Memory a) (Register s r) = Some s
common_size (Memory a) (Value p) = Some sizes.Qword
common_size (Dword a) (Value p) = Some sizes.Dword
common_size g h = None

-- ---- instructions

-- an instruction with 0 in place of labels, whether its numbers fit, and its labels
pub record Built : Type 0 where
  pub instr : Instr
  pub fits : Bool
  pub fixups : Fixups

abbrev pub plain : Option Instr → Option Built
plain None = None
plain (Some i) = Some (record { instr = i; fits = true; fixups = no_fixups })

abbrev pub with_argument : Argument → Option Instr → Option Built
with_argument x None = None
with_argument x (Some i) = Some (record { instr = i; fits = x.fits; fixups = record no_fixups { displacement = x.displacement; immediate = x.immediate } })

-- two operands of one size
unfoldable pub pair_instr : Mnemonic → Size → Operand → Operand → Option Instr
pair_instr (words.Alu op) size dst src = Some (instrs.Alu op size dst src)
pair_instr words.Test size dst src = Some (instrs.Test size dst src)
pair_instr words.Mov size dst src = Some (instrs.Mov size dst src)
pair_instr words.Imul size (operands.Reg d) src = Some (instrs.Imul size d src)
pair_instr (words.Cmov c) size (operands.Reg d) src = Some (instrs.Cmov c size d src)
pair_instr words.Lea size (operands.Reg d) (operands.Mem m) = Some (instrs.Lea size d m)
pair_instr words.Xchg sizes.Qword dst (operands.Reg r) = Some (instrs.Xchg dst r)
pair_instr words.Xadd sizes.Qword (operands.Mem m) (operands.Reg r) = Some (instrs.LockXadd m r)
pair_instr words.Cmpxchg sizes.Qword (operands.Mem m) (operands.Reg r) = Some (instrs.LockCmpxchg m r)
pair_instr words.Wrssq sizes.Qword (operands.Mem m) (operands.Reg r) = Some (instrs.Wrssq m r)
pair_instr words.Wrussq sizes.Qword (operands.Mem m) (operands.Reg r) = Some (instrs.Wrussq m r)
pair_instr m size dst src = None

abbrev pub both : Argument → Argument → Argument
both x y = record { operand = y.operand; fits = x.fits && y.fits; displacement = option_or x.displacement y.displacement; immediate = y.immediate }

unfoldable pub pair : Mnemonic → ParsedOperand → ParsedOperand → Option Built
pair m g h = do
  size ← common_size g h
  x ← argument size g
  y ← argument size h
  with_argument (both x y) (pair_instr m size x.operand y.operand)

abbrev pub wide_number : Reg → Option ℕ → Built
wide_number r n = record { instr = instrs.MovWide r (unwrap_or n 0); fits = is_some n; fixups = no_fixups }

abbrev pub wide_built : Reg → Place → Built
wide_built r (Label name) = record { instr = instrs.MovWide r 0; fits = true; fixups = record no_fixups { immediate = Some name } }
wide_built r (Number value) = wide_number r (value >>= quad_field)

unfoldable pub wide_move : ParsedOperand → ParsedOperand → Option Built
wide_move (Register sizes.Qword r) (Value p) = Some (wide_built r p)
wide_move g h = None

-- whether a number to a 64-bit register is longer than 32 bits
abbrev pub is_wide : ParsedOperand → ParsedOperand → Bool
is_wide (Register sizes.Qword r) (Value (Number (Some z))) = not (dword_holds z)
is_wide g h = false

unfoldable pub any_move : ParsedOperand → ParsedOperand → Option Built
any_move g h = if is_wide g h then wide_move g h else pair words.Mov g h

unfoldable pub zero_move : ParsedOperand → ParsedOperand → Option Built
zero_move (Register s r) (Byte a) = let f = disp_field a.disp in with_argument (memory_argument a) (Some (instrs.MovZero8 r (mem_of a f.value)))
zero_move g h = None

unfoldable pub sign_move : ParsedOperand → ParsedOperand → Option Built
sign_move (Register sizes.Qword d) (Register sizes.Dword r) = plain (Some (instrs.MovSign32 d (operands.Reg r)))
sign_move (Register sizes.Qword d) (Memory a) = let x = memory_argument a in with_argument x (Some (instrs.MovSign32 d x.operand))
sign_move g h = None

abbrev pub shift_instr : Mnemonic → Size → Reg → Count → Option Instr
shift_instr words.Shl size r n = Some (instrs.Shl size r n)
shift_instr words.Shr size r n = Some (instrs.Shr size r n)
shift_instr words.Sar size r n = Some (instrs.Sar size r n)
shift_instr m size r n = None

-- a number without sign; a label doesn't fit
abbrev pub small_number : ℕ → Place → Option ℕ
small_number count (Label name) = None
small_number count (Number value) = value >>= unsigned_field count

abbrev pub with_fit : Bool → Option Instr → Option Built
with_fit fits None = None
with_fit fits (Some i) = Some (record { instr = i; fits = fits; fixups = no_fixups })

unfoldable pub shift : Mnemonic → ParsedOperand → ParsedOperand → Option Built
shift m (Register s r) Counter = plain (shift_instr m s r counts.Cl)
shift m (Register s r) (Value p) = let n = small_number (2 ^ 8) p in with_fit (is_some n) (shift_instr m s r (counts.Number (unwrap_or n 0)))
shift m g h = None

unfoldable pub two_operands : Mnemonic → ParsedOperand → ParsedOperand → Option Built
two_operands words.Mov g h = any_move g h
two_operands words.Movabs g h = wide_move g h
two_operands words.Movzx g h = zero_move g h
two_operands words.Movsxd g h = sign_move g h
two_operands words.Shl g h = shift words.Shl g h
two_operands words.Shr g h = shift words.Shr g h
two_operands words.Sar g h = shift words.Sar g h
two_operands m g h = pair m g h

-- a call or jump by way of a register or memory
abbrev pub indirect_instr : Mnemonic → Operand → Option Instr
indirect_instr words.Call target = Some (instrs.CallInd target false)
indirect_instr words.Jmp target = Some (instrs.JmpInd target false)
indirect_instr words.UntrackedCall target = Some (instrs.CallInd target true)
indirect_instr words.UntrackedJmp target = Some (instrs.JmpInd target true)
indirect_instr m target = None

-- one register of 64 bits
abbrev pub qword_instr : Mnemonic → Reg → Option Instr
qword_instr words.Push r = Some (instrs.Push (operands.Reg r))
qword_instr words.Pop r = Some (instrs.Pop r)
qword_instr words.Incsspq r = Some (instrs.Incsspq r)
qword_instr words.Rdsspq r = Some (instrs.Rdsspq r)
qword_instr m r = indirect_instr m (operands.Reg r)

-- one register
unfoldable pub register_instr : Mnemonic → Size → Reg → Option Instr
register_instr words.Inc size r = Some (instrs.Inc size r)
register_instr words.Dec size r = Some (instrs.Dec size r)
register_instr words.Not size r = Some (instrs.Not size r)
register_instr words.Neg size r = Some (instrs.Neg size r)
register_instr m sizes.Qword r = qword_instr m r
register_instr m sizes.Dword r = None

-- memory alone
unfoldable pub memory_instr : Mnemonic → Mem → Option Instr
memory_instr words.Push mem = Some (instrs.Push (operands.Mem mem))
memory_instr words.Rstorssp mem = Some (instrs.Rstorssp mem)
memory_instr words.Clrssbsy mem = Some (instrs.Clrssbsy mem)
memory_instr m mem = indirect_instr m (operands.Mem mem)

-- a relative target of four bytes
unfoldable pub relative_instr : Mnemonic → ℤ → Option Instr
relative_instr words.Call disp = Some (instrs.CallRel disp)
relative_instr words.Jmp disp = Some (instrs.JmpRel disp)
relative_instr (words.Jump c) disp = Some (instrs.Jcc c disp)
relative_instr m disp = None

-- a jump that has a form of one byte
unfoldable pub short_instr : Mnemonic → Option Instr
short_instr words.Jmp = Some (instrs.JmpRel (pos 0))
short_instr (words.Jump c) = Some (instrs.Jcc c (pos 0))
short_instr m = None

abbrev pub with_fixups : Fixups → Option Instr → Option Built
with_fixups fixups None = None
with_fixups fixups (Some i) = Some (record { instr = i; fits = true; fixups = fixups })

abbrev pub with_field : Field → Option Instr → Option Built
with_field f None = None
with_field f (Some i) = Some (record { instr = i; fits = f.fits; fixups = record no_fixups { immediate = f.label } })

abbrev pub label_target : Mnemonic → Place → Option Built
label_target m (Label name) = with_fixups (record no_fixups { target = Some name }) (relative_instr m (pos 0))
label_target m (Number value) = None

-- a number or label alone
unfoldable pub value_built : Mnemonic → Place → Option Built
value_built words.Push p = let f = place_field sizes.Qword p in with_field f (Some (instrs.Push (operands.Imm f.value)))
value_built words.Ret p = let n = small_number (2 ^ 16) p in with_fit (is_some n) (Some (instrs.RetImm (unwrap_or n 0)))
value_built m p = label_target m p

unfoldable pub one_operand : Mnemonic → ParsedOperand → Option Built
one_operand m (Register s r) = plain (register_instr m s r)
one_operand m (Memory a) = let f = disp_field a.disp in with_argument (memory_argument a) (memory_instr m (mem_of a f.value))
one_operand m (Value p) = value_built m p
one_operand m (Relative value) = let f = value_field sizes.Qword value in with_field f (relative_instr m f.value)
one_operand m (Short name) = with_fixups (record no_fixups { short = Some name }) (short_instr m)
one_operand m g = None

abbrev pub alone : Mnemonic → Option Instr
alone (words.Alone i) = Some i
alone words.Ret = Some instrs.Ret
alone m = None

-- the instruction, or None for operands that it doesn't have
unfoldable pub built : Mnemonic → Operands → Option Built
built m Absent = plain (alone m)
built m (One g) = one_operand m g
built m (Two g h) = two_operands m g h
