-- The canonical spelling of an instruction: the first row of the table that spells it, the shortest displacement and
-- immediate, and a REX prefix only where a bit of it is needed. Source: own, over Intel SDM volume 2, chapter 2.
use Rattle.std.specs.Prelude.{ℕ, ◌+◌, ◌*◌, ◌/◌, ◌%◌, Bool, false, ◌==◌, nat_lt, ◌&&◌, not, if◌then◌else◌, List, [], ◌∷◌, ◌++◌, Option, Some, None, ℤ, pos, negsuc}
use Rattle.std.specs.Int.{w8, w16, w32, w64, cast_unsigned, to_le_bytes}
use Rattle.cet_isa.specs.declared.instructions.Reg.{Reg}
use Rattle.cet_isa.specs.declared.instructions.AluOp.{AluOp}
use Rattle.cet_isa.specs.declared.instructions.Size.{Size}
use Rattle.cet_isa.specs.declared.instructions.Size.TheVariants.{Dword, Qword}
use Rattle.cet_isa.specs.declared.instructions.Base.{Base}
use Rattle.cet_isa.specs.declared.instructions.Base.TheVariants as bases
use Rattle.cet_isa.specs.declared.instructions.Operand.{Operand}
use Rattle.cet_isa.specs.declared.instructions.Operand.TheVariants as operands
use Rattle.cet_isa.specs.declared.instructions.Count.{Count}
use Rattle.cet_isa.specs.declared.instructions.Count.TheVariants as counts
use Rattle.cet_isa.specs.declared.instructions.Instr.{Instr}
use Rattle.cet_isa.specs.declared.instructions.Instr.TheVariants as instrs
use Rattle.cet_isa.specs.Form.{Pattern, Rex, NoRex, ClearRex, SetRex, Form}
use Rattle.cet_isa.specs.Forms as row
use Rattle.cet_isa.specs.Spells.{places}
use Rattle.cet_isa.specs.Code.{reg_number, op_number, cond_number}

-- ---- numbers

-- a signed number of one byte, and of four
abbrev pub one_byte : ℤ → List ℕ
one_byte z = to_le_bytes w8 (cast_unsigned w8 z)

abbrev pub four_bytes : ℤ → List ℕ
four_bytes z = to_le_bytes w32 (cast_unsigned w32 z)

-- whether one byte holds it: -128 to 127
abbrev pub fits_byte : ℤ → Bool
fits_byte (pos n) = nat_lt n 128
fits_byte (negsuc n) = nat_lt n 128

abbrev pub is_zero : ℤ → Bool
is_zero (pos n) = n == 0
is_zero (negsuc n) = false

-- ---- the operand that mod and rm name

-- the bits of ModRM for it, its SIB byte and displacement, and its bits of REX: 2 * X + B
pub record Coded : Type 0 where
  pub mode : ℕ
  pub sib : List ℕ
  pub disp : List ℕ
  pub extend : ℕ

-- the three bits that a field has, and the one in REX
abbrev pub low : Reg → ℕ
low r = reg_number r % 8

abbrev pub high : Reg → ℕ
high r = reg_number r / 8

abbrev pub scale_bits : ℕ → ℕ
scale_bits s = if s == 8 then 3 else if s == 4 then 2 else if s == 2 then 1 else 0

-- none where it is 0 and the base allows that
abbrev pub needs_no_disp : Reg → ℤ → Bool
needs_no_disp base d = is_zero d && not (low base == 5)

-- else one byte where it fits, else four
abbrev pub mod_bits : Reg → ℤ → ℕ
mod_bits base d = if needs_no_disp base d then 0 else if fits_byte d then 64 else 128

abbrev pub disp_bytes : Reg → ℤ → List ℕ
disp_bytes base d = if needs_no_disp base d then [] else if fits_byte d then one_byte d else four_bytes d

abbrev pub sib_of : Reg → ℕ → ℕ → ℕ
sib_of index scale base_bits = 64 * scale_bits scale + 8 * low index + base_bits

-- rm 4 asks for a SIB byte, and index 4 is none: so base 4 has the SIB 0x24
abbrev pub coded_base : Reg → ℤ → Coded
coded_base base d =
    if low base == 4 then (record { mode = mod_bits base d + 4; sib = 0x24 ∷ []; disp = disp_bytes base d; extend = high base })
    else (record { mode = mod_bits base d + low base; sib = []; disp = disp_bytes base d; extend = high base })

abbrev pub coded_mem : Base → Option Reg → ℕ → ℤ → Coded
coded_mem bases.Rip i s d = record { mode = 5; sib = []; disp = four_bytes d; extend = 0 }
coded_mem bases.None None s d = record { mode = 4; sib = 0x25 ∷ []; disp = four_bytes d; extend = 0 }
coded_mem bases.None (Some i) s d = record { mode = 4; sib = sib_of i s 5 ∷ []; disp = four_bytes d; extend = 2 * high i }
coded_mem (bases.Reg b) None s d = coded_base b d
coded_mem (bases.Reg b) (Some i) s d = record { mode = mod_bits b d + 4; sib = sib_of i s (low b) ∷ []; disp = disp_bytes b d; extend = 2 * high i + high b }

abbrev pub coded : Operand → Coded
coded (operands.Reg r) = record { mode = 192 + low r; sib = []; disp = []; extend = high r }
coded (operands.Mem m) = coded_mem m.base m.index m.scale m.disp
coded (operands.Imm n) = record { mode = 0; sib = []; disp = []; extend = 0 }

-- ---- the bytes of a row

-- the REX prefix with these bits, none for none
abbrev pub rex_with : ℕ → Rex
rex_with bits = if bits == 0 then NoRex else if nat_lt bits 8 then ClearRex else SetRex

abbrev pub rex_byte : ℕ → ℕ
rex_byte bits = if bits == 0 then 0 else 64 + bits

abbrev pub value_at : Option Pattern → ℕ
value_at None = 0
value_at (Some p) = p.value

abbrev pub cells_of : Form → ℕ → ℕ → ℕ → List ℕ
cells_of f rex opcode modrm = value_at f.first ∷ value_at f.second ∷ value_at f.third ∷ rex_byte rex ∷ value_at f.escape ∷ value_at f.escape2 ∷ opcode ∷ modrm ∷ []

-- the cells of the places that have a byte
abbrev pub present : List (Option Pattern) → List ℕ → List ℕ
present [] cells = []
present (o ∷ os) [] = []
present (None ∷ os) (c ∷ cells) = present os cells
present (Some p ∷ os) (c ∷ cells) = c ∷ present os cells

-- a row with these bits of REX, this opcode and ModRM, and these bytes after them
abbrev pub spelling : Form → ℕ → ℕ → ℕ → List ℕ → List ℕ
spelling f rex opcode modrm tail = present (places f (rex_with rex)) (cells_of f rex opcode modrm) ++ tail

-- REX.W as a bit of REX
abbrev pub w_bit : Size → ℕ
w_bit Dword = 0
w_bit Qword = 8

-- a row with ModRM: W, opcode, the number in the reg field, the operand, the immediate
abbrev pub with_rm : Form → Size → ℕ → ℕ → Operand → List ℕ → List ℕ
with_rm f wide opcode reg rm imm =
    let c = coded rm in
    spelling f (w_bit wide + 4 * (reg / 8) + c.extend) opcode (c.mode + 8 * (reg % 8)) (c.sib ++ (c.disp ++ imm))

-- a row with a register in its opcode
abbrev pub with_reg : Form → Size → ℕ → Reg → List ℕ → List ℕ
with_reg f wide opcode r imm = spelling f (w_bit wide + high r) (opcode + low r) 0 imm

-- a row with neither
abbrev pub alone : Form → ℕ → List ℕ → List ℕ
alone f opcode imm = spelling f 0 opcode 0 imm

-- ---- the instruction

abbrev pub alu_spelling : AluOp → Size → Operand → Operand → List ℕ
alu_spelling op size (operands.Reg d) (operands.Reg r) = with_rm row.alu_rm_reg size (0x01 + 8 * op_number op) (reg_number r) (operands.Reg d) []
alu_spelling op size (operands.Mem m) (operands.Reg r) = with_rm row.cmp_mem_reg size 0x39 (reg_number r) (operands.Mem m) []
alu_spelling op size (operands.Reg d) (operands.Mem m) = with_rm row.alu_reg_rm size (0x03 + 8 * op_number op) (reg_number d) (operands.Mem m) []
alu_spelling op size (operands.Reg d) (operands.Imm n) =
    if fits_byte n then with_rm row.alu_reg_imm8 size 0x83 (op_number op) (operands.Reg d) (one_byte n)
    else with_rm row.alu_reg_imm32 size 0x81 (op_number op) (operands.Reg d) (four_bytes n)
alu_spelling op size (operands.Mem m) (operands.Imm n) =
    if fits_byte n then with_rm row.cmp_mem_imm8 size 0x83 7 (operands.Mem m) (one_byte n)
    else with_rm row.cmp_mem_imm32 size 0x81 7 (operands.Mem m) (four_bytes n)
alu_spelling op size dst src = []

abbrev pub test_spelling : Size → Operand → Operand → List ℕ
test_spelling size dst (operands.Reg r) = with_rm row.test_rm_reg size 0x85 (reg_number r) dst []
test_spelling size dst (operands.Imm n) = with_rm row.test_rm_imm32 size 0xf7 0 dst (four_bytes n)
test_spelling size dst (operands.Mem m) = []

abbrev pub mov_spelling : Size → Operand → Operand → List ℕ
mov_spelling size (operands.Reg d) (operands.Reg r) = with_rm row.mov_reg_reg size 0x89 (reg_number r) (operands.Reg d) []
mov_spelling size (operands.Mem m) (operands.Reg r) = with_rm row.mov_mem_reg Qword 0x89 (reg_number r) (operands.Mem m) []
mov_spelling size (operands.Reg d) (operands.Mem m) = with_rm row.mov_reg_rm size 0x8b (reg_number d) (operands.Mem m) []
mov_spelling Dword (operands.Reg d) (operands.Imm n) = with_reg row.mov_reg_imm32 Dword 0xb8 d (four_bytes n)
mov_spelling Qword dst (operands.Imm n) = with_rm row.mov_qword_rm_imm32 Qword 0xc7 0 dst (four_bytes n)
mov_spelling size dst src = []

-- by an immediate byte: this row with this number in the reg field; by CL: that one
abbrev pub shift_spelling : Form → Form → ℕ → Size → Reg → Count → List ℕ
shift_spelling given in_cl digit size r (counts.Number n) = with_rm given size 0xc1 digit (operands.Reg r) (n ∷ [])
shift_spelling given in_cl digit size r counts.Cl = with_rm in_cl size 0xd3 digit (operands.Reg r) []

abbrev pub push_spelling : Operand → List ℕ
push_spelling (operands.Reg r) = with_reg row.push_reg Dword 0x50 r []
push_spelling (operands.Imm n) = if fits_byte n then alone row.push_imm8 0x6a (one_byte n) else alone row.push_imm32 0x68 (four_bytes n)
push_spelling (operands.Mem m) = with_rm row.push_mem Dword 0xff 6 (operands.Mem m) []

abbrev pub canonical_spelling : Instr → List ℕ
canonical_spelling (instrs.Alu op size dst src) = alu_spelling op size dst src
canonical_spelling (instrs.Test size dst src) = test_spelling size dst src
canonical_spelling (instrs.Mov size dst src) = mov_spelling size dst src
canonical_spelling (instrs.MovWide dst value) = with_reg row.mov_wide Qword 0xb8 dst (to_le_bytes w64 value)
canonical_spelling (instrs.MovZero8 dst src) = with_rm row.movzx_byte Dword 0xb6 (reg_number dst) (operands.Mem src) []
canonical_spelling (instrs.MovSign32 dst src) = with_rm row.movsxd Qword 0x63 (reg_number dst) src []
canonical_spelling (instrs.Lea size dst src) = with_rm row.lea size 0x8d (reg_number dst) (operands.Mem src) []
canonical_spelling (instrs.Xchg dst reg) = with_rm row.xchg Qword 0x87 (reg_number reg) dst []
canonical_spelling (instrs.LockXadd mem reg) = with_rm row.lock_xadd Qword 0xc1 (reg_number reg) (operands.Mem mem) []
canonical_spelling (instrs.LockCmpxchg mem reg) = with_rm row.lock_cmpxchg Qword 0xb1 (reg_number reg) (operands.Mem mem) []
canonical_spelling (instrs.Inc size reg) = with_rm row.inc size 0xff 0 (operands.Reg reg) []
canonical_spelling (instrs.Dec size reg) = with_rm row.dec size 0xff 1 (operands.Reg reg) []
canonical_spelling (instrs.Not size reg) = with_rm row.not_reg size 0xf7 2 (operands.Reg reg) []
canonical_spelling (instrs.Neg size reg) = with_rm row.neg_reg size 0xf7 3 (operands.Reg reg) []
canonical_spelling (instrs.Imul size dst src) = with_rm row.imul size 0xaf (reg_number dst) src []
canonical_spelling (instrs.Shl size reg count) = shift_spelling row.shl_number row.shl_cl 4 size reg count
canonical_spelling (instrs.Shr size reg count) = shift_spelling row.shr_number row.shr_cl 5 size reg count
canonical_spelling (instrs.Sar size reg count) = shift_spelling row.sar_number row.sar_cl 7 size reg count
canonical_spelling (instrs.Cmov cond size dst src) = with_rm row.cmov size (0x40 + cond_number cond) (reg_number dst) src []
canonical_spelling (instrs.Push src) = push_spelling src
canonical_spelling (instrs.Pop dst) = with_reg row.pop_reg Dword 0x58 dst []
canonical_spelling instrs.Leave = alone row.leave 0xc9 []
canonical_spelling (instrs.CallRel disp) = alone row.call_rel 0xe8 (four_bytes disp)
canonical_spelling (instrs.CallInd target notrack) = with_rm (if notrack then row.notrack_call_rm else row.call_rm) Dword 0xff 2 target []
canonical_spelling (instrs.JmpRel disp) = alone row.jmp_rel32 0xe9 (four_bytes disp)
canonical_spelling (instrs.JmpInd target notrack) = with_rm (if notrack then row.notrack_jmp_rm else row.jmp_rm) Dword 0xff 4 target []
canonical_spelling (instrs.Jcc cond disp) = alone row.jcc_rel32 (0x80 + cond_number cond) (four_bytes disp)
canonical_spelling instrs.Ret = alone row.ret 0xc3 []
canonical_spelling (instrs.RetImm bytes) = alone row.ret_imm16 0xc2 (to_le_bytes w16 bytes)
canonical_spelling instrs.Nop = alone row.nop 0x90 []
canonical_spelling instrs.Pause = alone row.pause 0x90 []
canonical_spelling instrs.Endbr64 = alone row.endbr64 0xfa []
canonical_spelling instrs.Ud2 = alone row.ud2 0x0b []
canonical_spelling instrs.Syscall = alone row.syscall 0x05 []
canonical_spelling instrs.Stc = alone row.stc 0xf9 []
canonical_spelling instrs.Clc = alone row.clc 0xf8 []
canonical_spelling (instrs.Incsspq reg) = with_rm row.incsspq Qword 0xae 5 (operands.Reg reg) []
canonical_spelling (instrs.Rdsspq reg) = with_rm row.rdsspq Qword 0x1e 1 (operands.Reg reg) []
canonical_spelling (instrs.Rstorssp mem) = with_rm row.rstorssp Dword 0x01 5 (operands.Mem mem) []
canonical_spelling instrs.Saveprevssp = alone row.saveprevssp 0xea []
canonical_spelling instrs.Setssbsy = alone row.setssbsy 0xe8 []
canonical_spelling (instrs.Clrssbsy mem) = with_rm row.clrssbsy Dword 0xae 6 (operands.Mem mem) []
canonical_spelling (instrs.Wrssq mem reg) = with_rm row.wrssq Qword 0xf6 (reg_number reg) (operands.Mem mem) []
canonical_spelling (instrs.Wrussq mem reg) = with_rm row.wrussq Qword 0xf5 (reg_number reg) (operands.Mem mem) []
