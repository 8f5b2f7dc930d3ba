-- How long the bytes of an instruction may be.
use Rattle.std.proofs.Common.{ℕ, ℤ, ◌+◌, ◌*◌, ◌≤◌, ◌/◌, ◌%◌, eqb, Bool, true, false, cond, List, [], ◌∷◌, ◌++◌, length, Option, Some, None, if◌then◌else◌, arith, length-append}
use Rattle.std.specs.Int.{w16, w64, to_le_bytes}
use Rattle.cet_isa.specs.declared.instructions.AluOp.{AluOp}
use Rattle.cet_isa.specs.declared.instructions.Base.{Base}
use Rattle.cet_isa.specs.declared.instructions.Base.TheVariants as bases
use Rattle.cet_isa.specs.declared.instructions.Count.{Count}
use Rattle.cet_isa.specs.declared.instructions.Count.TheVariants as counts
use Rattle.cet_isa.specs.declared.instructions.Instr.{Instr}
use Rattle.cet_isa.specs.declared.instructions.Instr.TheVariants as instrs
use Rattle.cet_isa.specs.declared.instructions.Operand.{Operand}
use Rattle.cet_isa.specs.declared.instructions.Operand.TheVariants as operands
use Rattle.cet_isa.specs.declared.instructions.Reg.{Reg}
use Rattle.cet_isa.specs.declared.instructions.Size.{Size}
use Rattle.cet_isa.specs.declared.instructions.Size.TheVariants.{Dword, Qword}
use Rattle.cet_isa.specs.Form.{Pattern, Form}
use Rattle.cet_isa.specs.Forms as row
use Rattle.cet_isa.specs.Spells.{places}
use Rattle.cet_isa.specs.Code.{reg_number, op_number, cond_number}
use Rattle.cet_isa.specs.Canonical.{one_byte, four_bytes, fits_byte, low, high, needs_no_disp, mod_bits, disp_bytes, Coded, coded_base, coded_mem, coded, rex_with, cells_of, present, spelling}
use Rattle.cet_isa.specs.Canonical.{w_bit, with_rm, with_reg, alone, alu_spelling, test_spelling, mov_spelling, shift_spelling, push_spelling, canonical_spelling}

present_length : (os : List (Option Pattern)) (cells : List ℕ) → length (present os cells) ≤ length cells
present_length [] cells = omega arith
present_length (o ∷ os) [] = omega arith
present_length (None ∷ os) (c ∷ cells) = let h = present_length os cells in omega (arith, h)
present_length (Some p ∷ os) (c ∷ cells) = let h = present_length os cells in omega (arith, h)

spelling_length : (f : Form) (rex opcode modrm : ℕ) (tail : List ℕ) → length (spelling f rex opcode modrm tail) ≤ 8 + length tail
spelling_length f rex opcode modrm tail =
    let h : length (present (places f (rex_with rex)) (cells_of f rex opcode modrm)) ≤ 8 =
    present_length (places f (rex_with rex)) (cells_of f rex opcode modrm) in
    let e = length-append (present (places f (rex_with rex)) (cells_of f rex opcode modrm)) tail in
    omega (arith, h, e)

choice : (k : ℕ) (t : Bool) (xs ys : List ℕ) → length xs ≤ k → length ys ≤ k → length (cond t xs ys) ≤ k
choice k true xs ys h e = h
choice k false xs ys h e = e

four_length : (z : ℤ) → length (four_bytes z) ≤ 4
four_length z = omega arith

one_length : (z : ℤ) → length (one_byte z) ≤ 4
one_length z = omega arith

disp_length : (b : Reg) (d : ℤ) → length (disp_bytes b d) ≤ 4
disp_length b d =
    choice 4 (needs_no_disp b d) [] (cond (fits_byte d) (one_byte d) (four_bytes d)) (omega arith)
    (choice 4 (fits_byte d) (one_byte d) (four_bytes d) (one_length d) (four_length d))

-- SIB and displacement
abbrev IsShort : Coded → Type 0
IsShort c = (length c.sib ≤ 1) × (length c.disp ≤ 4)

pick : (t : Bool) (c d : Coded) → IsShort c → IsShort d → IsShort (cond t c d)
pick true c d h k = h
pick false c d h k = k

base_short : (b : Reg) (d : ℤ) → IsShort (coded_base b d)
base_short b d =
    pick (eqb (low b) 4) (record { mode = mod_bits b d + 4; sib = 0x24 ∷ []; disp = disp_bytes b d; extend = high b })
    (record { mode = mod_bits b d + low b; sib = []; disp = disp_bytes b d; extend = high b })
    (omega arith, disp_length b d) (omega arith, disp_length b d)

mem_short : (b : Base) (i : Option Reg) (n : ℕ) (d : ℤ) → IsShort (coded_mem b i n d)
mem_short bases.Rip i n d = (omega arith, four_length d)
mem_short bases.None None n d = (omega arith, four_length d)
mem_short bases.None (Some i) n d = (omega arith, four_length d)
mem_short (bases.Reg b) None n d = base_short b d
mem_short (bases.Reg b) (Some i) n d = (omega arith, disp_length b d)

operand_short : (o : Operand) → IsShort (coded o)
operand_short (operands.Reg r) = (omega arith, omega arith)
operand_short (operands.Mem m) = mem_short m.base m.index m.scale m.disp
operand_short (operands.Imm n) = (omega arith, omega arith)

rm_short : (f : Form) (wide : Size) (opcode reg : ℕ) (rm : Operand) (imm : List ℕ) → length imm ≤ 8
    → length (with_rm f wide opcode reg rm imm) ≤ 21
rm_short f wide opcode reg rm imm h =
    let c = coded rm in
    let k = operand_short rm in
    let e = length-append c.disp imm in
    let g = length-append c.sib (c.disp ++ imm) in
    let l = spelling_length f (w_bit wide + 4 * (reg / 8) + c.extend) opcode (c.mode + 8 * (reg % 8)) (c.sib ++ (c.disp ++ imm)) in
    omega (arith, h, k.0, k.1, e, g, l)

reg_short : (f : Form) (wide : Size) (opcode : ℕ) (r : Reg) (imm : List ℕ) → length imm ≤ 8
    → length (with_reg f wide opcode r imm) ≤ 21
reg_short f wide opcode r imm h = let l = spelling_length f (w_bit wide + high r) (opcode + low r) 0 imm in omega (arith, h, l)

alone_short : (f : Form) (opcode : ℕ) (imm : List ℕ) → length imm ≤ 8 → length (alone f opcode imm) ≤ 21
alone_short f opcode imm h = let l = spelling_length f 0 opcode 0 imm in omega (arith, h, l)

none : length {A = ℕ} [] ≤ 8
none = omega arith

one : (z : ℤ) → length (one_byte z) ≤ 8
one z = omega arith

four : (z : ℤ) → length (four_bytes z) ≤ 8
four z = omega arith

alu_short : (op : AluOp) (size : Size) (dst src : Operand) → length (alu_spelling op size dst src) ≤ 21
alu_short op size (operands.Reg d) (operands.Reg r) =
    rm_short row.alu_rm_reg size (0x01 + 8 * op_number op) (reg_number r) (operands.Reg d) [] none
alu_short op size (operands.Mem m) (operands.Reg r) = rm_short row.cmp_mem_reg size 0x39 (reg_number r) (operands.Mem m) [] none
alu_short op size (operands.Reg d) (operands.Mem m) =
    rm_short row.alu_reg_rm size (0x03 + 8 * op_number op) (reg_number d) (operands.Mem m) [] none
alu_short op size (operands.Reg d) (operands.Imm n) =
    choice 21 (fits_byte n) (with_rm row.alu_reg_imm8 size 0x83 (op_number op) (operands.Reg d) (one_byte n))
    (with_rm row.alu_reg_imm32 size 0x81 (op_number op) (operands.Reg d) (four_bytes n))
    (rm_short row.alu_reg_imm8 size 0x83 (op_number op) (operands.Reg d) (one_byte n) (one n))
    (rm_short row.alu_reg_imm32 size 0x81 (op_number op) (operands.Reg d) (four_bytes n) (four n))
alu_short op size (operands.Mem m) (operands.Imm n) =
    choice 21 (fits_byte n) (with_rm row.cmp_mem_imm8 size 0x83 7 (operands.Mem m) (one_byte n))
    (with_rm row.cmp_mem_imm32 size 0x81 7 (operands.Mem m) (four_bytes n))
    (rm_short row.cmp_mem_imm8 size 0x83 7 (operands.Mem m) (one_byte n) (one n))
    (rm_short row.cmp_mem_imm32 size 0x81 7 (operands.Mem m) (four_bytes n) (four n))
alu_short op size dst src = omega arith

test_short : (size : Size) (dst src : Operand) → length (test_spelling size dst src) ≤ 21
test_short size dst (operands.Reg r) = rm_short row.test_rm_reg size 0x85 (reg_number r) dst [] none
test_short size dst (operands.Imm n) = rm_short row.test_rm_imm32 size 0xf7 0 dst (four_bytes n) (four n)
test_short size dst (operands.Mem m) = omega arith

mov_short : (size : Size) (dst src : Operand) → length (mov_spelling size dst src) ≤ 21
mov_short size (operands.Reg d) (operands.Reg r) = rm_short row.mov_reg_reg size 0x89 (reg_number r) (operands.Reg d) [] none
mov_short size (operands.Mem m) (operands.Reg r) = rm_short row.mov_mem_reg Qword 0x89 (reg_number r) (operands.Mem m) [] none
mov_short size (operands.Reg d) (operands.Mem m) = rm_short row.mov_reg_rm size 0x8b (reg_number d) (operands.Mem m) [] none
mov_short Dword (operands.Reg d) (operands.Imm n) = reg_short row.mov_reg_imm32 Dword 0xb8 d (four_bytes n) (four n)
mov_short Qword dst (operands.Imm n) = rm_short row.mov_qword_rm_imm32 Qword 0xc7 0 dst (four_bytes n) (four n)
mov_short size dst src = omega arith

shift_short : (parsed in_cl : Form) (digit : ℕ) (size : Size) (r : Reg) (count : Count)
    → length (shift_spelling parsed in_cl digit size r count) ≤ 21
shift_short parsed in_cl digit size r (counts.Number n) = rm_short parsed size 0xc1 digit (operands.Reg r) (n ∷ []) (omega arith)
shift_short parsed in_cl digit size r counts.Cl = rm_short in_cl size 0xd3 digit (operands.Reg r) [] none

push_short : (o : Operand) → length (push_spelling o) ≤ 21
push_short (operands.Reg r) = reg_short row.push_reg Dword 0x50 r [] none
push_short (operands.Imm n) =
    choice 21 (fits_byte n) (alone row.push_imm8 0x6a (one_byte n)) (alone row.push_imm32 0x68 (four_bytes n))
    (alone_short row.push_imm8 0x6a (one_byte n) (one n))
    (alone_short row.push_imm32 0x68 (four_bytes n) (four n))
push_short (operands.Mem m) = rm_short row.push_mem Dword 0xff 6 (operands.Mem m) [] none

pub canonical_short : (i : Instr) → length (canonical_spelling i) ≤ 21
canonical_short (instrs.Alu op size dst src) = alu_short op size dst src
canonical_short (instrs.Test size dst src) = test_short size dst src
canonical_short (instrs.Mov size dst src) = mov_short size dst src
canonical_short (instrs.MovWide dst value) = reg_short row.mov_wide Qword 0xb8 dst (to_le_bytes w64 value) (omega arith)
canonical_short (instrs.MovZero8 dst src) = rm_short row.movzx_byte Dword 0xb6 (reg_number dst) (operands.Mem src) [] none
canonical_short (instrs.MovSign32 dst src) = rm_short row.movsxd Qword 0x63 (reg_number dst) src [] none
canonical_short (instrs.Lea size dst src) = rm_short row.lea size 0x8d (reg_number dst) (operands.Mem src) [] none
canonical_short (instrs.Xchg dst reg) = rm_short row.xchg Qword 0x87 (reg_number reg) dst [] none
canonical_short (instrs.LockXadd mem reg) = rm_short row.lock_xadd Qword 0xc1 (reg_number reg) (operands.Mem mem) [] none
canonical_short (instrs.LockCmpxchg mem reg) = rm_short row.lock_cmpxchg Qword 0xb1 (reg_number reg) (operands.Mem mem) [] none
canonical_short (instrs.Inc size reg) = rm_short row.inc size 0xff 0 (operands.Reg reg) [] none
canonical_short (instrs.Dec size reg) = rm_short row.dec size 0xff 1 (operands.Reg reg) [] none
canonical_short (instrs.Not size reg) = rm_short row.not_reg size 0xf7 2 (operands.Reg reg) [] none
canonical_short (instrs.Neg size reg) = rm_short row.neg_reg size 0xf7 3 (operands.Reg reg) [] none
canonical_short (instrs.Imul size dst src) = rm_short row.imul size 0xaf (reg_number dst) src [] none
canonical_short (instrs.Shl size reg count) = shift_short row.shl_number row.shl_cl 4 size reg count
canonical_short (instrs.Shr size reg count) = shift_short row.shr_number row.shr_cl 5 size reg count
canonical_short (instrs.Sar size reg count) = shift_short row.sar_number row.sar_cl 7 size reg count
canonical_short (instrs.Cmov cond size dst src) = rm_short row.cmov size (0x40 + cond_number cond) (reg_number dst) src [] none
canonical_short (instrs.Push src) = push_short src
canonical_short (instrs.Pop dst) = reg_short row.pop_reg Dword 0x58 dst [] none
canonical_short instrs.Leave = alone_short row.leave 0xc9 [] none
canonical_short (instrs.CallRel disp) = alone_short row.call_rel 0xe8 (four_bytes disp) (four disp)
canonical_short (instrs.CallInd target notrack) =
    rm_short (if notrack then row.notrack_call_rm else row.call_rm) Dword 0xff 2 target [] none
canonical_short (instrs.JmpRel disp) = alone_short row.jmp_rel32 0xe9 (four_bytes disp) (four disp)
canonical_short (instrs.JmpInd target notrack) =
    rm_short (if notrack then row.notrack_jmp_rm else row.jmp_rm) Dword 0xff 4 target [] none
canonical_short (instrs.Jcc cond disp) = alone_short row.jcc_rel32 (0x80 + cond_number cond) (four_bytes disp) (four disp)
canonical_short instrs.Ret = alone_short row.ret 0xc3 [] none
canonical_short (instrs.RetImm bytes) = alone_short row.ret_imm16 0xc2 (to_le_bytes w16 bytes) (omega arith)
canonical_short instrs.Nop = alone_short row.nop 0x90 [] none
canonical_short instrs.Pause = alone_short row.pause 0x90 [] none
canonical_short instrs.Endbr64 = alone_short row.endbr64 0xfa [] none
canonical_short instrs.Ud2 = alone_short row.ud2 0x0b [] none
canonical_short instrs.Syscall = alone_short row.syscall 0x05 [] none
canonical_short instrs.Stc = alone_short row.stc 0xf9 [] none
canonical_short instrs.Clc = alone_short row.clc 0xf8 [] none
canonical_short (instrs.Incsspq reg) = rm_short row.incsspq Qword 0xae 5 (operands.Reg reg) [] none
canonical_short (instrs.Rdsspq reg) = rm_short row.rdsspq Qword 0x1e 1 (operands.Reg reg) [] none
canonical_short (instrs.Rstorssp mem) = rm_short row.rstorssp Dword 0x01 5 (operands.Mem mem) [] none
canonical_short instrs.Saveprevssp = alone_short row.saveprevssp 0xea [] none
canonical_short instrs.Setssbsy = alone_short row.setssbsy 0xe8 [] none
canonical_short (instrs.Clrssbsy mem) = rm_short row.clrssbsy Dword 0xae 6 (operands.Mem mem) [] none
canonical_short (instrs.Wrssq mem reg) = rm_short row.wrssq Qword 0xf6 (reg_number reg) (operands.Mem mem) [] none
canonical_short (instrs.Wrussq mem reg) = rm_short row.wrussq Qword 0xf5 (reg_number reg) (operands.Mem mem) [] none
