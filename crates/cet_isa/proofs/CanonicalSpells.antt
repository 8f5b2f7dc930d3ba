-- The canonical spelling of each instruction that has a spelling. Source: own.
use Rattle.std.proofs.Common.{◌≡◌, ℕ, ◌+◌, ◌*◌, ◌/◌, ◌%◌, ◌^◌, ◌<◌, Bool, true, false, cond, List, [], ◌∷◌, Some, None, refl, ap, ◌∙◌, arith, ℤ}
use Rattle.std.specs.Prelude.{FitsSigned}
use Rattle.std.specs.Int.{w16, w32, w64, from_le_bytes, to_le_bytes}
use Rattle.std.proofs.lemmas.Bool.{agree_below_at}
use Rattle.std.proofs.lemmas.Nat.{from_le_bytes-to_le_bytes_2, from_le_bytes-to_le_bytes_8}
use Rattle.cet_isa.specs.declared.instructions.Reg.{Reg}
use Rattle.cet_isa.specs.declared.instructions.AluOp.{AluOp}
use Rattle.cet_isa.specs.declared.instructions.AluOp.TheVariants as ops
use Rattle.cet_isa.specs.declared.instructions.Cond.{Cond}
use Rattle.cet_isa.specs.declared.instructions.Cond.TheVariants as conds
use Rattle.cet_isa.specs.declared.instructions.Size.{Size}
use Rattle.cet_isa.specs.declared.instructions.Size.TheVariants.{Dword, Qword}
use Rattle.cet_isa.specs.declared.instructions.Mem.{Mem}
use Rattle.cet_isa.specs.declared.instructions.Operand.{Operand}
use Rattle.cet_isa.specs.declared.instructions.Operand.TheVariants as operands
use Rattle.cet_isa.specs.declared.instructions.Count.TheVariants as counts
use Rattle.cet_isa.specs.declared.instructions.Instr.{Instr}
use Rattle.cet_isa.specs.declared.instructions.Instr.TheVariants as instrs
use Rattle.cet_isa.specs.Forms.{forms}
use Rattle.cet_isa.specs.Forms as row
use Rattle.cet_isa.specs.Code.{reg_number, alu_at, op_number, cond_at, cond_number}
use Rattle.cet_isa.specs.Meaning.{signed_of}
use Rattle.cet_isa.specs.Spells.{has, Spells}
use Rattle.cet_isa.specs.Reader.{IsBytes}
use Rattle.cet_isa.specs.Canonical.{one_byte, four_bytes, fits_byte, with_rm, with_reg, alone, canonical_spelling}
use Rattle.cet_isa.specs.Spelled.{mem_ok, place_ok, alu_ok, test_ok, mov_ok, push_ok, has_spelling, OperandFits, InstrFits}
use Rattle.cet_isa.proofs.OperandLaws.{reg_small, one_back, four_back, one_fits, four_fit}
use Rattle.cet_isa.proofs.CanonicalLaws.{either_side, by_rm, by_alone, by_reg}

-- ---- operations and conditions by their numbers

op_back : (o : AluOp) → alu_at (op_number o) ≡ o
op_back ops.Add = refl
op_back ops.Or = refl
op_back ops.Adc = refl
op_back ops.Sbb = refl
op_back ops.And = refl
op_back ops.Sub = refl
op_back ops.Xor = refl
op_back ops.Cmp = refl

op_small : (o : AluOp) → op_number o < 8
op_small ops.Add = omega arith
op_small _ = omega arith

cond_back : (c : Cond) → cond_at (cond_number c) ≡ c
cond_back conds.O = refl
cond_back conds.No = refl
cond_back conds.B = refl
cond_back conds.Ae = refl
cond_back conds.E = refl
cond_back conds.Ne = refl
cond_back conds.Be = refl
cond_back conds.A = refl
cond_back conds.S = refl
cond_back conds.Ns = refl
cond_back conds.P = refl
cond_back conds.Np = refl
cond_back conds.L = refl
cond_back conds.Ge = refl
cond_back conds.Le = refl
cond_back conds.G = refl

cond_small : (c : Cond) → cond_number c < 16
cond_small conds.O = omega arith
cond_small _ = omega arith

-- an operation in the opcode
op_in_opcode : (o : AluOp) (base code : ℕ) → base < 8 → code ≡ base + 8 * op_number o → alu_at (code / 8 % 8) ≡ o
op_in_opcode o base code l e = let k : code / 8 % 8 ≡ op_number o = omega (arith, op_small o) in ap alu_at k ∙ op_back o

op_in_digit : (o : AluOp) (m : ℕ) → m / 8 % 8 ≡ op_number o % 8 → alu_at (m / 8 % 8) ≡ o
op_in_digit o m e = let k : m / 8 % 8 ≡ op_number o = omega (arith, e, op_small o) in ap alu_at k ∙ op_back o

cond_in_opcode : (c : Cond) (base code : ℕ) → base % 16 ≡ 0 → code ≡ base + cond_number c → cond_at (code % 16) ≡ c
cond_in_opcode c base code l e = let k : code % 16 ≡ cond_number c = omega (arith, l, e, cond_small c) in ap cond_at k ∙ cond_back c

-- ---- operations of two operands

alu_rm_reg_spells : (op : AluOp) (size : Size) (d r : Reg) → Spells (with_rm row.alu_rm_reg size (0x01 + 8 * op_number op) (reg_number r) (operands.Reg d) []) (instrs.Alu op size (operands.Reg d) (operands.Reg r))
alu_rm_reg_spells op size d r = by_rm row.alu_rm_reg size (0x01 + 8 * op_number op) (reg_number r) (operands.Reg d) [] (None) (instrs.Alu op size (operands.Reg d) (operands.Reg r)) (0, omega arith, refl)
    (record { row = refl; modrm = refl; opcode = agree_below_at (λ k. has row.alu_rm_reg.opcode (1 + 8 * k)) (λ _. true) 8 (op_number op) refl (op_small op); small = reg_small r; number = refl; place = refl; fits = tt; bytes = tt })
    (λ x s. rw (op_in_opcode op 1 x.opcode (omega arith) s.op_is, s.size_is, s.rm_is, s.reg_is r refl) refl)

cmp_mem_reg_spells : (size : Size) (m : Mem) (r : Reg) → FitsSigned w32 m.disp → mem_ok m ≡ true →
    Spells (with_rm row.cmp_mem_reg size 0x39 (reg_number r) (operands.Mem m) []) (instrs.Alu ops.Cmp size (operands.Mem m) (operands.Reg r))
cmp_mem_reg_spells size m r f ok = by_rm row.cmp_mem_reg size 0x39 (reg_number r) (operands.Mem m) [] (None) (instrs.Alu ops.Cmp size (operands.Mem m) (operands.Reg r)) (1, omega arith, refl)
    (record { row = refl; modrm = refl; opcode = refl; small = reg_small r; number = refl; place = ok; fits = f; bytes = tt })
    (λ x s. rw (s.op_is, s.size_is, s.rm_is, s.reg_is r refl) refl)

alu_reg_mem_spells : (op : AluOp) (size : Size) (d : Reg) (m : Mem) → FitsSigned w32 m.disp → mem_ok m ≡ true →
    Spells (with_rm row.alu_reg_rm size (0x03 + 8 * op_number op) (reg_number d) (operands.Mem m) []) (instrs.Alu op size (operands.Reg d) (operands.Mem m))
alu_reg_mem_spells op size d m f ok = by_rm row.alu_reg_rm size (0x03 + 8 * op_number op) (reg_number d) (operands.Mem m) [] (None) (instrs.Alu op size (operands.Reg d) (operands.Mem m)) (2, omega arith, refl)
    (record { row = refl; modrm = refl; opcode = agree_below_at (λ k. has row.alu_reg_rm.opcode (3 + 8 * k)) (λ _. true) 8 (op_number op) refl (op_small op); small = reg_small d; number = refl; place = ok; fits = f; bytes = tt })
    (λ x s. rw (op_in_opcode op 3 x.opcode (omega arith) s.op_is, s.size_is, s.rm_is, s.reg_is d refl) refl)

alu_reg_imm8_spells : (op : AluOp) (size : Size) (d : Reg) (n : ℤ) → fits_byte n ≡ true → Spells (with_rm row.alu_reg_imm8 size 0x83 (op_number op) (operands.Reg d) (one_byte n))
    (instrs.Alu op size (operands.Reg d) (operands.Imm n))
alu_reg_imm8_spells op size d n h = by_rm row.alu_reg_imm8 size 0x83 (op_number op) (operands.Reg d) (one_byte n) (None) (instrs.Alu op size (operands.Reg d) (operands.Imm n)) (3, omega arith, refl)
    (record { row = refl; modrm = refl; opcode = refl; small = omega (arith, op_small op); number = refl; place = refl; fits = tt; bytes = one_fits n })
    (λ x s. rw (op_in_digit op x.modrm s.digit, s.size_is, s.rm_is, ap signed_of s.imm_is, one_back n h) refl)

alu_reg_imm32_spells : (op : AluOp) (size : Size) (d : Reg) (n : ℤ) → FitsSigned w32 n → Spells (with_rm row.alu_reg_imm32 size 0x81 (op_number op) (operands.Reg d) (four_bytes n))
    (instrs.Alu op size (operands.Reg d) (operands.Imm n))
alu_reg_imm32_spells op size d n h = by_rm row.alu_reg_imm32 size 0x81 (op_number op) (operands.Reg d) (four_bytes n) (None) (instrs.Alu op size (operands.Reg d) (operands.Imm n)) (4, omega arith, refl)
    (record { row = refl; modrm = refl; opcode = refl; small = omega (arith, op_small op); number = refl; place = refl; fits = tt; bytes = four_fit n })
    (λ x s. rw (op_in_digit op x.modrm s.digit, s.size_is, s.rm_is, ap signed_of s.imm_is, four_back n h) refl)

cmp_mem_imm8_spells : (size : Size) (m : Mem) (n : ℤ) → FitsSigned w32 m.disp → mem_ok m ≡ true → fits_byte n ≡ true →
    Spells (with_rm row.cmp_mem_imm8 size 0x83 7 (operands.Mem m) (one_byte n)) (instrs.Alu ops.Cmp size (operands.Mem m) (operands.Imm n))
cmp_mem_imm8_spells size m n f ok h = by_rm row.cmp_mem_imm8 size 0x83 7 (operands.Mem m) (one_byte n) (Some 7) (instrs.Alu ops.Cmp size (operands.Mem m) (operands.Imm n)) (6, omega arith, refl)
    (record { row = refl; modrm = refl; opcode = refl; small = omega arith; number = refl; place = ok; fits = f; bytes = one_fits n })
    (λ x s. rw (s.digit, s.size_is, s.rm_is, ap signed_of s.imm_is, one_back n h) refl)

cmp_mem_imm32_spells : (size : Size) (m : Mem) (n : ℤ) → FitsSigned w32 m.disp → mem_ok m ≡ true → FitsSigned w32 n →
    Spells (with_rm row.cmp_mem_imm32 size 0x81 7 (operands.Mem m) (four_bytes n)) (instrs.Alu ops.Cmp size (operands.Mem m) (operands.Imm n))
cmp_mem_imm32_spells size m n f ok h = by_rm row.cmp_mem_imm32 size 0x81 7 (operands.Mem m) (four_bytes n) (Some 7) (instrs.Alu ops.Cmp size (operands.Mem m) (operands.Imm n)) (7, omega arith, refl)
    (record { row = refl; modrm = refl; opcode = refl; small = omega arith; number = refl; place = ok; fits = f; bytes = four_fit n })
    (λ x s. rw (s.digit, s.size_is, s.rm_is, ap signed_of s.imm_is, four_back n h) refl)

test_reg_spells : (size : Size) (o : Operand) (r : Reg) → OperandFits o → place_ok o ≡ true → Spells (with_rm row.test_rm_reg size 0x85 (reg_number r) o []) (instrs.Test size o (operands.Reg r))
test_reg_spells size o r f ok = by_rm row.test_rm_reg size 0x85 (reg_number r) o [] (None) (instrs.Test size o (operands.Reg r)) (8, omega arith, refl)
    (record { row = refl; modrm = either_side o row.test_rm_reg.modrm (None) refl refl; opcode = refl; small = reg_small r; number = refl; place = ok; fits = f; bytes = tt })
    (λ x s. rw (s.size_is, s.rm_is, s.reg_is r refl) refl)

test_imm_spells : (size : Size) (o : Operand) (n : ℤ) → OperandFits o → place_ok o ≡ true → FitsSigned w32 n → Spells (with_rm row.test_rm_imm32 size 0xf7 0 o (four_bytes n)) (instrs.Test size o (operands.Imm n))
test_imm_spells size o n f ok h = by_rm row.test_rm_imm32 size 0xf7 0 o (four_bytes n) (Some 0) (instrs.Test size o (operands.Imm n)) (9, omega arith, refl)
    (record { row = refl; modrm = either_side o row.test_rm_imm32.modrm (Some 0) refl refl; opcode = refl; small = omega arith; number = refl; place = ok; fits = f; bytes = four_fit n })
    (λ x s. rw (s.size_is, s.rm_is, ap signed_of s.imm_is, four_back n h) refl)

imul_spells : (size : Size) (d : Reg) (o : Operand) → OperandFits o → place_ok o ≡ true → Spells (with_rm row.imul size 0xaf (reg_number d) o []) (instrs.Imul size d o)
imul_spells size d o f ok = by_rm row.imul size 0xaf (reg_number d) o [] (None) (instrs.Imul size d o) (28, omega arith, refl)
    (record { row = refl; modrm = either_side o row.imul.modrm (None) refl refl; opcode = refl; small = reg_small d; number = refl; place = ok; fits = f; bytes = tt })
    (λ x s. rw (s.size_is, s.rm_is, s.reg_is d refl) refl)

-- ---- moves

mov_reg_reg_spells : (size : Size) (d r : Reg) → Spells (with_rm row.mov_reg_reg size 0x89 (reg_number r) (operands.Reg d) []) (instrs.Mov size (operands.Reg d) (operands.Reg r))
mov_reg_reg_spells size d r = by_rm row.mov_reg_reg size 0x89 (reg_number r) (operands.Reg d) [] (None) (instrs.Mov size (operands.Reg d) (operands.Reg r)) (11, omega arith, refl)
    (record { row = refl; modrm = refl; opcode = refl; small = reg_small r; number = refl; place = refl; fits = tt; bytes = tt })
    (λ x s. rw (s.size_is, s.rm_is, s.reg_is r refl) refl)

mov_mem_reg_spells : (m : Mem) (r : Reg) → FitsSigned w32 m.disp → mem_ok m ≡ true → Spells (with_rm row.mov_mem_reg Qword 0x89 (reg_number r) (operands.Mem m) []) (instrs.Mov Qword (operands.Mem m) (operands.Reg r))
mov_mem_reg_spells m r f ok = by_rm row.mov_mem_reg Qword 0x89 (reg_number r) (operands.Mem m) [] (None) (instrs.Mov Qword (operands.Mem m) (operands.Reg r)) (12, omega arith, refl)
    (record { row = refl; modrm = refl; opcode = refl; small = reg_small r; number = refl; place = ok; fits = f; bytes = tt })
    (λ x s. rw (s.size_is, s.rm_is, s.reg_is r refl) refl)

mov_reg_mem_spells : (size : Size) (d : Reg) (m : Mem) → FitsSigned w32 m.disp → mem_ok m ≡ true → Spells (with_rm row.mov_reg_rm size 0x8b (reg_number d) (operands.Mem m) []) (instrs.Mov size (operands.Reg d) (operands.Mem m))
mov_reg_mem_spells size d m f ok = by_rm row.mov_reg_rm size 0x8b (reg_number d) (operands.Mem m) [] (None) (instrs.Mov size (operands.Reg d) (operands.Mem m)) (13, omega arith, refl)
    (record { row = refl; modrm = refl; opcode = refl; small = reg_small d; number = refl; place = ok; fits = f; bytes = tt })
    (λ x s. rw (s.size_is, s.rm_is, s.reg_is d refl) refl)

mov_qword_imm_spells : (o : Operand) (n : ℤ) → OperandFits o → place_ok o ≡ true → FitsSigned w32 n → Spells (with_rm row.mov_qword_rm_imm32 Qword 0xc7 0 o (four_bytes n)) (instrs.Mov Qword o (operands.Imm n))
mov_qword_imm_spells o n f ok h = by_rm row.mov_qword_rm_imm32 Qword 0xc7 0 o (four_bytes n) (Some 0) (instrs.Mov Qword o (operands.Imm n)) (16, omega arith, refl)
    (record { row = refl; modrm = either_side o row.mov_qword_rm_imm32.modrm (Some 0) refl refl; opcode = refl; small = omega arith; number = refl; place = ok; fits = f; bytes = four_fit n })
    (λ x s. rw (s.size_is, s.rm_is, ap signed_of s.imm_is, four_back n h) refl)

movzx_spells : (r : Reg) (m : Mem) → FitsSigned w32 m.disp → mem_ok m ≡ true → Spells (with_rm row.movzx_byte Dword 0xb6 (reg_number r) (operands.Mem m) []) (instrs.MovZero8 r m)
movzx_spells r m f ok = by_rm row.movzx_byte Dword 0xb6 (reg_number r) (operands.Mem m) [] (None) (instrs.MovZero8 r m) (18, omega arith, refl)
    (record { row = refl; modrm = refl; opcode = refl; small = reg_small r; number = refl; place = ok; fits = f; bytes = tt })
    (λ x s. rw (s.rm_is, s.reg_is r refl) refl)

lea_spells : (size : Size) (r : Reg) (m : Mem) → FitsSigned w32 m.disp → mem_ok m ≡ true → Spells (with_rm row.lea size 0x8d (reg_number r) (operands.Mem m) []) (instrs.Lea size r m)
lea_spells size r m f ok = by_rm row.lea size 0x8d (reg_number r) (operands.Mem m) [] (None) (instrs.Lea size r m) (20, omega arith, refl)
    (record { row = refl; modrm = refl; opcode = refl; small = reg_small r; number = refl; place = ok; fits = f; bytes = tt })
    (λ x s. rw (s.size_is, s.rm_is, s.reg_is r refl) refl)

xadd_spells : (r : Reg) (m : Mem) → FitsSigned w32 m.disp → mem_ok m ≡ true → Spells (with_rm row.lock_xadd Qword 0xc1 (reg_number r) (operands.Mem m) []) (instrs.LockXadd m r)
xadd_spells r m f ok = by_rm row.lock_xadd Qword 0xc1 (reg_number r) (operands.Mem m) [] (None) (instrs.LockXadd m r) (22, omega arith, refl)
    (record { row = refl; modrm = refl; opcode = refl; small = reg_small r; number = refl; place = ok; fits = f; bytes = tt })
    (λ x s. rw (s.rm_is, s.reg_is r refl) refl)

cmpxchg_spells : (r : Reg) (m : Mem) → FitsSigned w32 m.disp → mem_ok m ≡ true → Spells (with_rm row.lock_cmpxchg Qword 0xb1 (reg_number r) (operands.Mem m) []) (instrs.LockCmpxchg m r)
cmpxchg_spells r m f ok = by_rm row.lock_cmpxchg Qword 0xb1 (reg_number r) (operands.Mem m) [] (None) (instrs.LockCmpxchg m r) (23, omega arith, refl)
    (record { row = refl; modrm = refl; opcode = refl; small = reg_small r; number = refl; place = ok; fits = f; bytes = tt })
    (λ x s. rw (s.rm_is, s.reg_is r refl) refl)

wrssq_spells : (r : Reg) (m : Mem) → FitsSigned w32 m.disp → mem_ok m ≡ true → Spells (with_rm row.wrssq Qword 0xf6 (reg_number r) (operands.Mem m) []) (instrs.Wrssq m r)
wrssq_spells r m f ok = by_rm row.wrssq Qword 0xf6 (reg_number r) (operands.Mem m) [] (None) (instrs.Wrssq m r) (74, omega arith, refl)
    (record { row = refl; modrm = refl; opcode = refl; small = reg_small r; number = refl; place = ok; fits = f; bytes = tt })
    (λ x s. rw (s.rm_is, s.reg_is r refl) refl)

wrussq_spells : (r : Reg) (m : Mem) → FitsSigned w32 m.disp → mem_ok m ≡ true → Spells (with_rm row.wrussq Qword 0xf5 (reg_number r) (operands.Mem m) []) (instrs.Wrussq m r)
wrussq_spells r m f ok = by_rm row.wrussq Qword 0xf5 (reg_number r) (operands.Mem m) [] (None) (instrs.Wrussq m r) (75, omega arith, refl)
    (record { row = refl; modrm = refl; opcode = refl; small = reg_small r; number = refl; place = ok; fits = f; bytes = tt })
    (λ x s. rw (s.rm_is, s.reg_is r refl) refl)

movsxd_spells : (d : Reg) (o : Operand) → OperandFits o → place_ok o ≡ true → Spells (with_rm row.movsxd Qword 0x63 (reg_number d) o []) (instrs.MovSign32 d o)
movsxd_spells d o f ok = by_rm row.movsxd Qword 0x63 (reg_number d) o [] (None) (instrs.MovSign32 d o) (19, omega arith, refl)
    (record { row = refl; modrm = either_side o row.movsxd.modrm (None) refl refl; opcode = refl; small = reg_small d; number = refl; place = ok; fits = f; bytes = tt })
    (λ x s. rw (s.rm_is, s.reg_is d refl) refl)

xchg_spells : (o : Operand) (r : Reg) → OperandFits o → place_ok o ≡ true → Spells (with_rm row.xchg Qword 0x87 (reg_number r) o []) (instrs.Xchg o r)
xchg_spells o r f ok = by_rm row.xchg Qword 0x87 (reg_number r) o [] (None) (instrs.Xchg o r) (21, omega arith, refl)
    (record { row = refl; modrm = either_side o row.xchg.modrm (None) refl refl; opcode = refl; small = reg_small r; number = refl; place = ok; fits = f; bytes = tt })
    (λ x s. rw (s.rm_is, s.reg_is r refl) refl)

cmov_spells : (c : Cond) (size : Size) (d : Reg) (o : Operand) → OperandFits o → place_ok o ≡ true → Spells (with_rm row.cmov size (0x40 + cond_number c) (reg_number d) o []) (instrs.Cmov c size d o)
cmov_spells c size d o f ok = by_rm row.cmov size (0x40 + cond_number c) (reg_number d) o [] (None) (instrs.Cmov c size d o) (38, omega arith, refl)
    (record {
      row = refl;
      modrm = either_side o row.cmov.modrm (None) refl refl;
      opcode = agree_below_at (λ k. has row.cmov.opcode (0x40 + k)) (λ _. true) 16 (cond_number c) refl (cond_small c);
      small = reg_small d;
      number = refl;
      place = ok;
      fits = f;
      bytes = tt;
    })
    (λ x s. rw (cond_in_opcode c 0x40 x.opcode refl s.op_is, s.size_is, s.rm_is, s.reg_is d refl) refl)

-- ---- operations of one register

inc_spells : (size : Size) (r : Reg) → Spells (with_rm row.inc size 0xff 0 (operands.Reg r) []) (instrs.Inc size r)
inc_spells size r = by_rm row.inc size 0xff 0 (operands.Reg r) [] (Some 0) (instrs.Inc size r) (24, omega arith, refl)
    (record { row = refl; modrm = refl; opcode = refl; small = omega arith; number = refl; place = refl; fits = tt; bytes = tt })
    (λ x s. rw (s.size_is, s.rm_is) refl)

dec_spells : (size : Size) (r : Reg) → Spells (with_rm row.dec size 0xff 1 (operands.Reg r) []) (instrs.Dec size r)
dec_spells size r = by_rm row.dec size 0xff 1 (operands.Reg r) [] (Some 1) (instrs.Dec size r) (25, omega arith, refl)
    (record { row = refl; modrm = refl; opcode = refl; small = omega arith; number = refl; place = refl; fits = tt; bytes = tt })
    (λ x s. rw (s.size_is, s.rm_is) refl)

not_spells : (size : Size) (r : Reg) → Spells (with_rm row.not_reg size 0xf7 2 (operands.Reg r) []) (instrs.Not size r)
not_spells size r = by_rm row.not_reg size 0xf7 2 (operands.Reg r) [] (Some 2) (instrs.Not size r) (26, omega arith, refl)
    (record { row = refl; modrm = refl; opcode = refl; small = omega arith; number = refl; place = refl; fits = tt; bytes = tt })
    (λ x s. rw (s.size_is, s.rm_is) refl)

neg_spells : (size : Size) (r : Reg) → Spells (with_rm row.neg_reg size 0xf7 3 (operands.Reg r) []) (instrs.Neg size r)
neg_spells size r = by_rm row.neg_reg size 0xf7 3 (operands.Reg r) [] (Some 3) (instrs.Neg size r) (27, omega arith, refl)
    (record { row = refl; modrm = refl; opcode = refl; small = omega arith; number = refl; place = refl; fits = tt; bytes = tt })
    (λ x s. rw (s.size_is, s.rm_is) refl)

shl_number_spells : (size : Size) (r : Reg) (n : ℕ) → n < 256 → Spells (with_rm row.shl_number size 0xc1 4 (operands.Reg r) (n ∷ [])) (instrs.Shl size r (counts.Number n))
shl_number_spells size r n l = by_rm row.shl_number size 0xc1 4 (operands.Reg r) (n ∷ []) (Some 4) (instrs.Shl size r (counts.Number n)) (29, omega arith, refl)
    (record { row = refl; modrm = refl; opcode = refl; small = omega arith; number = refl; place = refl; fits = tt; bytes = (l, tt) })
    (λ x s. rw (s.size_is, s.rm_is, s.imm_is) refl)

shl_cl_spells : (size : Size) (r : Reg) → Spells (with_rm row.shl_cl size 0xd3 4 (operands.Reg r) []) (instrs.Shl size r counts.Cl)
shl_cl_spells size r = by_rm row.shl_cl size 0xd3 4 (operands.Reg r) [] (Some 4) (instrs.Shl size r counts.Cl) (35, omega arith, refl)
    (record { row = refl; modrm = refl; opcode = refl; small = omega arith; number = refl; place = refl; fits = tt; bytes = tt })
    (λ x s. rw (s.size_is, s.rm_is) refl)

shr_number_spells : (size : Size) (r : Reg) (n : ℕ) → n < 256 → Spells (with_rm row.shr_number size 0xc1 5 (operands.Reg r) (n ∷ [])) (instrs.Shr size r (counts.Number n))
shr_number_spells size r n l = by_rm row.shr_number size 0xc1 5 (operands.Reg r) (n ∷ []) (Some 5) (instrs.Shr size r (counts.Number n)) (30, omega arith, refl)
    (record { row = refl; modrm = refl; opcode = refl; small = omega arith; number = refl; place = refl; fits = tt; bytes = (l, tt) })
    (λ x s. rw (s.size_is, s.rm_is, s.imm_is) refl)

shr_cl_spells : (size : Size) (r : Reg) → Spells (with_rm row.shr_cl size 0xd3 5 (operands.Reg r) []) (instrs.Shr size r counts.Cl)
shr_cl_spells size r = by_rm row.shr_cl size 0xd3 5 (operands.Reg r) [] (Some 5) (instrs.Shr size r counts.Cl) (36, omega arith, refl)
    (record { row = refl; modrm = refl; opcode = refl; small = omega arith; number = refl; place = refl; fits = tt; bytes = tt })
    (λ x s. rw (s.size_is, s.rm_is) refl)

sar_number_spells : (size : Size) (r : Reg) (n : ℕ) → n < 256 → Spells (with_rm row.sar_number size 0xc1 7 (operands.Reg r) (n ∷ [])) (instrs.Sar size r (counts.Number n))
sar_number_spells size r n l = by_rm row.sar_number size 0xc1 7 (operands.Reg r) (n ∷ []) (Some 7) (instrs.Sar size r (counts.Number n)) (31, omega arith, refl)
    (record { row = refl; modrm = refl; opcode = refl; small = omega arith; number = refl; place = refl; fits = tt; bytes = (l, tt) })
    (λ x s. rw (s.size_is, s.rm_is, s.imm_is) refl)

sar_cl_spells : (size : Size) (r : Reg) → Spells (with_rm row.sar_cl size 0xd3 7 (operands.Reg r) []) (instrs.Sar size r counts.Cl)
sar_cl_spells size r = by_rm row.sar_cl size 0xd3 7 (operands.Reg r) [] (Some 7) (instrs.Sar size r counts.Cl) (37, omega arith, refl)
    (record { row = refl; modrm = refl; opcode = refl; small = omega arith; number = refl; place = refl; fits = tt; bytes = tt })
    (λ x s. rw (s.size_is, s.rm_is) refl)

-- ---- calls, jumps, the shadow stack

call_spells : (o : Operand) → OperandFits o → place_ok o ≡ true → Spells (with_rm row.call_rm Dword 0xff 2 o []) (instrs.CallInd o false)
call_spells o f ok = by_rm row.call_rm Dword 0xff 2 o [] (Some 2) (instrs.CallInd o false) (46, omega arith, refl)
    (record { row = refl; modrm = either_side o row.call_rm.modrm (Some 2) refl refl; opcode = refl; small = omega arith; number = refl; place = ok; fits = f; bytes = tt })
    (λ x s. rw s.rm_is refl)

notrack_call_spells : (o : Operand) → OperandFits o → place_ok o ≡ true → Spells (with_rm row.notrack_call_rm Dword 0xff 2 o []) (instrs.CallInd o true)
notrack_call_spells o f ok = by_rm row.notrack_call_rm Dword 0xff 2 o [] (Some 2) (instrs.CallInd o true) (47, omega arith, refl)
    (record { row = refl; modrm = either_side o row.notrack_call_rm.modrm (Some 2) refl refl; opcode = refl; small = omega arith; number = refl; place = ok; fits = f; bytes = tt })
    (λ x s. rw s.rm_is refl)

jmp_spells : (o : Operand) → OperandFits o → place_ok o ≡ true → Spells (with_rm row.jmp_rm Dword 0xff 4 o []) (instrs.JmpInd o false)
jmp_spells o f ok = by_rm row.jmp_rm Dword 0xff 4 o [] (Some 4) (instrs.JmpInd o false) (50, omega arith, refl)
    (record { row = refl; modrm = either_side o row.jmp_rm.modrm (Some 4) refl refl; opcode = refl; small = omega arith; number = refl; place = ok; fits = f; bytes = tt })
    (λ x s. rw s.rm_is refl)

notrack_jmp_spells : (o : Operand) → OperandFits o → place_ok o ≡ true → Spells (with_rm row.notrack_jmp_rm Dword 0xff 4 o []) (instrs.JmpInd o true)
notrack_jmp_spells o f ok = by_rm row.notrack_jmp_rm Dword 0xff 4 o [] (Some 4) (instrs.JmpInd o true) (51, omega arith, refl)
    (record { row = refl; modrm = either_side o row.notrack_jmp_rm.modrm (Some 4) refl refl; opcode = refl; small = omega arith; number = refl; place = ok; fits = f; bytes = tt })
    (λ x s. rw s.rm_is refl)

push_mem_spells : (m : Mem) → FitsSigned w32 m.disp → mem_ok m ≡ true → Spells (with_rm row.push_mem Dword 0xff 6 (operands.Mem m) []) (instrs.Push (operands.Mem m))
push_mem_spells m f ok = by_rm row.push_mem Dword 0xff 6 (operands.Mem m) [] (Some 6) (instrs.Push (operands.Mem m)) (42, omega arith, refl)
    (record { row = refl; modrm = refl; opcode = refl; small = omega arith; number = refl; place = ok; fits = f; bytes = tt })
    (λ x s. rw s.rm_is refl)

rstorssp_spells : (m : Mem) → FitsSigned w32 m.disp → mem_ok m ≡ true → Spells (with_rm row.rstorssp Dword 0x01 5 (operands.Mem m) []) (instrs.Rstorssp m)
rstorssp_spells m f ok = by_rm row.rstorssp Dword 0x01 5 (operands.Mem m) [] (Some 5) (instrs.Rstorssp m) (70, omega arith, refl)
    (record { row = refl; modrm = refl; opcode = refl; small = omega arith; number = refl; place = ok; fits = f; bytes = tt })
    (λ x s. rw s.rm_is refl)

clrssbsy_spells : (m : Mem) → FitsSigned w32 m.disp → mem_ok m ≡ true → Spells (with_rm row.clrssbsy Dword 0xae 6 (operands.Mem m) []) (instrs.Clrssbsy m)
clrssbsy_spells m f ok = by_rm row.clrssbsy Dword 0xae 6 (operands.Mem m) [] (Some 6) (instrs.Clrssbsy m) (73, omega arith, refl)
    (record { row = refl; modrm = refl; opcode = refl; small = omega arith; number = refl; place = ok; fits = f; bytes = tt })
    (λ x s. rw s.rm_is refl)

incsspq_spells : (r : Reg) → Spells (with_rm row.incsspq Qword 0xae 5 (operands.Reg r) []) (instrs.Incsspq r)
incsspq_spells r = by_rm row.incsspq Qword 0xae 5 (operands.Reg r) [] (Some 5) (instrs.Incsspq r) (68, omega arith, refl)
    (record { row = refl; modrm = refl; opcode = refl; small = omega arith; number = refl; place = refl; fits = tt; bytes = tt })
    (λ x s. rw s.rm_is refl)

rdsspq_spells : (r : Reg) → Spells (with_rm row.rdsspq Qword 0x1e 1 (operands.Reg r) []) (instrs.Rdsspq r)
rdsspq_spells r = by_rm row.rdsspq Qword 0x1e 1 (operands.Reg r) [] (Some 1) (instrs.Rdsspq r) (69, omega arith, refl)
    (record { row = refl; modrm = refl; opcode = refl; small = omega arith; number = refl; place = refl; fits = tt; bytes = tt })
    (λ x s. rw s.rm_is refl)

-- ---- a register in the opcode, or neither

push_reg_spells : (r : Reg) → Spells (with_reg row.push_reg Dword 0x50 r []) (instrs.Push (operands.Reg r))
push_reg_spells r = by_reg row.push_reg Dword 0x50 r [] (instrs.Push (operands.Reg r)) (39, omega arith, refl) refl tt (λ x e h. ap (λ (k : Reg). instrs.Push (operands.Reg k)) e)

pop_spells : (r : Reg) → Spells (with_reg row.pop_reg Dword 0x58 r []) (instrs.Pop r)
pop_spells r = by_reg row.pop_reg Dword 0x58 r [] (instrs.Pop r) (43, omega arith, refl) refl tt (λ x e h. ap instrs.Pop e)

mov_dword_imm_spells : (r : Reg) (n : ℤ) → FitsSigned w32 n → Spells (with_reg row.mov_reg_imm32 Dword 0xb8 r (four_bytes n)) (instrs.Mov Dword (operands.Reg r) (operands.Imm n))
mov_dword_imm_spells r n f = by_reg row.mov_reg_imm32 Dword 0xb8 r (four_bytes n) (instrs.Mov Dword (operands.Reg r) (operands.Imm n)) (14, omega arith, refl) refl (four_fit n) (λ x e h. rw (e, ap signed_of h, four_back n f) refl)

eight_fit : (n : ℕ) → IsBytes (to_le_bytes w64 n)
eight_fit n = (omega arith, (omega arith, (omega arith, (omega arith, (omega arith, (omega arith, (omega arith, (omega arith, tt))))))))

mov_wide_spells : (r : Reg) (n : ℕ) → n < 2 ^ 64 → Spells (with_reg row.mov_wide Qword 0xb8 r (to_le_bytes w64 n)) (instrs.MovWide r n)
mov_wide_spells r n l = by_reg row.mov_wide Qword 0xb8 r (to_le_bytes w64 n) (instrs.MovWide r n) (17, omega arith, refl) refl (eight_fit n) (λ x e h. rw (e, ap (from_le_bytes w64) h, from_le_bytes-to_le_bytes_8 n l) refl)

push_imm8_spells : (n : ℤ) → fits_byte n ≡ true → Spells (alone row.push_imm8 0x6a (one_byte n)) (instrs.Push (operands.Imm n))
push_imm8_spells n h = by_alone row.push_imm8 0x6a (one_byte n) (instrs.Push (operands.Imm n)) (40, omega arith, refl) refl refl (one_fits n) (ap (λ (k : ℤ). instrs.Push (operands.Imm k)) (one_back n h))

push_imm32_spells : (n : ℤ) → FitsSigned w32 n → Spells (alone row.push_imm32 0x68 (four_bytes n)) (instrs.Push (operands.Imm n))
push_imm32_spells n f = by_alone row.push_imm32 0x68 (four_bytes n) (instrs.Push (operands.Imm n)) (41, omega arith, refl) refl refl (four_fit n) (ap (λ (k : ℤ). instrs.Push (operands.Imm k)) (four_back n f))

call_rel_spells : (d : ℤ) → FitsSigned w32 d → Spells (alone row.call_rel 0xe8 (four_bytes d)) (instrs.CallRel d)
call_rel_spells d f = by_alone row.call_rel 0xe8 (four_bytes d) (instrs.CallRel d) (45, omega arith, refl) refl refl (four_fit d) (ap instrs.CallRel (four_back d f))

jmp_rel_spells : (d : ℤ) → FitsSigned w32 d → Spells (alone row.jmp_rel32 0xe9 (four_bytes d)) (instrs.JmpRel d)
jmp_rel_spells d f = by_alone row.jmp_rel32 0xe9 (four_bytes d) (instrs.JmpRel d) (48, omega arith, refl) refl refl (four_fit d) (ap instrs.JmpRel (four_back d f))

jcc_spells : (c : Cond) (d : ℤ) → FitsSigned w32 d → Spells (alone row.jcc_rel32 (0x80 + cond_number c) (four_bytes d)) (instrs.Jcc c d)
jcc_spells c d f = by_alone row.jcc_rel32 (0x80 + cond_number c) (four_bytes d) (instrs.Jcc c d) (
  52,
  omega arith,
  refl,
) refl (agree_below_at (λ k. has row.jcc_rel32.opcode (0x80 + k)) (λ _. true) 16 (cond_number c) refl (cond_small c)) (four_fit d)
    (rw (cond_in_opcode c 0x80 (0x80 + cond_number c) refl refl, four_back d f) refl)

ret_imm_spells : (n : ℕ) → n < 2 ^ 16 → Spells (alone row.ret_imm16 0xc2 (to_le_bytes w16 n)) (instrs.RetImm n)
ret_imm_spells n l = by_alone row.ret_imm16 0xc2 (to_le_bytes w16 n) (instrs.RetImm n) (55, omega arith, refl) refl refl (omega arith, (omega arith, tt)) (ap instrs.RetImm (from_le_bytes-to_le_bytes_2 n l))

-- ---- by operands

-- a choice by a test, at each of its answers
by_test : (t : Bool) (a b : List ℕ) (i : Instr) → (t ≡ true → Spells a i) → (t ≡ false → Spells b i) → Spells (cond t a b) i
by_test true a b i p q = p refl
by_test false a b i p q = q refl

alu_spells : (op : AluOp) (size : Size) (dst src : Operand) → OperandFits dst → OperandFits src → alu_ok op dst src ≡ true → Spells (canonical_spelling (instrs.Alu op size dst src)) (instrs.Alu op size dst src)
alu_spells op size (operands.Reg d) (operands.Reg r) f g ok = alu_rm_reg_spells op size d r
alu_spells op size (operands.Reg d) (operands.Mem m) f g ok = alu_reg_mem_spells op size d m g ok
alu_spells op size (operands.Reg d) (operands.Imm n) f g ok = by_test (fits_byte n) _ _ _ (λ h. alu_reg_imm8_spells op size d n h) (λ h. alu_reg_imm32_spells op size d n g)
alu_spells ops.Cmp size (operands.Mem m) (operands.Reg r) f g ok = cmp_mem_reg_spells size m r f ok
alu_spells ops.Cmp size (operands.Mem m) (operands.Imm n) f g ok = by_test (fits_byte n) _ _ _ (λ h. cmp_mem_imm8_spells size m n f ok h) (λ h. cmp_mem_imm32_spells size m n f ok g)
alu_spells ops.Add size (operands.Mem m) (operands.Reg r) f g ok = absurd cc
alu_spells ops.Add size (operands.Mem m) (operands.Imm n) f g ok = absurd cc
alu_spells ops.Or size (operands.Mem m) (operands.Reg r) f g ok = absurd cc
alu_spells ops.Or size (operands.Mem m) (operands.Imm n) f g ok = absurd cc
alu_spells ops.Adc size (operands.Mem m) (operands.Reg r) f g ok = absurd cc
alu_spells ops.Adc size (operands.Mem m) (operands.Imm n) f g ok = absurd cc
alu_spells ops.Sbb size (operands.Mem m) (operands.Reg r) f g ok = absurd cc
alu_spells ops.Sbb size (operands.Mem m) (operands.Imm n) f g ok = absurd cc
alu_spells ops.And size (operands.Mem m) (operands.Reg r) f g ok = absurd cc
alu_spells ops.And size (operands.Mem m) (operands.Imm n) f g ok = absurd cc
alu_spells ops.Sub size (operands.Mem m) (operands.Reg r) f g ok = absurd cc
alu_spells ops.Sub size (operands.Mem m) (operands.Imm n) f g ok = absurd cc
alu_spells ops.Xor size (operands.Mem m) (operands.Reg r) f g ok = absurd cc
alu_spells ops.Xor size (operands.Mem m) (operands.Imm n) f g ok = absurd cc
alu_spells op size (operands.Mem m) (operands.Mem k) f g ok = absurd cc
alu_spells op size (operands.Imm m) src f g ok = absurd cc

test_spells : (size : Size) (dst src : Operand) → OperandFits dst → OperandFits src → test_ok dst src ≡ true → Spells (canonical_spelling (instrs.Test size dst src)) (instrs.Test size dst src)
test_spells size dst (operands.Reg r) f g ok = test_reg_spells size dst r f ok
test_spells size dst (operands.Imm n) f g ok = test_imm_spells size dst n f ok g
test_spells size dst (operands.Mem m) f g ok = absurd cc

mov_spells : (size : Size) (dst src : Operand) → OperandFits dst → OperandFits src → mov_ok size dst src ≡ true → Spells (canonical_spelling (instrs.Mov size dst src)) (instrs.Mov size dst src)
mov_spells size (operands.Reg d) (operands.Reg r) f g ok = mov_reg_reg_spells size d r
mov_spells size (operands.Reg d) (operands.Mem m) f g ok = mov_reg_mem_spells size d m g ok
mov_spells Dword (operands.Reg d) (operands.Imm n) f g ok = mov_dword_imm_spells d n g
mov_spells Qword (operands.Reg d) (operands.Imm n) f g ok = mov_qword_imm_spells (operands.Reg d) n f refl g
mov_spells Qword (operands.Mem m) (operands.Reg r) f g ok = mov_mem_reg_spells m r f ok
mov_spells Qword (operands.Mem m) (operands.Imm n) f g ok = mov_qword_imm_spells (operands.Mem m) n f ok g
mov_spells Dword (operands.Mem m) (operands.Reg r) f g ok = absurd cc
mov_spells Dword (operands.Mem m) (operands.Imm n) f g ok = absurd cc
mov_spells size (operands.Mem m) (operands.Mem k) f g ok = absurd cc
mov_spells size (operands.Imm m) src f g ok = absurd cc

push_spells : (o : Operand) → OperandFits o → push_ok o ≡ true → Spells (canonical_spelling (instrs.Push o)) (instrs.Push o)
push_spells (operands.Reg r) f ok = push_reg_spells r
push_spells (operands.Mem m) f ok = push_mem_spells m f ok
push_spells (operands.Imm n) f ok = by_test (fits_byte n) _ _ _ (λ h. push_imm8_spells n h) (λ h. push_imm32_spells n f)

-- ---- every instruction

pub canonical_spells : (i : Instr) → InstrFits i → has_spelling i ≡ true → Spells (canonical_spelling i) i
canonical_spells (instrs.Alu op size dst src) f ok = alu_spells op size dst src f.0 f.1 ok
canonical_spells (instrs.Test size dst src) f ok = test_spells size dst src f.0 f.1 ok
canonical_spells (instrs.Mov size dst src) f ok = mov_spells size dst src f.0 f.1 ok
canonical_spells (instrs.MovWide dst value) f ok = mov_wide_spells dst value f
canonical_spells (instrs.MovZero8 dst src) f ok = movzx_spells dst src f ok
canonical_spells (instrs.MovSign32 dst src) f ok = movsxd_spells dst src f ok
canonical_spells (instrs.Lea size dst src) f ok = lea_spells size dst src f ok
canonical_spells (instrs.Xchg dst reg) f ok = xchg_spells dst reg f ok
canonical_spells (instrs.LockXadd mem reg) f ok = xadd_spells reg mem f ok
canonical_spells (instrs.LockCmpxchg mem reg) f ok = cmpxchg_spells reg mem f ok
canonical_spells (instrs.Inc size reg) f ok = inc_spells size reg
canonical_spells (instrs.Dec size reg) f ok = dec_spells size reg
canonical_spells (instrs.Not size reg) f ok = not_spells size reg
canonical_spells (instrs.Neg size reg) f ok = neg_spells size reg
canonical_spells (instrs.Imul size dst src) f ok = imul_spells size dst src f ok
canonical_spells (instrs.Shl size reg (counts.Number n)) f ok = shl_number_spells size reg n f
canonical_spells (instrs.Shl size reg counts.Cl) f ok = shl_cl_spells size reg
canonical_spells (instrs.Shr size reg (counts.Number n)) f ok = shr_number_spells size reg n f
canonical_spells (instrs.Shr size reg counts.Cl) f ok = shr_cl_spells size reg
canonical_spells (instrs.Sar size reg (counts.Number n)) f ok = sar_number_spells size reg n f
canonical_spells (instrs.Sar size reg counts.Cl) f ok = sar_cl_spells size reg
canonical_spells (instrs.Cmov c size dst src) f ok = cmov_spells c size dst src f ok
canonical_spells (instrs.Push src) f ok = push_spells src f ok
canonical_spells (instrs.Pop dst) f ok = pop_spells dst
canonical_spells (instrs.CallRel disp) f ok = call_rel_spells disp f
canonical_spells (instrs.CallInd target true) f ok = notrack_call_spells target f ok
canonical_spells (instrs.CallInd target false) f ok = call_spells target f ok
canonical_spells (instrs.JmpRel disp) f ok = jmp_rel_spells disp f
canonical_spells (instrs.JmpInd target true) f ok = notrack_jmp_spells target f ok
canonical_spells (instrs.JmpInd target false) f ok = jmp_spells target f ok
canonical_spells (instrs.Jcc c disp) f ok = jcc_spells c disp f
canonical_spells (instrs.RetImm bytes) f ok = ret_imm_spells bytes f
canonical_spells (instrs.Incsspq reg) f ok = incsspq_spells reg
canonical_spells (instrs.Rdsspq reg) f ok = rdsspq_spells reg
canonical_spells (instrs.Rstorssp mem) f ok = rstorssp_spells mem f ok
canonical_spells (instrs.Clrssbsy mem) f ok = clrssbsy_spells mem f ok
canonical_spells (instrs.Wrssq mem reg) f ok = wrssq_spells reg mem f ok
canonical_spells (instrs.Wrussq mem reg) f ok = wrussq_spells reg mem f ok
canonical_spells instrs.Leave f ok = by_alone row.leave 0xc9 [] instrs.Leave (44, omega arith, refl) refl refl tt refl
canonical_spells instrs.Ret f ok = by_alone row.ret 0xc3 [] instrs.Ret (54, omega arith, refl) refl refl tt refl
canonical_spells instrs.Nop f ok = by_alone row.nop 0x90 [] instrs.Nop (56, omega arith, refl) refl refl tt refl
canonical_spells instrs.Pause f ok = by_alone row.pause 0x90 [] instrs.Pause (62, omega arith, refl) refl refl tt refl
canonical_spells instrs.Endbr64 f ok = by_alone row.endbr64 0xfa [] instrs.Endbr64 (63, omega arith, refl) refl refl tt refl
canonical_spells instrs.Ud2 f ok = by_alone row.ud2 0x0b [] instrs.Ud2 (64, omega arith, refl) refl refl tt refl
canonical_spells instrs.Syscall f ok = by_alone row.syscall 0x05 [] instrs.Syscall (65, omega arith, refl) refl refl tt refl
canonical_spells instrs.Stc f ok = by_alone row.stc 0xf9 [] instrs.Stc (66, omega arith, refl) refl refl tt refl
canonical_spells instrs.Clc f ok = by_alone row.clc 0xf8 [] instrs.Clc (67, omega arith, refl) refl refl tt refl
canonical_spells instrs.Saveprevssp f ok = by_alone row.saveprevssp 0xea [] instrs.Saveprevssp (71, omega arith, refl) refl refl tt refl
canonical_spells instrs.Setssbsy f ok = by_alone row.setssbsy 0xe8 [] instrs.Setssbsy (72, omega arith, refl) refl refl tt refl
