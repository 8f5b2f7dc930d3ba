-- An instruction that has a spelling passes the test of its operands. Source: own.
use Rattle.std.proofs.Common.{◌≡◌, ℕ, zero, suc, ◌+◌, ◌*◌, ◌/◌, ◌%◌, ◌^◌, ◌<◌, ◌≤◌, Bool, true, false, not, ◌&&◌, ◌||◌, cond, List, []}
use Rattle.std.proofs.Common.{◌∷◌, ◌++◌, length, Option, Some, None, refl, ap, subst, ◌∙◌, inl, inr, arith, ℤ}
use Rattle.std.specs.Prelude.{slice_index, slice_index_or, nat_lt, nat_le, ◌==◌, Contains}
use Rattle.std.proofs.lemmas.Bool.{and_parts, and_from, or_cases, eqb-true, ltb-true, leb-true, agree_below, agree_below_at}
use Rattle.std.proofs.lemmas.Nat.{and_le_l}
use Rattle.cet_isa.specs.declared.instructions.Reg.{Reg}
use Rattle.cet_isa.specs.declared.instructions.AluOp.{AluOp}
use Rattle.cet_isa.specs.declared.instructions.Size.{Size}
use Rattle.cet_isa.specs.declared.instructions.Base.TheVariants as bases
use Rattle.cet_isa.specs.declared.instructions.Operand.{Operand}
use Rattle.cet_isa.specs.declared.instructions.Operand.TheVariants as operands
use Rattle.cet_isa.specs.declared.instructions.Mem.{Mem}
use Rattle.cet_isa.specs.declared.instructions.Instr.{Instr}
use Rattle.cet_isa.specs.Form.{Pattern, Wide, Sized, Set, Clear, Ignored, Never, Rex, NoRex, ClearRex, SetRex, Kind, Form}
use Rattle.cet_isa.specs.Form as kinds
use Rattle.cet_isa.specs.Forms.{forms}
use Rattle.cet_isa.specs.Code.{reg_at, reg_number, alu_at}
use Rattle.cet_isa.specs.Meaning.{bit, lacks_base, index_number, mem_of, operand_of, mem_in, signed_of, Fields, size_in, reg_in, opcode_op, instr_of}
use Rattle.cet_isa.specs.Spells.{has, allows, rex_pattern, places, fields_in, rm_in, SpelledBy, Spells}
use Rattle.cet_isa.specs.Reader.{IsBytes}
use Rattle.cet_isa.proofs.ReaderLaws.{IsBytes-left}
use Rattle.cet_isa.proofs.ReadingLaws.{CellFits, cell_fits}
use Rattle.cet_isa.specs.Spelled.{index_ok, scale_ok, address_ok, mem_ok, place_ok, is_cmp, is_qword, alu_ok, mov_ok, push_ok, has_spelling}
use Rattle.cet_isa.proofs.Apart.{has_parts}

-- ---- memory that is read

index_is_ok : (rex sib : ℕ) → (index_number rex sib == 4) ≡ false → index_ok (Some (reg_at (index_number rex sib))) ≡ true
index_is_ok rex sib e =
    let l : index_number rex sib < 16 = omega arith in
    let same : reg_number (reg_at (index_number rex sib)) ≡ index_number rex sib = eqb-true _ _ (agree_below_at (λ n. reg_number (reg_at n) == n) (λ _. true) 16 (index_number rex sib) refl l) in
    ap (λ (n : ℕ). not (n == 4)) same ∙ rw e refl

scale_is_ok : (i : Reg) (n : ℕ) → n < 4 → scale_ok (Some i) (2 ^ n) ≡ true
scale_is_ok i n l = agree_below_at (λ n. scale_ok (Some i) (2 ^ n)) (λ _. true) 4 n refl l

mem_is_ok : (rex m sib : ℕ) (d : ℤ) → sib < 256 → mem_ok (mem_of rex m sib d) ≡ true
mem_is_ok rex m sib d l = go (lacks_base m sib) (m % 8 == 4) (index_number rex sib == 4) refl
  where
    go : (lacks four none : Bool) → (index_number rex sib == 4) ≡ none → address_ok (cond lacks (cond four bases.None bases.Rip) (bases.Reg (reg_at (cond four (sib % 8) (m % 8) + 8 * bit rex 0))))
        (cond (four && not none) (Some (reg_at (index_number rex sib))) None) (cond (four && not none) (2 ^ (sib / 64)) 1) ≡ true
    go true true true e = refl
    go true true false e = and_from _ _ (index_is_ok rex sib e) (scale_is_ok (reg_at (index_number rex sib)) (sib / 64) (omega arith))
    go true false true e = refl
    go true false false e = refl
    go false true true e = refl
    go false true false e = and_from _ _ (index_is_ok rex sib e) (scale_is_ok (reg_at (index_number rex sib)) (sib / 64) (omega arith))
    go false false true e = refl
    go false false false e = refl

-- what mod and rm name is a register, or memory that has a spelling
data Place : Operand → Type 0 where
  at_reg : (r : Reg) → Place (operands.Reg r)
  at_mem : (m : Mem) → mem_ok m ≡ true → Place (operands.Mem m)

place_of : (rex m sib : ℕ) (d : ℤ) → sib < 256 → Place (operand_of rex m sib d)
place_of rex m sib d l = go (nat_lt m 192)
  where
    go : (t : Bool) → Place (cond t (operands.Mem (mem_of rex m sib d)) (operands.Reg (reg_at (m % 8 + 8 * bit rex 0))))
    go true = at_mem (mem_of rex m sib d) (mem_is_ok rex m sib d l)
    go false = at_reg (reg_at (m % 8 + 8 * bit rex 0))

abbrev is_memory : Operand → Bool
is_memory (operands.Mem m) = true
is_memory (operands.Reg r) = false
is_memory (operands.Imm n) = false

memory_below : (rex m sib : ℕ) (d : ℤ) → is_memory (operand_of rex m sib d) ≡ true → m < 192
memory_below rex m sib d e = go (nat_lt m 192) refl e
  where
    go : (t : Bool) → nat_lt m 192 ≡ t → is_memory (cond t (operands.Mem (mem_of rex m sib d)) (operands.Reg (reg_at (m % 8 + 8 * bit rex 0)))) ≡ true → m < 192
    go true h e = ltb-true m 192 h
    go false h e = absurd cc

-- ---- operands that pass

place_passes : (o : Operand) → Place o → place_ok o ≡ true
place_passes _ (at_reg r) = refl
place_passes _ (at_mem m ok) = ok

mem_passes : (o : Operand) → Place o → mem_ok (mem_in o) ≡ true
mem_passes _ (at_reg r) = refl
mem_passes _ (at_mem m ok) = ok

push_passes : (o : Operand) → Place o → push_ok o ≡ true
push_passes _ (at_reg r) = refl
push_passes _ (at_mem m ok) = ok

alu_second : (op : AluOp) (d : Reg) (o : Operand) → Place o → alu_ok op (operands.Reg d) o ≡ true
alu_second op d _ (at_reg r) = refl
alu_second op d _ (at_mem m ok) = ok

mov_second : (size : Size) (d : Reg) (o : Operand) → Place o → mov_ok size (operands.Reg d) o ≡ true
mov_second size d _ (at_reg r) = refl
mov_second size d _ (at_mem m ok) = ok

alu_with_reg : (op : AluOp) (r : Reg) (o : Operand) → Place o → (is_memory o ≡ true → is_cmp op ≡ true) → alu_ok op o (operands.Reg r) ≡ true
alu_with_reg op r _ (at_reg d) c = refl
alu_with_reg op r _ (at_mem m ok) c = and_from _ _ (c refl) ok

alu_with_imm : (op : AluOp) (n : ℤ) (o : Operand) → Place o → (is_memory o ≡ true → is_cmp op ≡ true) → alu_ok op o (operands.Imm n) ≡ true
alu_with_imm op n _ (at_reg d) c = refl
alu_with_imm op n _ (at_mem m ok) c = and_from _ _ (c refl) ok

mov_with_reg : (size : Size) (r : Reg) (o : Operand) → Place o → (is_memory o ≡ true → is_qword size ≡ true) → mov_ok size o (operands.Reg r) ≡ true
mov_with_reg size r _ (at_reg d) c = refl
mov_with_reg size r _ (at_mem m ok) c = and_from _ _ (c refl) ok

mov_with_imm : (size : Size) (n : ℤ) (o : Operand) → Place o → (is_memory o ≡ true → is_qword size ≡ true) → mov_ok size o (operands.Imm n) ≡ true
mov_with_imm size n _ (at_reg d) c = refl
mov_with_imm size n _ (at_mem m ok) c = and_from _ _ (c refl) ok

-- ---- what a row asks of memory

-- a row's ModRM names a register
abbrev register_only : Option Pattern → Bool
register_only None = false
register_only (Some p) = nat_le 192 p.value

-- bits 5 to 3 of each of its bytes are 7
abbrev sevens : Pattern → Bool
sevens p = nat_le p.below 256 && agree_below (λ b. not (has p b) || (b / 8 % 8 == 7)) (λ _. true) 256

abbrev digit_seven : Option Pattern → Bool
digit_seven None = false
digit_seven (Some p) = sevens p

abbrev is_set : Wide → Bool
is_set Set = true
is_set Sized = false
is_set Clear = false
is_set Ignored = false
is_set Never = false

abbrev row_test : Kind → Form → Bool
row_test kinds.AluRmReg f = register_only f.modrm || sevens f.opcode
row_test kinds.AluRmImm f = register_only f.modrm || digit_seven f.modrm
row_test kinds.MovRmReg f = register_only f.modrm || is_set f.wide
row_test kinds.MovRmImm f = register_only f.modrm || is_set f.wide
row_test (kinds.Plain i) f = has_spelling i
row_test k f = true

abbrev rows_pass : List Form → Bool
rows_pass [] = true
rows_pass (f ∷ fs) = row_test f.kind f && rows_pass fs

table_passes : rows_pass forms ≡ true
table_passes = refl

register_above : (o : Option Pattern) (b : ℕ) → register_only o ≡ true → CellFits o b → 192 ≤ b
register_above None b r f = absurd cc
register_above (Some p) b r f =
    let low : p.value ≤ b = subst (λ (k : ℕ). k ≤ b) (has_parts p b f).0 (and_le_l b p.mask) in
    omega (arith, leb-true 192 p.value r, low)

sevens_say : (p : Pattern) (b : ℕ) → sevens p ≡ true → has p b ≡ true → b / 8 % 8 ≡ 7
sevens_say p b s h =
    let a = and_parts _ _ s in
    let small : b < 256 = omega (arith, leb-true p.below 256 a.0, (has_parts p b h).1) in
    from (has p b) (b / 8 % 8 == 7) (agree_below_at (λ b. not (has p b) || (b / 8 % 8 == 7)) (λ _. true) 256 b a.1 small) h (λ e. eqb-true _ _ e)
  where
    from : (t u : Bool) → (not t || u) ≡ true → t ≡ true → (u ≡ true → b / 8 % 8 ≡ 7) → b / 8 % 8 ≡ 7
    from true u e h k = k e
    from false u e h k = absurd cc

first_small : (bytes : List ℕ) → IsBytes bytes → slice_index bytes 0 < 256
first_small [] h = omega arith
first_small (b ∷ bs) h = h.0

-- W set is 64 bits
set_is_qword : (rex : Rex) (b : ℕ) (x : Fields) → x.rex ≡ b → allows Set rex ≡ true → CellFits (rex_pattern rex) b → is_qword (size_in x) ≡ true
set_is_qword NoRex b x e a f = absurd cc
set_is_qword ClearRex b x e a f = absurd cc
set_is_qword SetRex b x e a f =
    let p : Pattern = record { mask = 0xf8; value = 0x48; below = 256 } in
    from (has p b) (bit b 3 == 1) (agree_below_at (λ b. not (has (record { mask = 0xf8; value = 0x48; below = 256 }) b) || (bit b 3 == 1)) (λ _. true) 256 b refl (has_parts p b f).1) f (λ s. rw e (rw s refl))
  where
    from : (t u : Bool) → (not t || u) ≡ true → t ≡ true → (u ≡ true → is_qword (size_in x) ≡ true) → is_qword (size_in x) ≡ true
    from true u e h k = k e
    from false u e h k = absurd cc

wide_set : (w : Wide) (rex : Rex) → is_set w ≡ true → allows w rex ≡ true → allows Set rex ≡ true
wide_set Set rex s a = a
wide_set Sized rex s a = absurd cc
wide_set Clear rex s a = absurd cc
wide_set Ignored rex s a = absurd cc
wide_set Never rex s a = absurd cc

-- ---- a row

-- what is known of the fields of a spelling by a row
record Known (f : Form) (x : Fields) : Type 0 where
  place : Place x.rm
  memory : is_memory x.rm ≡ true → x.modrm < 192
  opcode : has f.opcode x.opcode ≡ true
  modrm : CellFits f.modrm x.modrm
  wide : is_set f.wide ≡ true → is_qword (size_in x) ≡ true

by_register : {A : Type 0} (f : Form) (x : Fields) → Known f x → register_only f.modrm ≡ true → is_memory x.rm ≡ true → A
by_register f x k r m = absurd (omega (arith, register_above f.modrm x.modrm r k.modrm, k.memory m))

digit_says : (o : Option Pattern) (b : ℕ) → digit_seven o ≡ true → CellFits o b → b / 8 % 8 ≡ 7
digit_says None b s f = absurd cc
digit_says (Some p) b s f = sevens_say p b s f

row_passes : (f : Form) (x : Fields) → Known f x → (k : Kind) → row_test k f ≡ true → has_spelling (instr_of k x) ≡ true
row_passes f x k kinds.AluRmReg t = alu_with_reg _ _ x.rm k.place (λ m. elim (or_cases (register_only f.modrm) (sevens f.opcode) t) [
  | inl r ↦ by_register f x k r m
  | inr s ↦ ap (λ (n : ℕ). is_cmp (alu_at n)) (sevens_say f.opcode x.opcode s k.opcode)
])
row_passes f x k kinds.AluRegRm t = alu_second (opcode_op x) (reg_in x) x.rm k.place
row_passes f x k kinds.AluRmImm t = alu_with_imm _ _ x.rm k.place (λ m. elim (or_cases (register_only f.modrm) (digit_seven f.modrm) t) [
  | inl r ↦ by_register f x k r m
  | inr s ↦ ap (λ (n : ℕ). is_cmp (alu_at n)) (digit_says f.modrm x.modrm s k.modrm)
])
row_passes f x k kinds.AluRaxImm t = refl
row_passes f x k kinds.TestRmReg t = place_passes x.rm k.place
row_passes f x k kinds.TestRmImm t = place_passes x.rm k.place
row_passes f x k kinds.TestRaxImm t = refl
row_passes f x k kinds.Imul t = place_passes x.rm k.place
row_passes f x k kinds.Inc t = refl
row_passes f x k kinds.Dec t = refl
row_passes f x k kinds.Not t = refl
row_passes f x k kinds.Neg t = refl
row_passes f x k (kinds.Shl a) t = refl
row_passes f x k (kinds.Shr a) t = refl
row_passes f x k (kinds.Sar a) t = refl
row_passes f x k kinds.MovRmReg t = mov_with_reg _ _ x.rm k.place (λ m. elim (or_cases (register_only f.modrm) (is_set f.wide) t) [
  | inl r ↦ by_register f x k r m
  | inr s ↦ k.wide s
])
row_passes f x k kinds.MovRegRm t = mov_second (size_in x) (reg_in x) x.rm k.place
row_passes f x k kinds.MovRegImm t = refl
row_passes f x k kinds.MovRmImm t = mov_with_imm _ _ x.rm k.place (λ m. elim (or_cases (register_only f.modrm) (is_set f.wide) t) [
  | inl r ↦ by_register f x k r m
  | inr s ↦ k.wide s
])
row_passes f x k kinds.MovWide t = refl
row_passes f x k kinds.MovZero8 t = mem_passes x.rm k.place
row_passes f x k kinds.MovSign32 t = place_passes x.rm k.place
row_passes f x k kinds.Lea t = mem_passes x.rm k.place
row_passes f x k kinds.Xchg t = place_passes x.rm k.place
row_passes f x k kinds.LockXadd t = mem_passes x.rm k.place
row_passes f x k kinds.LockCmpxchg t = mem_passes x.rm k.place
row_passes f x k kinds.Cmov t = place_passes x.rm k.place
row_passes f x k kinds.PushReg t = refl
row_passes f x k kinds.PushImm t = refl
row_passes f x k kinds.PushMem t = push_passes x.rm k.place
row_passes f x k kinds.Pop t = refl
row_passes f x k kinds.CallRel t = refl
row_passes f x k (kinds.CallInd notrack) t = place_passes x.rm k.place
row_passes f x k kinds.JmpRel t = refl
row_passes f x k (kinds.JmpInd notrack) t = place_passes x.rm k.place
row_passes f x k kinds.Jcc t = refl
row_passes f x k kinds.RetImm t = refl
row_passes f x k kinds.Incsspq t = refl
row_passes f x k kinds.Rdsspq t = refl
row_passes f x k kinds.Rstorssp t = mem_passes x.rm k.place
row_passes f x k kinds.Clrssbsy t = mem_passes x.rm k.place
row_passes f x k kinds.Wrssq t = mem_passes x.rm k.place
row_passes f x k kinds.Wrussq t = mem_passes x.rm k.place
row_passes f x k (kinds.Plain i) t = t

spelled_passes : (f : Form) (bytes : List ℕ) (i : Instr) → row_test f.kind f ≡ true → SpelledBy f bytes i → has_spelling i ≡ true
spelled_passes f bytes i t s =
    let cell = cell_fits (places f s.rex) s.head s.cells in
    let rm = rm_in s.cells s.sib s.disp in
    let sib : slice_index s.sib 0 < 256 = first_small s.sib (IsBytes-left s.sib (s.disp ++ s.imm) s.tail_fits) in
    let x : Fields = fields_in s.cells rm s.imm in
    let known : Known f x = record {
      place = place_of (slice_index s.cells 3) (slice_index s.cells 7) (slice_index s.sib 0) (signed_of s.disp) sib;
      memory = memory_below (slice_index s.cells 3) (slice_index s.cells 7) (slice_index s.sib 0) (signed_of s.disp);
      opcode = cell 6 s.filled;
      modrm = cell 7 s.filled;
      wide = λ w. set_is_qword s.rex (slice_index s.cells 3) x refl (wide_set f.wide s.rex w s.allowed) (cell 3 s.filled);
    } in
    ap has_spelling s.means ∙ row_passes f x known f.kind t

listed_passes : (fs : List Form) (f : Form) → rows_pass fs ≡ true → Contains fs f → row_test f.kind f ≡ true
listed_passes [] f p c = absurd (omega (arith, c.1))
listed_passes (g ∷ fs) f p c = go (λ d. listed_passes fs f (and_parts _ _ p).1 d) c.0 c.1 c.2
  where
    go : (Contains fs f → row_test f.kind f ≡ true) → (k : ℕ) → k < length (g ∷ fs) → slice_index_or (g ∷ fs) k f ≡ f → row_test f.kind f ≡ true
    go ih zero l e = subst (λ (x : Form). row_test x.kind x ≡ true) e (and_parts _ _ p).0
    go ih (suc k) l e = ih (k, omega arith, e)

pub spelled_has : (bytes : List ℕ) (i : Instr) → Spells bytes i → has_spelling i ≡ true
spelled_has bytes i s = spelled_passes s.form bytes i (listed_passes forms s.form table_passes s.listed) s.spelled
