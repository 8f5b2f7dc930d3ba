-- The canonical spelling is a spelling. Source: own.
use Rattle.std.proofs.Common.{◌≡◌, ℕ, ◌+◌, ◌*◌, ◌/◌, ◌%◌, ◌<◌, ◌≤◌, Bool, true, false, not, ◌&&◌, ◌||◌, cond, List, [], ◌∷◌, ◌++◌, length, Option, Some, None, refl, sym, ap, ◌∙◌, arith}
use Rattle.std.specs.Prelude.{slice_index, nat_lt, ◌==◌, Contains}
use Rattle.std.proofs.lemmas.Bool.{and_parts, eqb-true, ne_eqb, lt-ltb, le-ltb, agree_below, agree_below_at}
use Rattle.cet_isa.specs.declared.instructions.Reg.{Reg}
use Rattle.cet_isa.specs.declared.instructions.Size.{Size}
use Rattle.cet_isa.specs.declared.instructions.Size.TheVariants.{Dword, Qword}
use Rattle.cet_isa.specs.declared.instructions.Operand.{Operand}
use Rattle.cet_isa.specs.declared.instructions.Operand.TheVariants as operands
use Rattle.cet_isa.specs.declared.instructions.Instr.{Instr}
use Rattle.cet_isa.specs.Form.{Pattern, Wide, Sized, Set, Clear, Ignored, Never, NoRex, ClearRex, SetRex, Form}
use Rattle.cet_isa.specs.Forms.{forms}
use Rattle.cet_isa.specs.Code.{reg_number}
use Rattle.cet_isa.specs.Meaning.{bit, signed_of, operand_of, Fields, size_in, reg_in, opcode_reg, instr_of}
use Rattle.cet_isa.specs.Spells.{has, allows, places, rex_pattern, Fill, imm_len, Spells}
use Rattle.cet_isa.specs.Reader.{IsBytes}
use Rattle.cet_isa.proofs.ReaderLaws.{IsBytes-append}
use Rattle.cet_isa.proofs.ReadingLaws.{CellFits}
use Rattle.cet_isa.proofs.ExactReading.{is_inhabited}
use Rattle.cet_isa.specs.Canonical.{low, high, coded, rex_with, rex_byte, value_at, cells_of, present, spelling, w_bit, with_rm, with_reg, alone}
use Rattle.cet_isa.specs.Spelled.{place_ok, OperandFits}
use Rattle.cet_isa.proofs.OperandLaws.{reg_small, reg_at_is, rex_bits, Holds, reads, shape, shape_mem}

-- ---- the places

abbrev pub Each : List (Option Pattern) → List ℕ → Type 0
Each [] cells = cells ≡ []
Each (o ∷ os) [] = ⊥
Each (o ∷ os) (c ∷ cells) = CellFits o c × Each os cells

fill_present : (os : List (Option Pattern)) (cells : List ℕ) → Each os cells → Fill os (present os cells) cells
fill_present [] cells e = (refl, e)
fill_present (o ∷ os) [] e = absurd e
fill_present (None ∷ os) (c ∷ cells) e = (cells, ap (λ (k : ℕ). k ∷ cells) e.0, fill_present os cells e.1)
fill_present (Some p ∷ os) (c ∷ cells) e = (c, present os cells, cells, e.0, refl, refl, fill_present os cells e.1)

value_fits : (o : Option Pattern) → is_inhabited o ≡ true → CellFits o (value_at o)
value_fits None s = refl
value_fits (Some p) s = s

abbrev clear_rex : Pattern
clear_rex = record { mask = 0xf8; value = 0x40; below = 256 }

abbrev set_rex : Pattern
set_rex = record { mask = 0xf8; value = 0x48; below = 256 }

abbrev rex_test : ℕ → Bool
rex_test x = cond (x == 0) true (cond (nat_lt x 8) (has clear_rex (64 + x)) (has set_rex (64 + x)))

rex_fits : (x : ℕ) → x < 16 → CellFits (rex_pattern (rex_with x)) (rex_byte x)
rex_fits x l = go (x == 0) (nat_lt x 8) (agree_below_at rex_test (λ _. true) 16 x refl l)
  where
    go : (t u : Bool) → cond t true (cond u (has clear_rex (64 + x)) (has set_rex (64 + x))) ≡ true → CellFits (rex_pattern (cond t NoRex (cond u ClearRex SetRex))) (cond t 0 (64 + x))
    go true u e = refl
    go false true e = e
    go false false e = e

-- prefixes and the bytes before the opcode have one byte each
abbrev pub is_fixed : Form → Bool
is_fixed f = is_inhabited f.first && (is_inhabited f.second && (is_inhabited f.third && (is_inhabited f.escape && is_inhabited f.escape2)))

each_cell : (f : Form) (x op modrm : ℕ) → is_fixed f ≡ true → x < 16 → has f.opcode op ≡ true → CellFits f.modrm modrm → Each (places f (rex_with x)) (cells_of f x op modrm)
each_cell f x op modrm s l o m =
    let a = and_parts _ _ s in
    let b = and_parts _ _ a.1 in
    let c = and_parts _ _ b.1 in
    let d = and_parts _ _ c.1 in
    (value_fits f.first a.0, (value_fits f.second b.0, (value_fits f.third c.0, (rex_fits x l, (value_fits f.escape d.0, (value_fits f.escape2 d.1, (o, (m, refl))))))))

-- ---- REX.W

-- a row takes a REX with this W, or none
abbrev pub takes_w : Wide → Size → Bool
takes_w Sized size = true
takes_w Ignored size = true
takes_w Set Qword = true
takes_w Set Dword = false
takes_w Clear Dword = true
takes_w Clear Qword = false
takes_w Never size = false

rex_set : (x : ℕ) → 8 ≤ x → rex_with x ≡ SetRex
rex_set x l = rw (ne_eqb x 0 (λ e. omega arith), le-ltb x 8 l) refl

allowed_w : (w : Wide) (size : Size) (x : ℕ) → takes_w w size ≡ true → x / 8 ≡ w_bit size / 8 → allows w (rex_with x) ≡ true
allowed_w Sized size x t e = refl
allowed_w Ignored size x t e = refl
allowed_w Set Qword x t e = rw (rex_set x (omega (arith, e))) refl
allowed_w Set Dword x t e = absurd cc
allowed_w Clear Dword x t e = go (x == 0) (nat_lt x 8) (lt-ltb x 8 (omega (arith, e)))
  where
    go : (t u : Bool) → u ≡ true → allows Clear (cond t NoRex (cond u ClearRex SetRex)) ≡ true
    go true u e = refl
    go false true e = refl
    go false false e = absurd cc
allowed_w Clear Qword x t e = absurd cc
allowed_w Never size x t e = absurd cc

size_back : (size : Size) (n : ℕ) → n ≡ w_bit size / 8 → cond (n == 1) Qword Dword ≡ size
size_back Dword n e = rw e refl
size_back Qword n e = rw e refl

w_small : (size : Size) → (w_bit size ≤ 8) × (w_bit size % 8 ≡ 0)
w_small Dword = (omega arith, omega arith)
w_small Qword = (omega arith, omega arith)

-- ---- ModRM

abbrev pub is_reg : Operand → Bool
is_reg (operands.Reg r) = true
is_reg (operands.Mem m) = false
is_reg (operands.Imm n) = false

abbrev pub digit_is : Option ℕ → ℕ → Bool
digit_is None n = true
digit_is (Some d) n = n == d

-- a row takes each ModRM with a register (or memory), and this number in the reg field, or any
abbrev pub side_ok : Pattern → Bool → Option ℕ → ℕ → Bool
side_ok p true digit b = not (not (nat_lt b 192) && digit_is digit (b / 8 % 8)) || has p b
side_ok p false digit b = not (nat_lt b 192 && digit_is digit (b / 8 % 8)) || has p b

abbrev pub takes_modrm : Option Pattern → Bool → Option ℕ → Bool
takes_modrm None side digit = false
takes_modrm (Some p) side digit = agree_below (side_ok p side digit) (λ _. true) 256

pub either_side : (o : Operand) (q : Option Pattern) (digit : Option ℕ) → takes_modrm q true digit ≡ true → takes_modrm q false digit ≡ true → takes_modrm q (is_reg o) digit ≡ true
either_side (operands.Reg r) q digit a b = a
either_side (operands.Mem m) q digit a b = b
either_side (operands.Imm n) q digit a b = b

from_reg : (small digit t : Bool) → (not (not small && digit) || t) ≡ true → small ≡ false → digit ≡ true → t ≡ true
from_reg true digit t e s d = absurd cc
from_reg false true t e s d = e
from_reg false false t e s d = absurd cc

from_mem : (small digit t : Bool) → (not (small && digit) || t) ≡ true → small ≡ true → digit ≡ true → t ≡ true
from_mem true true t e s d = e
from_mem true false t e s d = absurd cc
from_mem false digit t e s d = absurd cc

modrm_fits : (q : Option Pattern) (o : Operand) (reg : ℕ) (digit : Option ℕ) → place_ok o ≡ true → digit_is digit (reg % 8) ≡ true → takes_modrm q (is_reg o) digit ≡ true → CellFits q ((coded o).mode + 8 * (reg % 8))
modrm_fits None o reg digit ok d t = absurd cc
modrm_fits (Some p) (operands.Reg r) reg digit ok d t =
    let n = reg_small r in
    let e = agree_below_at (side_ok p true digit) (λ _. true) 256 (192 + low r + 8 * (reg % 8)) t (omega (arith, n)) in
    let same : (192 + low r + 8 * (reg % 8)) / 8 % 8 ≡ reg % 8 = omega (arith, n) in
    from_reg (nat_lt (192 + low r + 8 * (reg % 8)) 192) (digit_is digit ((192 + low r + 8 * (reg % 8)) / 8 % 8)) (has p (192 + low r + 8 * (reg % 8))) e (le-ltb _ _ (omega arith)) (ap (digit_is digit) same ∙ d)
modrm_fits (Some p) (operands.Mem m) reg digit ok d t =
    let s = shape_mem m in
    let k = (coded (operands.Mem m)).mode in
    let e = agree_below_at (side_ok p false digit) (λ _. true) 256 (k + 8 * (reg % 8)) t (omega (arith, s.byte)) in
    let same : (k + 8 * (reg % 8)) / 8 % 8 ≡ reg % 8 = omega (arith, s.clear) in
    from_mem (nat_lt (k + 8 * (reg % 8)) 192) (digit_is digit ((k + 8 * (reg % 8)) / 8 % 8)) (has p (k + 8 * (reg % 8))) e (lt-ltb _ _ (omega (arith, s.byte))) (ap (digit_is digit) same ∙ d)
modrm_fits (Some p) (operands.Imm n) reg digit ok d t = absurd cc

-- ---- a row with ModRM

abbrev pub rm_row : Form → Size → List ℕ → Bool
rm_row f size imm = is_fixed f && (takes_w f.wide size && (length imm == imm_len f.imm))

-- what makes a spelling of a row with ModRM
pub record Plan (f : Form) (size : Size) (op reg : ℕ) (o : Operand) (imm : List ℕ) (digit : Option ℕ) : Type 0 where
  pub row : rm_row f size imm ≡ true
  pub modrm : takes_modrm f.modrm (is_reg o) digit ≡ true
  pub opcode : has f.opcode op ≡ true
  pub small : reg < 16
  pub number : digit_is digit (reg % 8) ≡ true
  pub place : place_ok o ≡ true
  pub fits : OperandFits o
  pub bytes : IsBytes imm

-- what its fields say
pub record Said (size : Size) (op reg : ℕ) (o : Operand) (imm : List ℕ) (x : Fields) : Type 0 where
  pub size_is : size_in x ≡ size
  pub op_is : x.opcode ≡ op
  pub rm_is : x.rm ≡ o
  pub reg_is : (r : Reg) → reg ≡ reg_number r → reg_in x ≡ r
  pub digit : x.modrm / 8 % 8 ≡ reg % 8
  pub imm_is : x.imm ≡ imm

pub by_rm : (f : Form) (size : Size) (op reg : ℕ) (o : Operand) (imm : List ℕ) (digit : Option ℕ) (i : Instr) → Contains forms f → Plan f size op reg o imm digit →
    ((x : Fields) → Said size op reg o imm x → instr_of f.kind x ≡ i) → Spells (with_rm f size op reg o imm) i
by_rm f size op reg o imm digit i listed p same =
    let c = coded o in
    let sh = shape o in
    let w = w_small size in
    let small = p.small in
    let x = w_bit size + 4 * (reg / 8) + c.extend in
    let m = c.mode + 8 * (reg % 8) in
    let lt : x < 16 = omega (arith, small, sh.extend, w.0) in
    let b = rex_bits x lt in
    let holds : Holds c (rex_byte x) m = record { reg = reg % 8; small = omega arith; whole = refl; b = omega (arith, b.0, sh.extend, w.1); x = omega (arith, b.1, sh.extend, small, w.1) } in
    let r = reads o p.fits p.place (rex_byte x) m holds in
    let row = and_parts _ _ p.row in
    let row' = and_parts _ _ row.1 in
    let w-is : x / 8 ≡ w_bit size / 8 = omega (arith, small, sh.extend, w.1) in
    let fields : Fields = record { rex = rex_byte x; opcode = op; modrm = m; rm = operand_of (rex_byte x) m (slice_index c.sib 0) (signed_of c.disp); imm = imm } in
    let said : Said size op reg o imm fields = record {
      size_is = size_back size (bit (rex_byte x) 3) (omega (arith, b.3, w-is));
      op_is = refl;
      rm_is = r.means;
      reg_is = λ g e. reg_at_is g _ (omega (arith, b.2, sh.extend, sh.clear, small, e, w.1));
      digit = omega (arith, sh.clear);
      imm_is = refl;
    } in
    record {
      form = f;
      listed = listed;
      spelled = record {
        rex = rex_with x;
        allowed = allowed_w f.wide size x row'.0 w-is;
        head = present (places f (rex_with x)) (cells_of f x op m);
        cells = cells_of f x op m;
        filled = fill_present (places f (rex_with x)) (cells_of f x op m) (each_cell f x op m row.0 lt p.opcode (modrm_fits f.modrm o reg digit p.place p.number p.modrm));
        sib = c.sib;
        sib_fits = r.sib_fits;
        disp = c.disp;
        disp_fits = r.disp_fits;
        imm = imm;
        imm_fits = eqb-true _ _ row'.1;
        tail_fits = IsBytes-append c.sib (c.disp ++ imm) r.sib_bytes (IsBytes-append c.disp imm r.disp_bytes p.bytes);
        whole = refl;
        means = sym (same fields said);
      };
    }

-- ---- a row without ModRM

abbrev pub is_none : Option Pattern → Bool
is_none None = true
is_none (Some p) = false

none_fits : (q : Option Pattern) → is_none q ≡ true → CellFits q 0
none_fits None h = refl
none_fits (Some p) h = absurd cc

abbrev pub bare_row : Form → List ℕ → Bool
bare_row f imm = is_fixed f && (is_none f.modrm && (length imm == imm_len f.imm))

-- the fields of such a row
abbrev pub bare_fields : ℕ → ℕ → List ℕ → Fields
bare_fields x op imm = record { rex = rex_byte x; opcode = op; modrm = 0; rm = operand_of (rex_byte x) 0 0 (signed_of []); imm = imm }

by_row : (f : Form) (x op : ℕ) (imm : List ℕ) (i : Instr) → Contains forms f → bare_row f imm ≡ true → x < 16 → allows f.wide (rex_with x) ≡ true → has f.opcode op ≡ true → IsBytes imm →
    instr_of f.kind (bare_fields x op imm) ≡ i → Spells (spelling f x op 0 imm) i
by_row f x op imm i listed h small allowed opcode bytes same =
    let row = and_parts _ _ h in
    let row' = and_parts _ _ row.1 in
    record {
      form = f;
      listed = listed;
      spelled = record {
        rex = rex_with x;
        allowed = allowed;
        head = present (places f (rex_with x)) (cells_of f x op 0);
        cells = cells_of f x op 0;
        filled = fill_present (places f (rex_with x)) (cells_of f x op 0) (each_cell f x op 0 row.0 small opcode (none_fits f.modrm row'.0));
        sib = [];
        sib_fits = refl;
        disp = [];
        disp_fits = refl;
        imm = imm;
        imm_fits = eqb-true _ _ row'.1;
        tail_fits = bytes;
        whole = refl;
        means = sym same;
      };
    }

-- with neither register nor ModRM
pub by_alone : (f : Form) (op : ℕ) (imm : List ℕ) (i : Instr) → Contains forms f → (bare_row f imm && allows f.wide NoRex) ≡ true → has f.opcode op ≡ true → IsBytes imm →
    instr_of f.kind (bare_fields 0 op imm) ≡ i → Spells (alone f op imm) i
by_alone f op imm i listed h opcode bytes same = let a = and_parts _ _ h in by_row f 0 op imm i listed a.0 (omega arith) a.1 opcode bytes same

-- with a register in the opcode
abbrev pub reg_row : Form → Size → ℕ → List ℕ → Bool
reg_row f size base imm = bare_row f imm && (takes_w f.wide size && ((base % 8 == 0) && agree_below (λ k. has f.opcode (base + k)) (λ _. true) 8))

pub by_reg : (f : Form) (size : Size) (base : ℕ) (r : Reg) (imm : List ℕ) (i : Instr) → Contains forms f → reg_row f size base imm ≡ true → IsBytes imm →
    ((x : Fields) → opcode_reg x ≡ r → x.imm ≡ imm → instr_of f.kind x ≡ i) → Spells (with_reg f size base r imm) i
by_reg f size base r imm i listed h bytes same =
    let n = reg_small r in
    let w = w_small size in
    let x = w_bit size + high r in
    let lt : x < 16 = omega (arith, n, w.0) in
    let b = rex_bits x lt in
    let a = and_parts _ _ h in
    let a' = and_parts _ _ a.1 in
    let a'' = and_parts _ _ a'.1 in
    let zero-low : base % 8 ≡ 0 = eqb-true _ _ a''.0 in
    let w-is : x / 8 ≡ w_bit size / 8 = omega (arith, n, w.1) in
    let opcode = agree_below_at (λ k. has f.opcode (base + k)) (λ _. true) 8 (low r) a''.1 (omega arith) in
    let reg : opcode_reg (bare_fields x (base + low r) imm) ≡ r = reg_at_is r _ (omega (arith, b.0, n, w.1, zero-low)) in
    by_row f x (base + low r) imm i listed a.0 lt (allowed_w f.wide size x a'.0 w-is) opcode bytes (same (bare_fields x (base + low r) imm) reg refl)
