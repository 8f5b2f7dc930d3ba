-- The canonical bytes of an operand are read as that operand. Source: own.
use Rattle.std.proofs.Common.{◌≡◌, ℕ, ◌+◌, ◌-◌, ◌*◌, ◌/◌, ◌%◌, ◌^◌, ◌<◌, ◌≤◌, suc, Bool, true, false, not, ◌&&◌, ◌||◌, cond, ltb, List, [], ◌∷◌}
use Rattle.std.proofs.Common.{length, Option, Some, None, refl, sym, ap, subst, ◌∙◌, ◌⊎◌, inl, inr, arith, ℤ, pos, negsuc}
use Rattle.std.specs.Prelude.{slice_index, nat_lt, ◌==◌}
use Rattle.std.specs.Int.{w32, cast_signed, cast_unsigned}
use Rattle.std.specs.Int.RustNames.{FitsSigned}
use Rattle.std.proofs.lemmas.Bool.{cases_Bool, and_parts, or_cases, eqb-true, eq-eqb, ne_eqb, ltb-true, lt-ltb, le-ltb}
use Rattle.std.proofs.lemmas.Int.{to_z-of_z, ints}
use Rattle.std.proofs.lemmas.Nat.{from_le_bytes-to_le_bytes_4}
use Rattle.cet_isa.specs.declared.instructions.Reg.{Reg}
use Rattle.cet_isa.specs.declared.instructions.Reg.TheVariants as regs
use Rattle.cet_isa.specs.declared.instructions.Base.{Base}
use Rattle.cet_isa.specs.declared.instructions.Base.TheVariants as bases
use Rattle.cet_isa.specs.declared.instructions.Mem.{Mem}
use Rattle.cet_isa.specs.declared.instructions.Operand.{Operand}
use Rattle.cet_isa.specs.declared.instructions.Operand.TheVariants as operands
use Rattle.cet_isa.specs.Code.{reg_at, reg_number}
use Rattle.cet_isa.specs.Meaning.{bit, sib_len, lacks_base, disp_len, signed_of, base_of, index_number, has_index, operand_of}
use Rattle.cet_isa.specs.Reader.{IsBytes}
use Rattle.cet_isa.specs.Canonical.{one_byte, four_bytes, fits_byte, is_zero, Coded, low, high, scale_bits, needs_no_disp, mod_bits, disp_bytes, sib_of, coded_base, coded_mem, coded, rex_byte}
use Rattle.cet_isa.specs.Spelled.{index_ok, scale_ok, address_ok, place_ok, OperandFits}

-- ---- registers

pub reg_back : (r : Reg) → reg_at (reg_number r) ≡ r
reg_back regs.Rax = refl
reg_back regs.Rcx = refl
reg_back regs.Rdx = refl
reg_back regs.Rbx = refl
reg_back regs.Rsp = refl
reg_back regs.Rbp = refl
reg_back regs.Rsi = refl
reg_back regs.Rdi = refl
reg_back regs.R8 = refl
reg_back regs.R9 = refl
reg_back regs.R10 = refl
reg_back regs.R11 = refl
reg_back regs.R12 = refl
reg_back regs.R13 = refl
reg_back regs.R14 = refl
reg_back regs.R15 = refl

pub reg_small : (r : Reg) → reg_number r < 16
reg_small regs.Rax = omega arith
reg_small _ = omega arith

pub reg_at_is : (r : Reg) (n : ℕ) → n ≡ reg_number r → reg_at n ≡ r
reg_at_is r n e = ap reg_at e ∙ reg_back r

-- the bits of a REX prefix that is written where one is needed
pub rex_bits : (x : ℕ) → x < 16 → (bit (rex_byte x) 0 ≡ x % 2) × (bit (rex_byte x) 1 ≡ x / 2 % 2) × (bit (rex_byte x) 2 ≡ x / 4 % 2) × (bit (rex_byte x) 3 ≡ x / 8)
rex_bits x l = elim (cases_Bool (x == 0)) [
  | inl e ↦ let z = eqb-true x 0 e in rw e (omega (arith, z), omega (arith, z), omega (arith, z), omega (arith, z))
  | inr e ↦ rw e (omega arith, omega arith, omega arith, omega arith)
]

-- ---- signed numbers

pub one_back : (z : ℤ) → fits_byte z ≡ true → signed_of (one_byte z) ≡ z
one_back (pos n) h =
    let l : n < 128 = ltb-true n 128 h in
    let e : n % 256 ≡ n = omega arith in
    rw e (rw h refl)
one_back (negsuc n) h =
    let l : n < 128 = ltb-true n 128 h in
    let e : (256 - suc n) % 256 ≡ 256 - suc n = omega arith in
    let big : ltb (256 - suc n) 128 ≡ false = le-ltb _ _ (omega arith) in
    rw e (rw big (ap negsuc (omega arith)))

pub four_back : (z : ℤ) → FitsSigned w32 z → signed_of (four_bytes z) ≡ z
four_back z f = ap (cast_signed w32) (from_le_bytes-to_le_bytes_4 (cast_unsigned w32 z) (omega (arith, ints))) ∙ to_z-of_z w32 z f

pub one_fits : (z : ℤ) → IsBytes (one_byte z)
one_fits z = (omega arith, tt)

pub four_fit : (z : ℤ) → IsBytes (four_bytes z)
four_fit z = (omega arith, (omega arith, (omega arith, (omega arith, tt))))

zero_is : (d : ℤ) → is_zero d ≡ true → d ≡ pos 0
zero_is (pos n) h = ap pos (eqb-true n 0 h)
zero_is (negsuc n) h = absurd cc

-- a test and its opposite
not_both : (t : Bool) → not t ≡ true → t ≡ true → ⊥
not_both true p q = absurd cc
not_both false p q = absurd cc

neither : (t : Bool) → t ≡ false → t ≡ true → ⊥
neither true p q = absurd cc
neither false p q = absurd cc

-- ---- what ModRM, SIB and REX say

-- ModRM and REX hold these bits, and some number in the reg field
pub record Holds (c : Coded) (rex m : ℕ) : Type 0 where
  pub reg : ℕ
  pub small : reg < 8
  pub whole : m ≡ c.mode + 8 * reg
  pub b : bit rex 0 ≡ c.extend % 2
  pub x : bit rex 1 ≡ c.extend / 2

-- they are read as the operand
pub record Reads (o : Operand) (c : Coded) (rex m : ℕ) : Type 0 where
  pub means : operand_of rex m (slice_index c.sib 0) (signed_of c.disp) ≡ o
  pub sib_fits : length c.sib ≡ sib_len m
  pub disp_fits : length c.disp ≡ disp_len m (slice_index c.sib 0)
  pub sib_bytes : IsBytes c.sib
  pub disp_bytes : IsBytes c.disp

reads_reg : (r : Reg) (rex m : ℕ) → Holds (coded (operands.Reg r)) rex m → Reads (operands.Reg r) (coded (operands.Reg r)) rex m
reads_reg r rex m h =
    let n = reg_small r in
    let big : nat_lt m 192 ≡ false = le-ltb _ _ (omega (arith, h.whole)) in
    record {
      means = rw big (ap operands.Reg (reg_at_is r _ (omega (arith, h.whole, h.b, h.small, n))));
      sib_fits = rw big refl;
      disp_fits = rw big refl;
      sib_bytes = tt;
      disp_bytes = tt;
    }

read_mem : (rex m sib : ℕ) (d : ℤ) (b : Base) (i : Option Reg) (s : ℕ) → nat_lt m 192 ≡ true → base_of rex m sib ≡ b → cond (has_index rex m sib) (Some (reg_at (index_number rex sib))) None ≡ i →
    cond (has_index rex m sib) (2 ^ (sib / 64)) 1 ≡ s → operand_of rex m sib d ≡ operands.Mem (record { base = b; index = i; scale = s; disp = d })
read_mem rex m sib d b i s small eb ei es = rw small (ap operands.Mem (made eb ei es))
  where
    made : {b b' : Base} {i i' : Option Reg} {s s' : ℕ} → b ≡ b' → i ≡ i' → s ≡ s' → (let x : Mem = record { base = b; index = i; scale = s; disp = d } in x) ≡ record { base = b'; index = i'; scale = s'; disp = d }
    made eb ei es = cc

base_plain : (rex m sib : ℕ) (b : Reg) → (m % 8 == 4) ≡ false → lacks_base m sib ≡ false → m % 8 + 8 * bit rex 0 ≡ reg_number b → base_of rex m sib ≡ bases.Reg b
base_plain rex m sib b plain has e = rw (has, plain) (ap bases.Reg (reg_at_is b _ e))

base_sib : (rex m sib : ℕ) (b : Reg) → (m % 8 == 4) ≡ true → lacks_base m sib ≡ false → sib % 8 + 8 * bit rex 0 ≡ reg_number b → base_of rex m sib ≡ bases.Reg b
base_sib rex m sib b four has e = rw (has, four) (ap bases.Reg (reg_at_is b _ e))

-- ---- the displacement after a base

abbrev len_at : ℕ → ℕ
len_at k = cond (nat_lt k 64) 0 (cond (nat_lt k 128) 1 4)

-- this displacement goes with the mod bits k
record Disp (b : Reg) (d : ℤ) (k : ℕ) (text : List ℕ) : Type 0 where
  mods : (k ≡ 0) ⊎ ((k ≡ 64) ⊎ (k ≡ 128))
  based : k ≡ 0 → low b ≡ 5 → ⊥
  back : signed_of text ≡ d
  len : length text ≡ len_at k
  bytes : IsBytes text

disp_back : (b : Reg) (d : ℤ) → FitsSigned w32 d → Disp b d (mod_bits b d) (disp_bytes b d)
disp_back b d f = go (needs_no_disp b d) (fits_byte d) refl refl
  where
    go : (t u : Bool) → needs_no_disp b d ≡ t → fits_byte d ≡ u → Disp b d (cond t 0 (cond u 64 128)) (cond t [] (cond u (one_byte d) (four_bytes d)))
    go true u et eu =
        let a = and_parts _ _ et in
        record { mods = inl refl; based = λ _ e. not_both (low b == 5) a.1 (eq-eqb (low b) 5 e); back = sym (zero_is d a.0); len = refl; bytes = tt }
    go false true et eu = record { mods = inr (inl refl); based = λ e _. omega arith; back = one_back d eu; len = refl; bytes = one_fits d }
    go false false et eu = record { mods = inr (inr refl); based = λ e _. omega arith; back = four_back d f; len = refl; bytes = four_fit d }

mods_small : (k : ℕ) → (k ≡ 0) ⊎ ((k ≡ 64) ⊎ (k ≡ 128)) → (k ≤ 128) × (k % 64 ≡ 0)
mods_small k (inl e) = (omega arith, omega arith)
mods_small k (inr (inl e)) = (omega arith, omega arith)
mods_small k (inr (inr e)) = (omega arith, omega arith)

disp_len_is : (k m sib : ℕ) → (k ≡ 0) ⊎ ((k ≡ 64) ⊎ (k ≡ 128)) → k ≤ m → m < k + 64 → lacks_base m sib ≡ false → disp_len m sib ≡ len_at k
disp_len_is k m sib (inl e) l h has = rw (lt-ltb m 192 (omega arith), lt-ltb m 128 (omega arith), has, lt-ltb m 64 (omega arith), e) refl
disp_len_is k m sib (inr (inl e)) l h has = rw (lt-ltb m 192 (omega arith), lt-ltb m 128 (omega arith), le-ltb m 64 (omega arith), e) refl
disp_len_is k m sib (inr (inr e)) l h has = rw (lt-ltb m 192 (omega arith), le-ltb m 128 (omega arith), e) refl

-- mod 0 with base 5 is not there
has_base : (m c : ℕ) → (m < 64 → c ≡ 5 → ⊥) → (nat_lt m 64 && (c == 5)) ≡ false
has_base m c h = elim (cases_Bool (nat_lt m 64)) [
  | inl e ↦ rw e (ne_eqb c 5 (h (ltb-true m 64 e)))
  | inr e ↦ rw e refl
]

-- ---- index and scale

-- what REX and SIB say of the index
abbrev IndexBy : ℕ → ℕ → Option Reg → ℕ → Type 0
IndexBy sib e i s = (rex m : ℕ) → (m % 8 == 4) ≡ true → bit rex 1 ≡ e / 2 → (cond (has_index rex m sib) (Some (reg_at (index_number rex sib))) None ≡ i) × (cond (has_index rex m sib) (2 ^ (sib / 64)) 1 ≡ s)

no_index : (sib e : ℕ) → sib / 8 % 8 ≡ 4 → e / 2 ≡ 0 → IndexBy sib e None 1
no_index sib e h g rex m four x =
    let none : has_index rex m sib ≡ false = rw (four, eq-eqb (index_number rex sib) 4 (omega (arith, h, g, x))) refl in
    (rw none refl, rw none refl)

some_index : (i : Reg) (s sib e : ℕ) → (reg_number i ≡ 4 → ⊥) → sib / 8 % 8 ≡ low i → e / 2 ≡ high i → 2 ^ (sib / 64) ≡ s → IndexBy sib e (Some i) s
some_index i s sib e ok h g sc rex m four x =
    let n = reg_small i in
    let number : index_number rex sib ≡ reg_number i = omega (arith, h, g, x, n) in
    let some : has_index rex m sib ≡ true = rw (four, ne_eqb (index_number rex sib) 4 (λ e. ok (sym number ∙ e))) refl in
    (rw some (ap (λ (r : Reg). some_reg r) (reg_at_is i _ number)), rw some sc)
  where
    some_reg : Reg → Option Reg
    some_reg r = Some r

scale_back : (i : Reg) (s : ℕ) → scale_ok (Some i) s ≡ true → (2 ^ scale_bits s ≡ s) × (scale_bits s < 4)
scale_back i s h = elim (or_cases (s == 1) ((s == 2) || ((s == 4) || (s == 8))) h) [
  | inl e ↦ at 1 (eqb-true s 1 e) (refl, omega arith)
  | inr h ↦ elim (or_cases (s == 2) ((s == 4) || (s == 8)) h) [
    | inl e ↦ at 2 (eqb-true s 2 e) (refl, omega arith)
    | inr h ↦ elim (or_cases (s == 4) (s == 8) h) [
      | inl e ↦ at 4 (eqb-true s 4 e) (refl, omega arith)
      | inr e ↦ at 8 (eqb-true s 8 e) (refl, omega arith)
    ]
  ]
]
  where
    at : (n : ℕ) → s ≡ n → (2 ^ scale_bits n ≡ n) × (scale_bits n < 4) → (2 ^ scale_bits s ≡ s) × (scale_bits s < 4)
    at n e h = subst (λ (k : ℕ). (2 ^ scale_bits k ≡ k) × (scale_bits k < 4)) (sym e) h

record Sib (i : Reg) (s b : ℕ) : Type 0 where
  byte : sib_of i s b < 256
  base : sib_of i s b % 8 ≡ b
  index : (e : ℕ) → e / 2 ≡ high i → IndexBy (sib_of i s b) e (Some i) s

sib_says : (i : Reg) (s b : ℕ) → index_ok (Some i) ≡ true → scale_ok (Some i) s ≡ true → b < 8 → Sib i s b
sib_says i s b oi os l =
    let n = reg_small i in
    let sc = scale_back i s os in
    let q : sib_of i s b / 64 ≡ scale_bits s = omega (arith, sc.1, n) in
    record {
      byte = omega (arith, sc.1, n);
      base = omega (arith, n);
      index = λ e g. some_index i s _ e (λ four. not_both (reg_number i == 4) oi (eq-eqb (reg_number i) 4 four)) (omega (arith, sc.1, n)) g (ap (λ (k : ℕ). 2 ^ k) q ∙ sc.0);
    }

-- ---- memory, form by form

-- [base + disp], with no SIB
reads_plain : (b : Reg) (d : ℤ) (k : ℕ) (text : List ℕ) → Disp b d k text → (low b ≡ 4 → ⊥) → (rex m : ℕ) → Holds (record { mode = k + low b; sib = []; disp = text; extend = high b }) rex m →
    Reads (operands.Mem (record { base = bases.Reg b; index = None; scale = 1; disp = d })) (record { mode = k + low b; sib = []; disp = text; extend = high b }) rex m
reads_plain b d k text f no_sib rex m h =
    let n = reg_small b in
    let k-is = mods_small k f.mods in
    let rm : m % 8 ≡ low b = omega (arith, h.whole, k-is.1, h.small) in
    let small : nat_lt m 192 ≡ true = lt-ltb _ _ (omega (arith, h.whole, k-is.0, h.small)) in
    let plain : (m % 8 == 4) ≡ false = ne_eqb (m % 8) 4 (λ e. no_sib (sym rm ∙ e)) in
    let has : lacks_base m 0 ≡ false = rw plain (has_base m (m % 8) (λ l e. f.based (omega (arith, h.whole, k-is.1)) (sym rm ∙ e))) in
    let none : has_index rex m 0 ≡ false = rw plain refl in
    record {
      means = ap (operand_of rex m 0) f.back ∙ read_mem rex m 0 d (bases.Reg b) None 1 small (base_plain rex m 0 b plain has (omega (arith, rm, h.b, n))) (rw none refl) (rw none refl);
      sib_fits = rw (small, plain) refl;
      disp_fits = f.len ∙ sym (disp_len_is k m 0 f.mods (omega (arith, h.whole)) (omega (arith, h.whole, h.small)) has);
      sib_bytes = tt;
      disp_bytes = f.bytes;
    }

-- by SIB with a base
reads_sib : (b : Reg) (i : Option Reg) (s : ℕ) (d : ℤ) (k sib e : ℕ) (text : List ℕ) → Disp b d k text → sib < 256 → sib % 8 ≡ low b → e % 2 ≡ high b → IndexBy sib e i s → (rex m : ℕ) →
    Holds (record { mode = k + 4; sib = sib ∷ []; disp = text; extend = e }) rex m → Reads (operands.Mem (record { base = bases.Reg b; index = i; scale = s; disp = d }))
    (record { mode = k + 4; sib = sib ∷ []; disp = text; extend = e }) rex m
reads_sib b i s d k sib e text f byte sib-low e-low index rex m h =
    let n = reg_small b in
    let k-is = mods_small k f.mods in
    let rm : m % 8 ≡ 4 = omega (arith, h.whole, k-is.1, h.small) in
    let small : nat_lt m 192 ≡ true = lt-ltb _ _ (omega (arith, h.whole, k-is.0, h.small)) in
    let four : (m % 8 == 4) ≡ true = eq-eqb (m % 8) 4 rm in
    let has : lacks_base m sib ≡ false = rw four (has_base m (sib % 8) (λ l e. f.based (omega (arith, h.whole, k-is.1)) (sym sib-low ∙ e))) in
    let both = index rex m four h.x in
    record {
      means = ap (operand_of rex m sib) f.back ∙ read_mem rex m sib d (bases.Reg b) i s small (base_sib rex m sib b four has (omega (arith, sib-low, h.b, e-low, n))) both.0 both.1;
      sib_fits = rw (small, four) refl;
      disp_fits = f.len ∙ sym (disp_len_is k m sib f.mods (omega (arith, h.whole)) (omega (arith, h.whole, h.small)) has);
      sib_bytes = (byte, tt);
      disp_bytes = f.bytes;
    }

reads_rip : (d : ℤ) (rex m : ℕ) → FitsSigned w32 d → Holds (record { mode = 5; sib = []; disp = four_bytes d; extend = 0 }) rex m →
    Reads (operands.Mem (record { base = bases.Rip; index = None; scale = 1; disp = d })) (record { mode = 5; sib = []; disp = four_bytes d; extend = 0 }) rex m
reads_rip d rex m f h =
    let rm : m % 8 ≡ 5 = omega (arith, h.whole, h.small) in
    let small : nat_lt m 192 ≡ true = lt-ltb _ _ (omega (arith, h.whole, h.small)) in
    let below : nat_lt m 64 ≡ true = lt-ltb _ _ (omega (arith, h.whole, h.small)) in
    let below2 : nat_lt m 128 ≡ true = lt-ltb _ _ (omega (arith, h.whole, h.small)) in
    let plain : (m % 8 == 4) ≡ false = ne_eqb (m % 8) 4 (λ e. omega (arith, e, rm)) in
    let lacks : lacks_base m 0 ≡ true = rw (below, plain) (eq-eqb (m % 8) 5 rm) in
    let none : has_index rex m 0 ≡ false = rw plain refl in
    record {
      means = ap (operand_of rex m 0) (four_back d f) ∙ read_mem rex m 0 d bases.Rip None 1 small (rw (lacks, plain) refl) (rw none refl) (rw none refl);
      sib_fits = rw (small, plain) refl;
      disp_fits = sym (rw (small, below2, lacks, below) refl);
      sib_bytes = tt;
      disp_bytes = four_fit d;
    }

-- by SIB with no base
reads_baseless : (i : Option Reg) (s : ℕ) (d : ℤ) (sib e : ℕ) → FitsSigned w32 d → sib < 256 → sib % 8 ≡ 5 → IndexBy sib e i s → (rex m : ℕ) →
    Holds (record { mode = 4; sib = sib ∷ []; disp = four_bytes d; extend = e }) rex m → Reads (operands.Mem (record { base = bases.None; index = i; scale = s; disp = d }))
    (record { mode = 4; sib = sib ∷ []; disp = four_bytes d; extend = e }) rex m
reads_baseless i s d sib e f byte sib-low index rex m h =
    let rm : m % 8 ≡ 4 = omega (arith, h.whole, h.small) in
    let small : nat_lt m 192 ≡ true = lt-ltb _ _ (omega (arith, h.whole, h.small)) in
    let below : nat_lt m 64 ≡ true = lt-ltb _ _ (omega (arith, h.whole, h.small)) in
    let below2 : nat_lt m 128 ≡ true = lt-ltb _ _ (omega (arith, h.whole, h.small)) in
    let four : (m % 8 == 4) ≡ true = eq-eqb (m % 8) 4 rm in
    let lacks : lacks_base m sib ≡ true = rw (below, four) (eq-eqb (sib % 8) 5 sib-low) in
    let both = index rex m four h.x in
    record {
      means = ap (operand_of rex m sib) (four_back d f) ∙ read_mem rex m sib d bases.None i s small (rw (lacks, four) refl) both.0 both.1;
      sib_fits = rw (small, four) refl;
      disp_fits = sym (rw (small, below2, lacks, below) refl);
      sib_bytes = (byte, tt);
      disp_bytes = four_fit d;
    }

reads_base : (b : Reg) (d : ℤ) → FitsSigned w32 d → (rex m : ℕ) → Holds (coded_base b d) rex m → Reads (operands.Mem (record { base = bases.Reg b; index = None; scale = 1; disp = d })) (coded_base b d) rex m
reads_base b d f rex m h = go (low b == 4) refl h
  where
    with_sib : Coded
    with_sib = record { mode = mod_bits b d + 4; sib = 0x24 ∷ []; disp = disp_bytes b d; extend = high b }

    no_sib : Coded
    no_sib = record { mode = mod_bits b d + low b; sib = []; disp = disp_bytes b d; extend = high b }

    go : (t : Bool) → (low b == 4) ≡ t → Holds (cond t with_sib no_sib) rex m → Reads (operands.Mem (record { base = bases.Reg b; index = None; scale = 1; disp = d })) (cond t with_sib no_sib) rex m
    go true e h =
        let n = reg_small b in
        reads_sib b None 1 d (mod_bits b d) 0x24 (high b) (disp_bytes b d) (disp_back b d f) (omega arith) (omega (arith, eqb-true (low b) 4 e)) (omega (arith, n)) (no_index 0x24 (high b) (omega arith) (omega (arith, n))) rex m h
    go false e h = reads_plain b d (mod_bits b d) (disp_bytes b d) (disp_back b d f) (λ k. neither (low b == 4) e (eq-eqb (low b) 4 k)) rex m h

-- a scale that passes the test without an index is 1
at_one : (b : Base) (s : ℕ) (d : ℤ) (rex m : ℕ) → s ≡ 1 → (Holds (coded_mem b None 1 d) rex m →
    Reads (operands.Mem (record { base = b; index = None; scale = 1; disp = d })) (coded_mem b None 1 d) rex m) → Holds (coded_mem b None s d) rex m →
    Reads (operands.Mem (record { base = b; index = None; scale = s; disp = d })) (coded_mem b None s d) rex m
at_one b s d rex m e g = subst (λ (k : ℕ). Holds (coded_mem b None k d) rex m → Reads (operands.Mem (record { base = b; index = None; scale = k; disp = d })) (coded_mem b None k d) rex m) (sym e) g

reads_mem : (b : Base) (i : Option Reg) (s : ℕ) (d : ℤ) → FitsSigned w32 d → address_ok b i s ≡ true → (rex m : ℕ) → Holds (coded_mem b i s d) rex m →
    Reads (operands.Mem (record { base = b; index = i; scale = s; disp = d })) (coded_mem b i s d) rex m
reads_mem bases.Rip None s d f ok rex m h = at_one bases.Rip s d rex m (eqb-true s 1 ok) (reads_rip d rex m f) h
reads_mem bases.Rip (Some i) s d f ok rex m h = absurd cc
reads_mem bases.None None s d f ok rex m h = at_one bases.None s d rex m (eqb-true s 1 ok) (reads_baseless None 1 d 0x25 0 f (omega arith) (omega arith) (no_index 0x25 0 (omega arith) (omega arith)) rex m) h
reads_mem bases.None (Some i) s d f ok rex m h =
    let n = reg_small i in
    let a = and_parts (index_ok (Some i)) (scale_ok (Some i) s) ok in
    let y = sib_says i s 5 a.0 a.1 (omega arith) in
    reads_baseless (Some i) s d (sib_of i s 5) (2 * high i) f y.byte y.base (y.index _ (omega arith)) rex m h
reads_mem (bases.Reg b) None s d f ok rex m h = at_one (bases.Reg b) s d rex m (eqb-true s 1 ok) (reads_base b d f rex m) h
reads_mem (bases.Reg b) (Some i) s d f ok rex m h =
    let nb = reg_small b in
    let n = reg_small i in
    let a = and_parts (index_ok (Some i)) (scale_ok (Some i) s) ok in
    let y = sib_says i s (low b) a.0 a.1 (omega arith) in
    reads_sib b (Some i) s d (mod_bits b d) (sib_of i s (low b)) (2 * high i + high b) (disp_bytes b d) (disp_back b d f) y.byte y.base (omega (arith, nb)) (y.index _ (omega (arith, nb))) rex m h

pub reads : (o : Operand) → OperandFits o → place_ok o ≡ true → (rex m : ℕ) → Holds (coded o) rex m → Reads o (coded o) rex m
reads (operands.Reg r) f ok rex m h = reads_reg r rex m h
reads (operands.Mem x) f ok rex m h = reads_mem x.base x.index x.scale x.disp f ok rex m h
reads (operands.Imm n) f ok rex m h = absurd cc

-- ---- the shape of a coded operand

-- mod and rm leave the reg field clear
pub record Shape (c : Coded) : Type 0 where
  pub clear : c.mode % 64 < 8
  pub byte : c.mode < 200
  pub extend : c.extend < 4

mod_shape : (b : Reg) (d : ℤ) → (mod_bits b d % 64 ≡ 0) × (mod_bits b d ≤ 128)
mod_shape b d = go (needs_no_disp b d) (fits_byte d)
  where
    go : (t u : Bool) → (cond t 0 (cond u 64 128) % 64 ≡ 0) × (cond t 0 (cond u 64 128) ≤ 128)
    go true u = (refl, omega arith)
    go false true = (refl, omega arith)
    go false false = (refl, omega arith)

-- of memory
pub record MemShape (c : Coded) : Type 0 where
  pub clear : c.mode % 64 < 8
  pub byte : c.mode < 136
  pub extend : c.extend < 4

mem_shape : (b : Base) (i : Option Reg) (s : ℕ) (d : ℤ) → MemShape (coded_mem b i s d)
mem_shape bases.Rip i s d = record { clear = omega arith; byte = omega arith; extend = omega arith }
mem_shape bases.None None s d = record { clear = omega arith; byte = omega arith; extend = omega arith }
mem_shape bases.None (Some i) s d = let n = reg_small i in record { clear = omega arith; byte = omega arith; extend = omega (arith, n) }
mem_shape (bases.Reg b) None s d = go (low b == 4)
  where
    go : (t : Bool) → MemShape (cond t (record { mode = mod_bits b d + 4; sib = 0x24 ∷ []; disp = disp_bytes b d; extend = high b }) (record { mode = mod_bits b d + low b; sib = []; disp = disp_bytes b d; extend = high b }))
    go true = let n = reg_small b in let k = mod_shape b d in record { clear = omega (arith, k.0); byte = omega (arith, k.1); extend = omega (arith, n) }
    go false = let n = reg_small b in let k = mod_shape b d in record { clear = omega (arith, k.0); byte = omega (arith, k.1); extend = omega (arith, n) }
mem_shape (bases.Reg b) (Some i) s d =
    let nb = reg_small b in
    let n = reg_small i in
    let k = mod_shape b d in
    record { clear = omega (arith, k.0); byte = omega (arith, k.1); extend = omega (arith, n, nb) }

pub shape_mem : (x : Mem) → MemShape (coded (operands.Mem x))
shape_mem x = mem_shape x.base x.index x.scale x.disp

pub shape : (o : Operand) → Shape (coded o)
shape (operands.Reg r) = let n = reg_small r in record { clear = omega (arith, n); byte = omega (arith, n); extend = omega (arith, n) }
shape (operands.Mem x) = let s = shape_mem x in record { clear = s.clear; byte = omega (arith, s.byte); extend = s.extend }
shape (operands.Imm n) = record { clear = omega arith; byte = omega arith; extend = omega arith }
