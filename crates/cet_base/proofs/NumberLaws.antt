-- What is written as a number reads as that number. Source: own.
use Rattle.std.proofs.Common.{◌≡◌, ℕ, zero, suc, ◌+◌, ◌*◌, ◌/◌, ◌%◌, ◌^◌, ◌<◌, ◌≤◌, Bool, true, false, ◌&&◌, cond, eqb, ltb, leb, nat_eq}
use Rattle.std.proofs.Common.{List, [], ◌∷◌, length, Some, None, codes, refl, subst, ap, sym, ◌∙◌, arith, lt-ltb, le-leb}
use Rattle.std.specs.Char.{digit_value, is_digit}
use Rattle.std.specs.Fmt.{decimal, digit_glyph, digits, digits_onto}
use Rattle.std.specs.List.{list_all, starts_with}
use Rattle.std.specs.Str.Parse.{AllDigits, IsNumeral, digits_value, digits_value_after}
use Rattle.std.proofs.lemmas.Bool.{agree_below_at, eqb-false, eqb-true, ne_eqb}
use Rattle.std.proofs.Math.Arith.{mod-mul}
use Rattle.std.proofs.Math.Nat.{mod-one, one-le-pow, pow-suc, pow-succ'}
use Rattle.std.proofs.lemmas.Fmt.{decimal_is_IsNumeral, digits_is_IsNumeral, length-decimal-le}
use Rattle.cet_base.specs.Digits.{hex_digits, hex16}
use Rattle.cet_base.specs.Numbers.{number_of, numeral}

all_digits : (radix : ℕ) (ds : List ℕ) → AllDigits radix ds → list_all (λ c. is_digit c radix) ds ≡ true
all_digits radix [] h = refl
all_digits radix (c ∷ cs) h = ap (λ b. b && list_all (λ c. is_digit c radix) cs) (lt-ltb (digit_value c) radix h.0) ∙ all_digits radix cs h.1

chosen : (a b c d : Bool) (n : ℕ) → a ≡ true → b ≡ true → c ≡ true → d ≡ true
    → cond (a && b) (cond c (cond d (Some n) None) None) None ≡ Some n
chosen a b c d n p q r s = rw (p, q, r, s) refl

-- digits whose number fits
pub numeral_some : (radix most : ℕ) (ds : List ℕ) (n : ℕ) → IsNumeral radix ds → length ds ≤ most → digits_value radix ds ≡ n → n < 2 ^ 64
    → numeral radix most ds ≡ Some n
numeral_some radix most ds n h short value small =
    chosen (leb 1 (length ds)) (leb (length ds) most) (list_all (λ c. is_digit c radix) ds) (ltb (digits_value radix ds) (2 ^ 64)) (digits_value radix ds)
    (le-leb _ _ h.0) (le-leb _ _ short) (all_digits radix ds h.1) (lt-ltb _ _ (omega arith))
    ∙ ap (λ v. Some v) value

and-false : (b : Bool) → (b && false) ≡ false
and-false true = refl
and-false false = refl

-- `x` is no decimal digit
not_x : (d : ℕ) → digit_value d < 10 → eqb 120 d ≡ false
not_x d h = ne_eqb 120 d (λ e. let P : ℕ → Type 0 = λ c. digit_value c < 10 in let same : 33 < 10 = subst P (sym e) h in omega arith)

no_prefix : (ds : List ℕ) → AllDigits 10 ds → starts_with nat_eq ds (codes "0x") ≡ false
no_prefix [] h = refl
no_prefix (c ∷ []) h = and-false (eqb 48 c)
no_prefix (c ∷ d ∷ ds) h = ap (λ b. eqb 48 c && (b && true)) (not_x d h.1.0) ∙ and-false (eqb 48 c)

pub number_of-decimal : (n : ℕ) → n < 2 ^ 64 → number_of (decimal n) ≡ Some n
unfolding number_of
number_of-decimal n h =
    let numeral = decimal_is_IsNumeral n h in
    rw (no_prefix (decimal n) numeral.0.1) (numeral_some 10 20 (decimal n) n numeral.0 (length-decimal-le 20 n (omega arith) (omega arith) h) numeral.1 h)

short_choice : (b : Bool) (xs ys : List ℕ) (m : ℕ) → length xs ≤ m → (b ≡ false → length ys ≤ m) → length (cond b xs ys) ≤ m
short_choice true xs ys m first second = first
short_choice false xs ys m first second = second refl

less_power : (n j : ℕ) → n < 16 ^ suc j → (eqb (n / 16) 0 ≡ false) → (n / 16 < 16 ^ j) × (1 ≤ j)
less_power n zero small more = absurd (let more' = eqb-false _ _ more in let one : 16 ^ suc zero ≡ 16 = refl in grind arith)
less_power n (suc j) small more = let power = pow-suc 16 (suc j) in (omega arith, omega arith)

length-digits_onto : (k j n : ℕ) (acc : List ℕ) → n < 16 ^ j → 1 ≤ j → j ≤ k → length (digits_onto k 16 false n acc) ≤ j + length acc
length-digits_onto zero j n acc small some room = absurd (omega arith)
length-digits_onto (suc k) zero n acc small some room = absurd (omega arith)
length-digits_onto (suc k) (suc j) n acc small some room =
    let d = digit_glyph false (n % 16) in
    let more : eqb (n / 16) 0 ≡ false → length (digits_onto k 16 false (n / 16) (d ∷ acc)) ≤ suc j + length acc = λ e.
    let less = less_power n j small e in
    let rest = length-digits_onto k j (n / 16) (d ∷ acc) less.0 less.1 (omega arith) in omega arith in
    short_choice (eqb (n / 16) 0) (d ∷ acc) (digits_onto k 16 false (n / 16) (d ∷ acc)) (suc j + length acc) (omega arith) more

pub length-digits : (n : ℕ) → n < 2 ^ 64 → length (digits 16 false n) ≤ 16
unfolding digits
length-digits n h = length-digits_onto 64 16 n [] h (omega arith) (omega arith)

pub number_of-hex : (n : ℕ) → n < 2 ^ 64 → number_of (48 ∷ 120 ∷ digits 16 false n) ≡ Some n
unfolding number_of
number_of-hex n h =
    let wide : 2 ^ 64 ≤ 16 ^ 64 = omega arith in
    let numeral = digits_is_IsNumeral 16 false (omega arith) (omega arith) n (omega arith) in
    numeral_some 16 16 (digits 16 false n) n numeral.0 (length-digits n h) numeral.1 h

glyph_value : (d : ℕ) → d < 16 → digit_value (digit_glyph false d) ≡ d
glyph_value d h = eqb-true _ _ (agree_below_at (λ d. eqb (digit_value (digit_glyph false d)) d) (λ _. true) 16 d refl h)

all_hex_digits : (count n : ℕ) → AllDigits 16 (hex_digits count n)
all_hex_digits zero n = tt
all_hex_digits (suc count) n =
    let low : n / 16 ^ count % 16 < 16 = omega arith in
    (subst (λ (v : ℕ). v < 16) (sym (glyph_value (n / 16 ^ count % 16) low)) low, all_hex_digits count n)

value-hex_digits : (count n above : ℕ) → digits_value_after 16 above (hex_digits count n) ≡ above * 16 ^ count + n % 16 ^ count
value-hex_digits zero n above = omega (arith, mod-one n)
value-hex_digits (suc count) n above =
    let v = n / 16 ^ count % 16 in
    let power : 16 ^ suc count ≡ 16 * 16 ^ count = pow-succ' 16 count in
    let split : n % (16 * 16 ^ count) ≡ v * 16 ^ count + n % 16 ^ count = mod-mul n (omega arith) (one-le-pow count 16 (omega arith)) in
    ap (λ d. digits_value_after 16 (above * 16 + d) (hex_digits count n)) (glyph_value v (omega arith))
    ∙ value-hex_digits count n (above * 16 + v)
    ∙ sym (rw (power, split) (grind arith))

pub number_of-hex16 : (n : ℕ) → n < 2 ^ 64 → number_of (48 ∷ 120 ∷ hex16 n) ≡ Some n
unfolding number_of hex16
number_of-hex16 n h =
    numeral_some 16 16 (hex_digits 16 n) n (omega arith, all_hex_digits 16 n) (omega arith) (value-hex_digits 16 n 0 ∙ omega arith) h
