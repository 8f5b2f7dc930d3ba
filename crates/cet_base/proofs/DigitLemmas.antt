-- The digits of a number, written from the last one on.
use Rattle.std.proofs.Common.{◌≡◌, ℕ, zero, suc, ◌+◌, ◌-◌, ◌*◌, ◌/◌, ◌%◌, ◌^◌, ◌<◌, ◌≤◌, Bool, true, false, cond, eqb, List, [], ◌∷◌, drop, length, refl, ap, sym, ◌∙◌, slice_set, arith}
use Rattle.std.specs.Fmt.{digit_glyph, digits, digits_onto}
use Rattle.std.proofs.lemmas.Bool.Decides.{nat_tests}
use Rattle.std.proofs.lemmas.List.{drop_all}
use Rattle.std.proofs.lemmas.Grind.{common_steps}
use Rattle.std.proofs.Math.Nat.{div-lt_iff_lt-mul, pow-le-pow_left, pow-suc, pow-zero}

-- the digits of n, at most k of them, and then those that are written
unfoldable pub with_front : ℕ → ℕ → ℕ → List ℕ → List ℕ
with_front k radix n written = digits_onto k radix false n written

pub with_front-64 : (radix n : ℕ) → with_front 64 radix n [] ≡ digits radix false n
unfolding with_front digits
with_front-64 radix n = refl

by_test : (k radix n : ℕ) (written : List ℕ) (b : Bool) → eqb (n / radix) 0 ≡ b
    → with_front (suc k) radix n written
    ≡ cond b (digit_glyph false (n % radix) ∷ written) (with_front k radix (n / radix) (digit_glyph false (n % radix) ∷ written))
unfolding with_front
by_test k radix n written b e =
    ap (λ b. cond b (digit_glyph false (n % radix) ∷ written) (digits_onto k radix false (n / radix) (digit_glyph false (n % radix) ∷ written))) e

drop-slice_set : (ds : List ℕ) (at d : ℕ) → 1 ≤ at → at ≤ length ds → drop (at - 1) (slice_set ds (at - 1) d) ≡ d ∷ drop at ds
drop-slice_set ds at d low high = grind (arith, common_steps)

-- the digits of `rest` are still to be written, below place `at`
pub record IsLeft (radix value at rest : ℕ) (out : List ℕ) : Type 0 where
  pub whole : with_front (44 + at) radix rest (drop at out) ≡ digits radix false value
  pub small : rest < radix ^ at
  pub low : 1 ≤ at
  pub high : at ≤ 20

pub left_first : (radix value : ℕ) (out : List ℕ) → length out ≡ 20 → 10 ≤ radix → value < 2 ^ 64 → IsLeft radix value 20 value out
left_first radix value out e low fits = record {
  whole = ap (with_front 64 radix value) (drop_all 20 out (omega arith)) ∙ with_front-64 radix value;
  small = let many : 10 ^ 20 ≤ radix ^ 20 = pow-le-pow_left low 20 in omega arith;
  low = omega arith;
  high = omega arith;
}

small_next : (radix at rest : ℕ) → 0 < radix → 1 ≤ at → rest < radix ^ at → rest / radix < radix ^ (at - 1)
small_next radix at rest low some small =
    let pred : at ≡ suc (at - 1) = omega arith in
    let power : radix ^ at ≡ radix ^ (at - 1) * radix = ap (λ k. radix ^ k) pred ∙ pow-suc radix (at - 1) in
    (div-lt_iff_lt-mul {k = radix} {x = rest} {y = radix ^ (at - 1)} low).1 (omega arith)

more_room : (radix at rest : ℕ) → 0 < rest → rest < radix ^ at → 1 ≤ at
more_room radix zero rest more small = absurd (omega (arith, pow-zero radix))
more_room radix (suc at) rest more small = omega arith

pub left_next : (radix value at rest d : ℕ) (out : List ℕ) → length out ≡ 20 → 0 < radix → IsLeft radix value at rest out
    → d ≡ digit_glyph false (rest % radix) → (rest / radix ≡ 0 → ⊥)
    → IsLeft radix value (at - 1) (rest / radix) (slice_set out (at - 1) d)
left_next radix value at rest d out e low h digit more =
    let pred : 44 + at ≡ suc (44 + (at - 1)) = omega (arith, h.low) in
    let small = small_next radix at rest low h.low h.small in
    record {
      whole =
          ap (with_front (44 + (at - 1)) radix (rest / radix))
          (drop-slice_set out at d h.low (omega (arith, h.high)) ∙ ap (λ x. x ∷ drop at out) digit)
          ∙ sym (by_test (44 + (at - 1)) radix rest (drop at out) false (grind (arith, nat_tests)))
          ∙ sym (ap (λ k. with_front k radix rest (drop at out)) pred)
          ∙ h.whole;
      small = small;
      low = more_room radix (at - 1) (rest / radix) (omega arith) small;
      high = omega (arith, h.high);
    }

pub left_last : (radix value at rest d : ℕ) (out : List ℕ) → length out ≡ 20 → IsLeft radix value at rest out
    → d ≡ digit_glyph false (rest % radix) → rest / radix ≡ 0
    → drop (at - 1) (slice_set out (at - 1) d) ≡ digits radix false value
left_last radix value at rest d out e h digit none =
    let pred : 44 + at ≡ suc (44 + (at - 1)) = omega (arith, h.low) in
    drop-slice_set out at d h.low (omega (arith, h.high))
    ∙ ap (λ x. x ∷ drop at out) digit
    ∙ sym (by_test (44 + (at - 1)) radix rest (drop at out) true (grind (arith, nat_tests)))
    ∙ sym (ap (λ k. with_front k radix rest (drop at out)) pred)
    ∙ h.whole
