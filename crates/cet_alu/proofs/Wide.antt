-- Sums, differences and products of 64-bit numbers are exact in 128 bits.
use Rattle.std.proofs.Common.{◌≡◌, ℕ, ◌<◌, ◌^◌, arith, Bool, true, false, refl, w64, ℤ, pos, ◌+ℤ◌, ◌-ℤ◌, ◌*ℤ◌, FitsSigned, to_z, of_z, lit<}
use Rattle.std.specs.Int.{w128, from_bool}
use Rattle.std.proofs.lemmas.Int.{ints, to_z-of_z, fits_signed_mul}
use Rattle.cet_page.specs.Flags.{bit}

pub from_bool_is_bit : (b : Bool) → from_bool b ≡ bit b
from_bool_is_bit true = refl
from_bool_is_bit false = refl

pub wide_sum : (a b : ℤ) (c : ℕ) → FitsSigned w64 a → FitsSigned w64 b → c < 256 → to_z w128
    (of_z w128 (to_z w128 (of_z w128 (to_z w128 (of_z w128 a) +ℤ to_z w128 (of_z w128 b))) +ℤ to_z w128 (of_z w128 (pos c)))) ≡ a +ℤ b +ℤ pos c
wide_sum a b c f g h = omega (arith, ints)

pub wide_difference : (a b : ℤ) (c : ℕ) → FitsSigned w64 a → FitsSigned w64 b → c < 256 → to_z w128
    (of_z w128 (to_z w128 (of_z w128 (to_z w128 (of_z w128 a) -ℤ to_z w128 (of_z w128 b))) -ℤ to_z w128 (of_z w128 (pos c)))) ≡ a -ℤ b -ℤ pos c
wide_difference a b c f g h = omega (arith, ints)

pub wide_product : (a b : ℤ) → FitsSigned w64 a → FitsSigned w64 b → to_z w128 (of_z w128 (to_z w128 (of_z w128 a) *ℤ to_z w128 (of_z w128 b))) ≡ a *ℤ b
wide_product a b f g =
    let fa : FitsSigned w128 a = omega (arith, ints) in
    let fb : FitsSigned w128 b = omega (arith, ints) in
    let fm : FitsSigned w128 (a *ℤ b) = fits_signed_mul w128 a b (2 ^ 63) (2 ^ 63) (omega (arith, ints)) (omega (arith, ints)) (lit< tt) in
    let ea : to_z w128 (of_z w128 a) ≡ a = to_z-of_z w128 a fa in
    let eb : to_z w128 (of_z w128 b) ≡ b = to_z-of_z w128 b fb in
    rw (ea, eb) (to_z-of_z w128 (a *ℤ b) fm)
