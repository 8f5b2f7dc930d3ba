-- A number with no bit is 0. Source: own.
use Rattle.std.proofs.Common.{◌≡◌, ℕ, zero, suc, true, false, not, eqb, ltb, refl, sym, ◌∙◌, ap, arith, lt-ltb}
use Rattle.std.proofs.lemmas.Bool.Decides.{nat_tests}

not_zero : (n : ℕ) → eqb (suc n) 0 ≡ false
not_zero n = grind (arith, nat_tests)

above_zero : (n : ℕ) → ltb 0 (suc n) ≡ true
above_zero n = lt-ltb 0 (suc n) (omega arith)

pub some_bits : (n : ℕ) → not (eqb n 0) ≡ ltb 0 n
some_bits zero = refl
some_bits (suc n) = ap not (not_zero n) ∙ sym (above_zero n)

pub no_bits : (n : ℕ) → not (ltb 0 n) ≡ eqb n 0
no_bits zero = refl
no_bits (suc n) = ap not (above_zero n) ∙ sym (not_zero n)
