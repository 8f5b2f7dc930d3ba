-- The bit that a shift to the left moves out last.
use Rattle.std.proofs.Common.{◌≡◌, ℕ, ◌+◌, ◌-◌, ◌*◌, ◌/◌, ◌^◌, ◌<◌, arith, refl, sym, ap, ◌∙◌}
use Rattle.std.proofs.lemmas.Nat.{shl-shr, shr-shr}
use Rattle.cet_isa.specs.declared.instructions.Size.{Size}
use Rattle.cet_isa.specs.declared.instructions.Size.TheVariants as size
use Rattle.cet_page.specs.Values.{bits, limit}

limit_is : (s : Size) → limit s ≡ 2 ^ bits s
limit_is size.Dword = refl
limit_is size.Qword = refl

shifted_out : (x n k : ℕ) → x * 2 ^ n / 2 ^ (n + k) ≡ x / 2 ^ k
shifted_out x n k = sym (shr-shr (x * 2 ^ n) n k) ∙ ap (λ y. y / 2 ^ k) (shl-shr x n)

pub left_bit : (s : Size) (x n : ℕ) → n < bits s → x * 2 ^ n / limit s ≡ x / 2 ^ (bits s - n)
left_bit s x n h =
    let e : bits s ≡ n + (bits s - n) = omega arith in
    ap (λ m. x * 2 ^ n / m) (limit_is s ∙ ap (λ k. 2 ^ k) e) ∙ shifted_out x n (bits s - n)
