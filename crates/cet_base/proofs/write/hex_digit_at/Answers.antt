use Rattle.std.proofs.Common.{◌≡◌, ℕ, zero, suc, ◌+◌, ◌*◌, ◌/◌, ◌%◌, ◌^◌, false, refl, ap, ◌∙◌, arith}
use Rattle.std.specs.Fmt.{digit_glyph}
use Rattle.std.proofs.Math.Nat.{pow-suc}
use Rattle.std.proofs.lemmas.Nat.{pow-add}
use Rattle.cet_base.proofs.write.hex_digit_at.Goals as goal

-- a shift by four bits is one place
pow16 : (n : ℕ) → 2 ^ (4 * n) ≡ 16 ^ n
pow16 zero = refl
pow16 (suc n) =
    let e : 4 * suc n ≡ 4 * n + 4 = omega arith in
    rw (pow-suc 16 n, e, pow-add 2 (4 * n) 4, pow16 n) refl

pub returns : goal.returns
returns c = c.digit_glyph.ensures ∙ ap (λ p. digit_glyph false (c.args.value / p % 16)) (pow16 c.args.place)
