use Rattle.std.proofs.Common.{◌≡◌, ℕ, zero, suc, ◌-◌, ◌<◌, length, get_or, refl, ap, sym, ◌∙◌, arith}
use Rattle.std.proofs.lemmas.List.{ext_get_or}
use Rattle.cet_base.specs.Digits.{hex_digit_at, hex_digits, hex16}
use Rattle.cet_base.proofs.write.hex16.Goals as goal

length-hex_digits : (count n : ℕ) → length (hex_digits count n) ≡ count
length-hex_digits zero n = refl
length-hex_digits (suc count) n = ap suc (length-hex_digits count n)

get_or-hex_digits : (count n i : ℕ) → i < count → get_or (hex_digits count n) i 0 ≡ hex_digit_at n (count - 1 - i)
get_or-hex_digits zero n i h = absurd (omega arith)
get_or-hex_digits (suc count) n zero h = let e : suc count - 1 - zero ≡ count = omega arith in rw e refl
get_or-hex_digits (suc count) n (suc i) h =
    let e : suc count - 1 - suc i ≡ count - 1 - i = omega arith in rw e (get_or-hex_digits count n i (omega arith))

pub returns : goal.returns
unfolding hex16
returns c =
    ext_get_or 0 c.loop-at.digit-items (hex_digits 16 c.args.value) c.loop-at-test.array_long
    (λ k h. c.loop-at.invariant k (omega arith) ∙ sym (get_or-hex_digits 16 c.args.value k (omega arith)))
