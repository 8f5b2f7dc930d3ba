use Rattle.std.proofs.Common.{◌≡◌, ℕ, ◌-◌, ◌<◌, get_or}
use Rattle.cet_base.specs.Digits.{hex_digit_at}
use Rattle.cet_base.proofs.write.hex16.Given as goal

abbrev pub invariant-loop-at : goal.invariant-loop-at
invariant-loop-at l = (k : ℕ) → k < l.at → get_or l.digit-items k 0 ≡ hex_digit_at l.value (15 - k)
