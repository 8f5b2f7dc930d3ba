-- A restore token, a previous-SSP token and a frame's word as numbers. Source: own.
use Rattle.std.proofs.Common.{◌≡◌, ℕ, ◌+◌, ◌*◌, ◌/◌, ◌%◌, ◌^◌, ◌<◌, refl, ◌∙◌, ap, arith, lit<}
use Rattle.std.specs.Prelude.{bit_or}
use Rattle.std.specs.Int.Bits.{or_zero_r}
use Rattle.std.proofs.lemmas.Nat.{or_block}
use Rattle.cet_page.specs.Tokens.{frame_word, previous_token, restore_token}

or_low : (n low : ℕ) → n % 8 ≡ 0 → low < 2 ^ 3 → bit_or 0 low ≡ low → bit_or n low ≡ n + low
or_low n low e l z =
    let a : n ≡ n / 8 * 2 ^ 3 + 0 = omega arith in
    let c : low ≡ 0 * 2 ^ 3 + low = omega arith in
    let block : bit_or (n / 8 * 2 ^ 3 + 0) (0 * 2 ^ 3 + low) ≡ bit_or (n / 8) 0 * 2 ^ 3 + bit_or 0 low = or_block 3 (n / 8) 0 0 low (lit< tt) l in
    ap (λ x. bit_or x low) a ∙ ap (bit_or (n / 8 * 2 ^ 3 + 0)) c ∙ block ∙ rw (or_zero_r (n / 8)) (omega arith)

pub restore_token_is : (ssp : ℕ) → ssp % 8 ≡ 0 → restore_token ssp ≡ ssp + 1
restore_token_is ssp e = or_low ssp 1 e (lit< tt) refl

pub previous_token_is : (ssp : ℕ) → ssp % 8 ≡ 0 → previous_token ssp ≡ ssp + 3
previous_token_is ssp e = or_low ssp 3 e (lit< tt) refl

pub frame_word_is : (ssp : ℕ) → ssp < 2 ^ 63 → frame_word ssp ≡ 2 ^ 63 + ssp
frame_word_is ssp l =
    let a : ssp ≡ 0 * 2 ^ 63 + ssp = omega arith in
    let block : bit_or (0 * 2 ^ 63 + ssp) (1 * 2 ^ 63 + 0) ≡ bit_or 0 1 * 2 ^ 63 + bit_or ssp 0 = or_block 63 0 1 ssp 0 l (lit< tt) in
    ap (λ x. bit_or x (2 ^ 63)) a ∙ block ∙ rw (or_zero_r ssp) (omega arith)
