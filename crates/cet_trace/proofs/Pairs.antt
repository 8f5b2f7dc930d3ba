-- Hexadecimal digits, two at a time.
use Rattle.std.proofs.Common.{◌≡◌, ℕ, zero, suc, ◌+◌, ◌-◌, ◌*◌, ◌/◌, ◌%◌, ◌^◌, ◌<◌, ◌≤◌, true, eqb, false, List, ◌∷◌, ◌++◌, take, drop, get_or, append_assoc, refl, ap, sym, ◌∙◌, arith}
use Rattle.std.specs.Fmt.{digit_glyph}
use Rattle.std.proofs.lemmas.List.{drop-drop, drop-take, take-append-drop}
use Rattle.std.proofs.lemmas.Bool.{agree_below_at, eqb-true}
use Rattle.std.proofs.Math.Nat.{div-div-eq-div-mul, pow-succ'}
use Rattle.cet_base.specs.Digits.{hex_digit_at, hex_digits, hex2}
use Rattle.cet_trace.specs.declared.digits.TheConstants.{PAIRS}

-- the table has the two digits of each byte
pub high_of : (b : ℕ) → b < 256 → get_or PAIRS (2 * b) 0 ≡ hex_digit_at b 1
high_of b h = eqb-true _ _ (agree_below_at (λ b. eqb (get_or PAIRS (2 * b) 0) (hex_digit_at b 1)) (λ _. true) 256 b refl h)

pub low_of : (b : ℕ) → b < 256 → get_or PAIRS (2 * b + 1) 0 ≡ hex_digit_at b 0
low_of b h = eqb-true _ _ (agree_below_at (λ b. eqb (get_or PAIRS (2 * b + 1) 0) (hex_digit_at b 0)) (λ _. true) 256 b refl h)

-- a byte's digit of a higher place is the rest's
higher : (k n : ℕ) → n / 16 ^ suc (suc k) ≡ n / 256 / 16 ^ k
higher k n =
    let power : 16 ^ suc (suc k) ≡ 256 * 16 ^ k = omega (arith, pow-succ' 16 (suc k), pow-succ' 16 k) in
    ap (λ p. n / p) power ∙ sym (div-div-eq-div-mul n 256 (16 ^ k))

-- the last two digits are those of the lowest byte
pub hex_digits_more : (k n : ℕ) → hex_digits (suc (suc k)) n ≡ hex_digits k (n / 256) ++ hex2 (n % 256)
hex_digits_more zero n =
    let one : n / 16 % 16 ≡ n % 256 / 16 % 16 = omega arith in
    let two : n / 1 % 16 ≡ n % 256 / 1 % 16 = omega arith in
    rw (one, two) refl
hex_digits_more (suc k) n =
    ap (λ d. digit_glyph false (d % 16) ∷ hex_digits (suc (suc k)) n) (higher k n) ∙ ap (λ ds. hex_digit_at (n / 256) k ∷ ds) (hex_digits_more k n)

-- with the lowest byte's digits written, those of the rest are still to come
pub pair_written : (pair at rest : ℕ) (before after all : List ℕ) → pair < 8 → 2 ≤ at → drop (at - 2) after ≡ hex2 (rest % 256) ++ drop (at - 2 + 2) before
    → hex_digits (16 - 2 * pair) rest ++ drop at before ≡ all → hex_digits (16 - 2 * (pair + 1)) (rest / 256) ++ drop (at - 2) after ≡ all
pair_written pair at rest before after all more room written so_far =
    let k = 16 - 2 * (pair + 1) in
    let same : at - 2 + 2 ≡ at = omega arith in
    let left : suc (suc k) ≡ 16 - 2 * pair = omega arith in
    ap (λ ds. hex_digits k (rest / 256) ++ ds) (written ∙ ap (λ n. hex2 (rest % 256) ++ drop n before) same)
    ∙ sym (append_assoc (hex_digits k (rest / 256)) (hex2 (rest % 256)) (drop at before))
    ∙ ap (λ ds. ds ++ drop at before) (sym (hex_digits_more k rest) ∙ ap (λ m. hex_digits m rest) left)
    ∙ so_far

take_digits : (k n : ℕ) (after : List ℕ) → take k (hex_digits k n ++ after) ≡ hex_digits k n
take_digits zero n after = refl
take_digits (suc k) n after = ap (λ (ds : List ℕ). hex_digit_at n k ∷ ds) (take_digits k n after)

drop_digits : (k n : ℕ) (after : List ℕ) → drop k (hex_digits k n ++ after) ≡ after
drop_digits zero n after = refl
drop_digits (suc k) n after = drop_digits k n after

-- behind digits stands what was there
pub past_digits : (start k n : ℕ) (buf after : List ℕ) → drop start buf ≡ hex_digits k n ++ after → drop (start + k) buf ≡ after
past_digits start k n buf after written = sym (drop-drop k start buf) ∙ ap (λ (l : List ℕ). drop k l) written ∙ drop_digits k n after

-- the zeros before a place stay where what is before it stays
pub zeros_kept : (start k : ℕ) (before after rest : List ℕ) → take (start + k) after ≡ take (start + k) before → drop start before ≡ hex_digits k 0 ++ rest
    → drop start after ≡ hex_digits k 0 ++ drop (start + k) after
zeros_kept start k before after rest same zeros =
    let head : take k (drop start after) ≡ hex_digits k 0 =
    sym (drop-take start k after) ∙ ap (λ (l : List ℕ). drop start l) same ∙ drop-take start k before ∙ ap (λ (l : List ℕ). take k l) zeros ∙ take_digits k 0 rest in
    sym (take-append-drop k (drop start after))
    ∙ ap (λ (l : List ℕ). l ++ drop k (drop start after)) head
    ∙ ap (λ (l : List ℕ). hex_digits k 0 ++ l) (drop-drop k start after)

-- one pair less of the zeros is left
pub fewer_zeros : (start at k : ℕ) (before after : List ℕ) → start + suc (suc k) ≡ at → take (start + k) after ≡ take (start + k) before
    → drop start before ≡ hex_digits (suc (suc k)) 0 ++ drop at before → drop start after ≡ hex_digits k 0 ++ drop (start + k) after
fewer_zeros start at k before after place same zeros =
    zeros_kept start k before after (hex2 0 ++ drop at before) same
    (zeros ∙ ap (λ (l : List ℕ). l ++ drop at before) (hex_digits_more k 0) ∙ append_assoc (hex_digits k 0) (hex2 0) (drop at before))
