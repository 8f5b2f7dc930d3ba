-- The first line of a text.
use Rattle.std.proofs.Common.{◌≡◌, ℕ, ◌+◌, ◌-◌, ◌<◌, ◌≤◌, ◌^◌, Bool, true, false, not, nat_lt, cond, ◌==◌, List, [], ◌∷◌, take, drop, length, Option, Some, None, refl, ap, sym, ◌∙◌, arith}
use Rattle.std.proofs.Math.Seq.{take-length}
use Rattle.std.proofs.lemmas.List.{length-drop}
use Rattle.std.proofs.lemmas.List.Sums.{count_by-le-length}
use Rattle.std.proofs.lemmas.List.Splits.{slice_split_first, length-slice_split}
use Rattle.std.specs.Borrow.{Bor}
use Rattle.std.specs.List.{slice_split, position, position_or_len, onto_first}
use Rattle.cet_syntax.specs.Parts.{parts_left}

-- the text from a place to the end
rest_of : (at : ℕ) (xs : List ℕ) → take (length xs - at) (drop at xs) ≡ drop at xs
rest_of at xs = ap (λ n. take n (drop at xs)) (sym (length-drop at xs)) ∙ take-length (drop at xs)

pub split_found : (xs : List ℕ) (at : ℕ) → position (λ b. b == 10) xs ≡ Some at
    → slice_split (λ b. b == 10) xs ≡ take at xs ∷ slice_split (λ b. b == 10) (take (length xs - (at + 1)) (drop (at + 1) xs))
split_found xs at e = go (nat_lt (position_or_len (λ b. b == 10) xs) (length xs)) refl e
  where
    first : ℕ
    first = position_or_len (λ b. b == 10) xs

    go : (t : Bool) → nat_lt first (length xs) ≡ t → cond t (Some first) None ≡ Some at
        → slice_split (λ b. b == 10) xs ≡ take at xs ∷ slice_split (λ b. b == 10) (take (length xs - (at + 1)) (drop (at + 1) xs))
    go true l f =
        let same : first ≡ at = cc in
        slice_split_first (λ b. b == 10) xs 0 (grind arith)
        ∙ (ap (λ n. take n xs ∷ slice_split (λ b. b == 10) (drop (n + 1) xs)) same
        ∙ ap (λ ys. take at xs ∷ slice_split (λ b. b == 10) ys) (sym (rest_of (at + 1) xs)))
    go false l f = absurd cc

-- a text without a newline is one line
pub split_none : (xs : List ℕ) → position (λ b. b == 10) xs ≡ None → slice_split (λ b. b == 10) xs ≡ xs ∷ []
split_none xs e = whole xs (go (nat_lt (position_or_len (λ b. b == 10) xs) (length xs)) refl e)
  where
    go : (t : Bool) → nat_lt (position_or_len (λ b. b == 10) xs) (length xs) ≡ t → cond t (Some (position_or_len (λ b. b == 10) xs)) None ≡ None → length xs ≤ position_or_len (λ b. b == 10) xs
    go true l f = absurd cc
    go false l f = grind arith

    whole : (ys : List ℕ) → length ys ≤ position_or_len (λ b. b == 10) ys → slice_split (λ b. b == 10) ys ≡ ys ∷ []
    whole [] h = refl
    whole (y ∷ ys) h = step (y == 10) refl h (whole ys)
      where
        step : (t : Bool) → (y == 10) ≡ t → length (y ∷ ys) ≤ cond (not t) (1 + position_or_len (λ b. b == 10) ys) 0
            → (length ys ≤ position_or_len (λ b. b == 10) ys → slice_split (λ b. b == 10) ys ≡ ys ∷ [])
            → cond t ([] ∷ slice_split (λ b. b == 10) ys) (onto_first y (slice_split (λ b. b == 10) ys)) ≡ (y ∷ ys) ∷ []
        step true k l ih = absurd (omega (arith, l))
        step false k l ih = ap (onto_first y) (ih (omega (arith, l)))

-- a text has at most one line more than bytes
pub lines_fit : (xs : List ℕ) → length (slice_split (λ b. b == 10) xs) ≤ length xs + 1
lines_fit xs = omega (arith, length-slice_split (λ b. b == 10) xs, count_by-le-length (λ b. b == 10) xs)

pub ruleset part_laws = (split_found, split_none)

-- the lines above another one are fewer than 2^32 - 1
pub one_more_line : (above : ℕ) (left : Option (Bor (List ℕ))) (text : Bor (List ℕ)) (rest : Option (Bor (List ℕ))) (source line : List ℕ)
    → above + length (parts_left left) ≡ length (slice_split (λ b. b == 10) source) → left ≡ Some text
    → slice_split (λ b. b == 10) text.now ≡ line ∷ parts_left rest → length source < 2 ^ 32 - 1 → above + 1 < 2 ^ 32
one_more_line above left text rest source line count is first small =
    omega (arith, lines_fit source, count, ap (λ o. length (parts_left o)) is, ap length first, small)
