-- Numbers of elements, and lists of words. Source: own.
use Rattle.std.proofs.Common.{◌≡◌, ℕ, zero, suc, ◌+◌, ◌-◌, ◌*◌, ◌<◌, ◌≤◌, Bool, true, false, List, [], ◌∷◌, length, get_or, set, drop, replicate, refl, ◌∙◌, ap, eqb, arith, inl, inr}
use Rattle.std.specs.List.{AllByRecursion, list_any}
use Rattle.std.proofs.lemmas.Bool.Decides.{eqb_tells}
use Rattle.std.proofs.lemmas.Grind.{get_or_default_zero}
use Rattle.std.proofs.lemmas.Map.Keys.{IsDistinct-from_apart}
use Rattle.std.proofs.lemmas.Map.Steps.{length-le_from_distinct_below}
use Rattle.cet_book.specs.declared.entries.Entry.{Entry}
use Rattle.cet_book.specs.Facts.{one, Stack}
use Rattle.cet_book.specs.Stack.{slot_word, words_of}
use Rattle.cet_book.specs.View.{words_from}

-- the number of elements that pass a test
pub counted : {X : Type 0} (p : X → Bool) → List X → ℕ
counted p [] = 0
counted p (x ∷ xs) = one (p x) + counted p xs

pub counted_set : {X : Type 0} (p : X → Bool) (xs : List X) (i : ℕ) (y d : X) → i < length xs → counted p (set xs i y) + one (p (get_or xs i d)) ≡ counted p xs + one (p y)
unfolding counted
counted_set p [] i y d l = absurd (omega arith)
counted_set p (x ∷ xs) zero y d l = omega arith
counted_set p (x ∷ xs) (suc i) y d l = let r = counted_set p xs i y d (omega arith) in omega arith

one_le : (c : Bool) → one c ≤ 1
one_le true = omega arith
one_le false = omega arith

pub counted_le : {X : Type 0} (p : X → Bool) (xs : List X) → counted p xs ≤ length xs
unfolding counted
counted_le p [] = omega arith
counted_le p (x ∷ xs) = let r = counted_le p xs in let s = one_le (p x) in omega arith

pub counted_none : {X : Type 0} (p : X → Bool) (x : X) (n : ℕ) → p x ≡ false → counted p (replicate n x) ≡ 0
unfolding counted
counted_none p x zero e = refl
counted_none p x (suc n) e = let z : one (p x) ≡ 0 = ap one e in let r = counted_none p x n e in omega arith

pub all_at : {X : Type 0} (P : X → Type 0) (xs : List X) (i : ℕ) (d : X) → AllByRecursion P xs → i < length xs → P (get_or xs i d)
all_at P [] i d h l = absurd (omega arith)
all_at P (x ∷ xs) zero d h l = h.0
all_at P (x ∷ xs) (suc i) d h l = all_at P xs i d h.1 (omega arith)

below_any : (n : ℕ) (xs : List ℕ) → ((k : ℕ) → k < length xs → get_or xs k 0 < n) → (q : ℕ) → list_any (eqb q) xs ≡ true → q < n
below_any n [] h q e = absurd (cc)
below_any n (x ∷ xs) h q e = elim (eqb_tells q x) [
  | inl u ↦ let l = h 0 (omega arith) in let s = u.1 in omega arith
  | inr u ↦ below_any n xs (λ k l. h (suc k) (omega arith)) q (rw u.0 at e)
]

-- at most n numbers below n are apart
pub few : (n : ℕ) (xs : List ℕ) → ((k : ℕ) → k < length xs → get_or xs k 0 < n) → ((i j : ℕ) → i < length xs → j < length xs → get_or xs i 0 ≡ get_or xs j 0 → i ≡ j) → length xs ≤ n
few n xs below apart =
    length-le_from_distinct_below xs n
    (IsDistinct-from_apart eqb xs (λ i j d l m. elim (eqb_tells (get_or xs i d) (get_or xs j d)) [
      | inl u ↦ absurd (let e = apart i j (omega arith) m (let p = get_or_default_zero xs i d (omega arith) in let q = get_or_default_zero xs j d m in cc) in omega arith)
      | inr u ↦ u.0
    ]))
    (below_any n xs below)

pub words_length : (words : List ℕ) (addr count : ℕ) → length (words_from words addr count) ≡ count
unfolding words_from
words_length words addr zero = refl
words_length words addr (suc count) = ap suc (words_length words (addr + 8) count)

pub words_at : (words : List ℕ) (addr count i : ℕ) → i < count → get_or (words_from words addr count) i 0 ≡ slot_word words (addr + 8 * i)
unfolding words_from
words_at words addr zero i l = absurd (omega arith)
words_at words addr (suc count) zero l = ap (slot_word words) (omega arith)
words_at words addr (suc count) (suc i) l = words_at words (addr + 8) count i (omega arith) ∙ ap (slot_word words) (omega arith)

pub words_drop : (words : List ℕ) (addr count i : ℕ) → i ≤ count → drop i (words_from words addr count) ≡ words_from words (addr + 8 * i) (count - i)
unfolding words_from
words_drop words addr count zero l = let a : addr + 8 * 0 ≡ addr = omega arith in let c : count - 0 ≡ count = omega arith in rw (a, c) refl
words_drop words addr zero (suc i) l = absurd (omega arith)
words_drop words addr (suc count) (suc i) l = let a : addr + 8 * suc i ≡ addr + 8 + 8 * i = omega arith in let c : suc count - suc i ≡ count - i = omega arith in rw (a, c) (words_drop words (addr + 8) count i (omega arith))

pub stack_words : (words : List ℕ) (tops : ℕ → ℕ) (addr : ℕ) (es : List Entry) → Stack words tops addr es → words_from words addr (length es) ≡ words_of tops addr es
unfolding words_from
stack_words words tops addr [] h = refl
stack_words words tops addr (e ∷ es) h = rw (h.0, stack_words words tops (addr + 8) es h.1) refl
