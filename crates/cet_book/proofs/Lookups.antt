-- Which stack is a thread's, and which has its restore token at an address, without a look at each. Source: own.
use Rattle.std.proofs.Common.{◌≡◌, ℕ, ◌+◌, ◌-◌, ◌<◌, ◌≤◌, inl, inr, Bool, true, false, List, length, get_or, Option, refl, sym, ◌∙◌, ap, subst, arith}
use Rattle.std.specs.List.{position_or_len}
use Rattle.std.specs.List.Sorted.{IsNonDecreasingBy}
use Rattle.std.proofs.lemmas.Bool.{false≢true, cases_lt}
use Rattle.std.proofs.lemmas.Bool.Decides.{eqb_tells}
use Rattle.std.proofs.lemmas.List.Sorted.{IsNonDecreasingBy-from_default}
use Rattle.std.proofs.lemmas.List.Sums.{position_or_len_is}
use Rattle.cet_book.specs.Book.{Region, nowhere, top, is_current, current_of, has_token}
use Rattle.cet_book.specs.Events.{book_of}
use Rattle.cet_book.specs.Shape.{HolderFits, IsBook}
use Rattle.cet_book.proofs.Acquire.{has_token_true}
use Rattle.cet_book.proofs.Edits.{current_true}

-- where a thread is on a stack, that is its only one
pub current_is : (t at : ℕ) (R : List Region) (g : List (Option ℕ)) → IsBook (book_of R g) → is_current t (get_or R at nowhere).holder ≡ true → at ≡ position_or_len (λ r. is_current t r.holder) R
unfolding current_of
current_is t at R g h e = sym (h.shape.alone t at (current_true t (get_or R at nowhere).holder e))

pub starts_rise : (R : List Region) (g : List (Option ℕ)) → IsBook (book_of R g) → IsNonDecreasingBy (λ (r : Region). r.start) R
starts_rise R g h = IsNonDecreasingBy-from_default (λ (r : Region). r.start) R nowhere (λ i j l m. elim (eqb_tells i j) [
  | inl u ↦ let e : (get_or R i nowhere).start ≡ (get_or R j nowhere).start = ap (λ k. (get_or R k nowhere).start) u.1 in omega arith
  | inr u ↦
      let full = (h.shape.bounds i (omega arith)).full in
      let a = h.shape.apart i j (let v = u.1 in omega arith) m in
      omega arith
])

not_true : (c : Bool) → (c ≡ true → ⊥) → c ≡ false
not_true false n = refl
not_true true n = absurd (n refl)

-- of stacks of which the first `count` start at p or below, the last of these alone may have its token at p
module _ (p count : ℕ) (R : List Region) (g : List (Option ℕ)) (h : IsBook (book_of R g)) (most : count ≤ length R) (below : (k : ℕ) → k < count → (get_or R k nowhere).start ≤ p) (above : (k : ℕ) →
    count ≤ k → k < length R → p < (get_or R k nowhere).start) where
  last_alone : (i : ℕ) → i < length R → has_token p (get_or R i nowhere) ≡ true → i + 1 ≡ count
  last_alone i l e =
      let t = has_token_true p (get_or R i nowhere) e in
      let room : (get_or R i nowhere).start + 8 ≤ top (get_or R i nowhere) = subst (HolderFits (get_or R i nowhere)) t.parked (h.shape.fits i).held in
      let is = t.top_is in
      elim (cases_lt i count) [
        | inr m ↦ absurd (let a = above i m l in omega arith)
        | inl m ↦ elim (cases_lt (i + 1) count) [
          | inr n ↦ omega arith
          | inl n ↦ absurd (let a = h.shape.apart i (count - 1) (omega arith) (omega arith) in let b = below (count - 1) (omega arith) in omega arith)
        ]
      ]

  pub parked_is : 0 < count → has_token p (get_or R (count - 1) nowhere) ≡ true → count - 1 ≡ position_or_len (has_token p) R
  parked_is some e =
      sym (position_or_len_is (has_token p) R (count - 1) nowhere (omega arith)
      (λ i l. not_true (has_token p (get_or R i nowhere)) (λ x. let a = last_alone i (omega arith) x in omega arith)) (λ _. e))

  pub parked_none : (0 < count → has_token p (get_or R (count - 1) nowhere) ≡ false) → length R ≡ position_or_len (has_token p) R
  parked_none n =
      sym (position_or_len_is (has_token p) R (length R) nowhere (omega arith)
      (λ i l. not_true (has_token p (get_or R i nowhere))
      (λ x. (
      let a = last_alone i l x in
      let same : i ≡ count - 1 = omega arith in
      false≢true (sym (n (omega arith)) ∙ ap (λ k. has_token p (get_or R k nowhere)) (sym same) ∙ x))))
      (λ l. absurd (omega arith)))
