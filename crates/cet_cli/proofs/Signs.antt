-- A text up to the first of its signs, and what stands behind it.
use Rattle.std.proofs.Common.{ℕ, suc, ◌<◌, ◌≡◌, ◌≢◌, length, get_or, arith, Bool, true, false, cond, List, [], ◌∷◌, ◌++◌, Some, None, refl, sym, ap, ◌∙◌, inl, inr}
use Rattle.std.specs.Prelude.{not, ◌==◌}
use Rattle.std.proofs.lemmas.Bool.{and_parts, ne_eqb}
use Rattle.std.proofs.lemmas.Bool.Decides.{eqb_tells}
use Rattle.cet_cli.specs.GoodTable.{has_no}
use Rattle.cet_cli.specs.Parts.{back, front}

pub not_true : (b : Bool) → not b ≡ true → b ≡ false
not_true true e = cc
not_true false e = refl

module _ (sign : ℕ) where
  pub front_whole : (cs : List ℕ) → has_no sign cs ≡ true → front sign cs ≡ cs
  front_whole [] h = refl
  front_whole (c ∷ cs) h =
      let p = and_parts (not (c == sign)) (has_no sign cs) h in
      rw (not_true (c == sign) p.0) (ap (λ (l : List ℕ). c ∷ l) (front_whole cs p.1))

  pub back_none : (cs : List ℕ) → has_no sign cs ≡ true → back sign cs ≡ None
  back_none [] h = refl
  back_none (c ∷ cs) h =
      let p = and_parts (not (c == sign)) (has_no sign cs) h in
      rw (not_true (c == sign) p.0) (back_none cs p.1)

  same_sign : sign == sign ≡ true
  same_sign = elim (eqb_tells sign sign) [ inl u ↦ u.0 | inr u ↦ absurd (u.1 refl) ]

  pub front_joined : (cs ds : List ℕ) → has_no sign cs ≡ true → front sign (cs ++ sign ∷ ds) ≡ cs
  front_joined [] ds h = rw same_sign refl
  front_joined (c ∷ cs) ds h =
      let p = and_parts (not (c == sign)) (has_no sign cs) h in
      rw (not_true (c == sign) p.0) (ap (λ (l : List ℕ). c ∷ l) (front_joined cs ds p.1))

  pub back_joined : (cs ds : List ℕ) → has_no sign cs ≡ true → back sign (cs ++ sign ∷ ds) ≡ Some ds
  back_joined [] ds h = rw same_sign refl
  back_joined (c ∷ cs) ds h =
      let p = and_parts (not (c == sign)) (has_no sign cs) h in
      rw (not_true (c == sign) p.0) (back_joined cs ds p.1)

  -- a text without the sign is its own front
  pub whole_word : (cs : List ℕ) → back sign cs ≡ None → front sign cs ≡ cs
  whole_word [] e = refl
  whole_word (c ∷ cs) e = elim (eqb_tells c sign) [
    | inl u ↦ (let f : cond true (Some cs) (back sign cs) ≡ None = rw u.0 at e in cc)
    | inr u ↦ (let f : cond false (Some cs) (back sign cs) ≡ None = rw u.0 at e in rw u.0 (ap (λ (l : List ℕ). c ∷ l) (whole_word cs f)))
  ]

  -- any other is its front, the sign, and what stands behind that
  pub parted_word : (cs ds : List ℕ) → back sign cs ≡ Some ds → cs ≡ front sign cs ++ sign ∷ ds
  parted_word [] ds e = cc
  parted_word (c ∷ cs) ds e = elim (eqb_tells c sign) [
    | inl u ↦ (
        let f : cond true (Some cs) (back sign cs) ≡ Some ds = rw u.0 at e in
        let same : cs ≡ ds = cc in
        let is : c ≡ sign = u.1 in
        rw u.0 (cc)
        )
    | inr u ↦ (let f : cond false (Some cs) (back sign cs) ≡ Some ds = rw u.0 at e in rw u.0 (ap (λ (l : List ℕ). c ∷ l) (parted_word cs ds f)))
  ]

  -- ---- a text that was split at the first of its signs

  absent : (cs : List ℕ) → ((i : ℕ) → i < length cs → get_or cs i 0 ≢ sign) → has_no sign cs ≡ true
  absent [] h = refl
  absent (c ∷ cs) h = rw (ne_eqb c sign (h 0 (omega arith))) (absent cs (λ i l. h (suc i) (omega arith)))

  pub split_front : (text before behind : List ℕ) → text ≡ before ++ sign ∷ behind → ((i : ℕ) → i < length before → get_or before i 0 ≢ sign) → before ≡ front sign text
  split_front text before behind e clear = sym (ap (front sign) e ∙ front_joined before behind (absent before clear))

  pub split_back : (text before behind : List ℕ) → text ≡ before ++ sign ∷ behind → ((i : ℕ) → i < length before → get_or before i 0 ≢ sign) → Some behind ≡ back sign text
  split_back text before behind e clear = sym (ap (back sign) e ∙ back_joined before behind (absent before clear))

  pub whole_front : (text : List ℕ) → ((i : ℕ) → i < length text → get_or text i 0 ≢ sign) → text ≡ front sign text
  whole_front text clear = sym (front_whole text (absent text clear))

  pub whole_back : (text : List ℕ) → ((i : ℕ) → i < length text → get_or text i 0 ≢ sign) → None ≡ back sign text
  whole_back text clear = sym (back_none text (absent text clear))
