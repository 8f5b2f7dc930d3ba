-- Threads counted by their numbers, and views counted together. Source: own.
use Rattle.std.proofs.Common.{◌≡◌, ◌≢◌, ◌⊎◌, inl, inr, ⊎_elim, ℕ, zero, suc, ◌+◌, ◌<◌, ◌≤◌, eqb, Bool, cond, List, [], ◌∷◌, ◌++◌}
use Rattle.std.proofs.Common.{set, refl, sym, ap, ◌∙◌, subst, arith, eq-eqb, ne_eqb}
use Rattle.std.specs.Prelude.{nat_lt}
use Rattle.std.proofs.lemmas.Bool.Decides.{eqb_tells, nat_tests}
use mathlib.Core.Option.{some, some-ne-none, some-injective}
use lib.ListN.{get_elem?}
use Rattle.cet_page.specs.Machine.{Thread}
use Rattle.cet_shared.specs.Held.{Held}
use Rattle.cet_shared.specs.Closing.{HasNumber}
use Rattle.cet_shared.specs.Rule.{Among, times, total}

abbrev pub bit : Bool → ℕ
bit b = cond b 1 0

-- ---- a thread counts for its number

abbrev pub one : (a n : ℕ) → ℕ
one a n = bit (eqb a n)

pub one_same : (a n : ℕ) → a ≡ n → one a n ≡ 1
one_same a n e = ap bit (eq-eqb a n e)

pub one_other : (a n : ℕ) → a ≢ n → one a n ≡ 0
one_other a n e = ap bit (ne_eqb a n e)

pub one_cases : (a n : ℕ) → ((a ≡ n) × (one a n ≡ 1)) ⊎ ((a ≢ n) × (one a n ≡ 0))
one_cases a n = ⊎_elim (λ t. inl (t.1, one_same a n t.1)) (λ t. inr (t.1, one_other a n t.1)) (eqb_tells a n)

pub at_most_one : (n m : ℕ) → bit (nat_lt n m) ≤ 1
at_most_one n m = grind (arith, nat_tests)

pub one_below : (n m : ℕ) → n < m → bit (nat_lt n m) ≡ 1
one_below n m lt = grind (arith, nat_tests)

pub none_past : (n m : ℕ) → m ≤ n → bit (nat_lt n m) ≡ 0
none_past n m le = grind (arith, nat_tests)

pub below_more : (n m : ℕ) → bit (nat_lt n (m + 1)) ≡ bit (nat_lt n m) + one m n
below_more n m = ⊎_elim
    (λ (e : (m ≡ n) × (one m n ≡ 1)). let a = one_below n (m + 1) (omega arith) in let b = none_past n m (omega arith) in omega (arith, e.1))
    (λ (e : (m ≢ n) × (one m n ≡ 0)). let p = other n m e.0 in omega (arith, e.1))
    (one_cases m n)
  where
    other : (n m : ℕ) → m ≢ n → bit (nat_lt n (m + 1)) ≡ bit (nat_lt n m)
    other n m ne = grind (arith, nat_tests)

pub times-append : (n : ℕ) (xs ys : List Thread) → times n (xs ++ ys) ≡ times n xs + times n ys
times-append n [] ys = omega arith
times-append n (x ∷ xs) ys =
    let more = times-append n xs ys in
    let k : ℕ = one x.core.arch.number n in
    let sum : k + times n (xs ++ ys) ≡ (k + times n xs) + times n ys = omega arith in
    sum

-- ---- who is among threads

pub among_times : (y : Thread) (xs : List Thread) → Among y xs → 0 < times y.core.arch.number xs
among_times y [] h = absurd h
among_times y (x ∷ xs) (inl e) =
    let k : ℕ = one x.core.arch.number y.core.arch.number in
    let is : k ≡ 1 = one_same x.core.arch.number y.core.arch.number (ap (λ (t : Thread). t.core.arch.number) e) in
    let some : 0 < k + times y.core.arch.number xs = omega arith in
    some
among_times y (x ∷ xs) (inr h) =
    let more = among_times y xs h in
    let k : ℕ = one x.core.arch.number y.core.arch.number in
    let some : 0 < k + times y.core.arch.number xs = omega arith in
    some

pub times_among : (n : ℕ) (xs : List Thread) → 0 < times n xs → HasNumber n xs
times_among n [] h = absurd (omega arith)
times_among n (x ∷ xs) h = ⊎_elim
    (λ (e : (x.core.arch.number ≡ n) × (one x.core.arch.number n ≡ 1)). (x, inl refl, e.0))
    (λ (e : (x.core.arch.number ≢ n) × (one x.core.arch.number n ≡ 0)).
    let k : ℕ = one x.core.arch.number n in
    let here : 0 < k + times n xs = h in
    let none : k ≡ 0 = e.1 in
    let more = times_among n xs (omega arith) in
    (more.0, inr more.1, more.2))
    (one_cases x.core.arch.number n)

pub number_times : (n : ℕ) (xs : List Thread) → HasNumber n xs → 0 < times n xs
number_times n xs h = subst (λ i. 0 < times i xs) h.2 (among_times h.0 xs h.1)

pub among_append : (y : Thread) (xs ys : List Thread) → Among y (xs ++ ys) → Among y xs ⊎ Among y ys
among_append y [] ys h = inr h
among_append y (x ∷ xs) ys (inl e) = inl (inl e)
among_append y (x ∷ xs) ys (inr h) = ⊎_elim (λ a. inl (inr a)) (λ b. inr b) (among_append y xs ys h)

pub among_left : (y : Thread) (xs ys : List Thread) → Among y xs → Among y (xs ++ ys)
among_left y [] ys h = absurd h
among_left y (x ∷ xs) ys (inl e) = inl e
among_left y (x ∷ xs) ys (inr h) = inr (among_left y xs ys h)

pub among_right : (y : Thread) (xs ys : List Thread) → Among y ys → Among y (xs ++ ys)
among_right y [] ys h = h
among_right y (x ∷ xs) ys h = inr (among_right y xs ys h)

-- ---- a total over all views

module _ (f : Held → ℕ) where
  pub total_set : (views : List Held) (id : ℕ) (v w : Held) → get_elem? views id ≡ some v → total f (set views id w) + f v ≡ total f views + f w
  total_set [] id v w at = absurd (some-ne-none v (sym at))
  total_set (u ∷ us) zero v w at =
      let e = ap f (some-injective u v at) in
      let t : ℕ = total f us in
      let sum : (f w + t) + f v ≡ (f u + t) + f w = omega arith in
      sum
  total_set (u ∷ us) (suc id) v w at =
      let h = total_set us id v w at in
      let sum : (f u + total f (set us id w)) + f v ≡ (f u + total f us) + f w = omega arith in
      sum

  pub total_at : (views : List Held) (id : ℕ) (v : Held) → get_elem? views id ≡ some v → f v ≤ total f views
  total_at [] id v at = absurd (some-ne-none v (sym at))
  total_at (u ∷ us) zero v at = let e = ap f (some-injective u v at) in let most : f v ≤ f u + total f us = omega arith in most
  total_at (u ∷ us) (suc id) v at = let h = total_at us id v at in let most : f v ≤ f u + total f us = omega arith in most

  pub total_two : (views : List Held) (id j : ℕ) (v u : Held) → get_elem? views id ≡ some v → get_elem? views j ≡ some u → j ≢ id → f v + f u ≤ total f views
  total_two [] id j v u at there apart = absurd (some-ne-none v (sym at))
  total_two (w ∷ ws) zero zero v u at there apart = absurd (apart refl)
  total_two (w ∷ ws) zero (suc j) v u at there apart =
      let e = ap f (some-injective w v at) in
      let h = total_at ws j u there in
      let most : f v + f u ≤ f w + total f ws = omega arith in
      most
  total_two (w ∷ ws) (suc id) zero v u at there apart =
      let e = ap f (some-injective w u there) in
      let h = total_at ws id v at in
      let most : f v + f u ≤ f w + total f ws = omega arith in
      most
  total_two (w ∷ ws) (suc id) (suc j) v u at there apart =
      let h = total_two ws id j v u at there (λ e. apart (ap suc e)) in
      let most : f v + f u ≤ f w + total f ws = omega arith in
      most

  pub total_snoc : (views : List Held) (w : Held) → total f (views ++ w ∷ []) ≡ total f views + f w
  total_snoc [] w = omega arith
  total_snoc (u ∷ us) w = let h = total_snoc us w in let sum : f u + total f (us ++ w ∷ []) ≡ (f u + total f us) + f w = omega arith in sum

  pub total_none : (views : List Held) → ((j : ℕ) (u : Held) → get_elem? views j ≡ some u → f u ≡ 0) → total f views ≡ 0
  total_none [] h = refl
  total_none (u ∷ us) h =
      let first = h 0 u refl in
      let rest = total_none us (λ j w there. h (suc j) w there) in
      let sum : f u + total f us ≡ 0 = omega arith in
      sum

  -- where the others have none
  pub total_only : (views : List Held) (id : ℕ) (v : Held) → get_elem? views id ≡ some v → ((j : ℕ) (u : Held) → j ≢ id → get_elem? views j ≡ some u → f u ≡ 0) → total f views ≡ f v
  total_only [] id v at h = absurd (some-ne-none v (sym at))
  total_only (u ∷ us) zero v at h =
      let e = ap f (some-injective u v at) in
      let rest = total_none us (λ j w there. h (suc j) w (λ q. omega arith) there) in
      let sum : f u + total f us ≡ f v = omega arith in
      sum
  total_only (u ∷ us) (suc id) v at h =
      let first = h 0 u (λ q. omega arith) refl in
      let rest = total_only us id v at (λ j w ne there. h (suc j) w (λ q. ne (omega arith)) there) in
      let sum : f u + total f us ≡ f v = omega arith in
      sum
