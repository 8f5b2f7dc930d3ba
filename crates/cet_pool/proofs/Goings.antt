-- How passes go on: one after another, side by side, in another order, and by one access. Source: own.
use Rattle.std.proofs.Common.{◌≡◌, ◌⊎◌, inl, inr, ⊎_elim, ℕ, zero, suc, ◌+◌, ◌-◌, ◌*◌, ◌^◌, ◌<◌, ◌≤◌, List, [], ◌∷◌, ◌++◌, Option, Some, None, refl, sym, ap, ◌∙◌, subst, arith, length, get_or}
use Rattle.std.specs.Prelude.{sum_by}
use Rattle.std.specs.List.{Contains}
use Rattle.std.specs.List.Sorted.{IsPermutation}
use Rattle.std.proofs.lemmas.List.Elements.{Contains-append_cases, Contains-append_left, Contains-append_right, Contains-push, Contains-push_cases}
use Rattle.std.proofs.lemmas.List.Sorted.{Contains-permutation, IsPermutation-append_comm, IsPermutation-sym, sum_by-IsPermutation}
use Rattle.std.proofs.lemmas.List.Sums.{sum_by-append}
use Rattle.std.proofs.Math.Nat.{mul-le-mul_right, mul-le-mul_left, pow-succ'}
use Rattle.std.proofs.lemmas.Nat.{pow-add}
use native.Mathlib.Numerals.{unary_clauses}
use Rattle.cet_words.specs.Job.{JobData}
use Rattle.cet_pool.specs.declared.lives.Live.{Live}
use Rattle.cet_pool.specs.Going.{Goes, Numbers, OfOne, Tells, own, weigh, weight}

-- ---- one of the passes

pub one_left : (P : Live → Type 0) (xs ys : List Live) → OfOne P xs → OfOne P (xs ++ ys)
one_left P xs ys h = (h.0, Contains-append_left xs ys h.0 h.1, h.2)

pub one_right : (P : Live → Type 0) (xs ys : List Live) → OfOne P ys → OfOne P (xs ++ ys)
one_right P xs ys h = (h.0, Contains-append_right xs ys h.0 h.1, h.2)

pub one_append : (P : Live → Type 0) (xs ys : List Live) → OfOne P (xs ++ ys) → OfOne P xs ⊎ OfOne P ys
one_append P xs ys h = ⊎_elim (λ (a : Contains xs h.0). inl (h.0, a, h.2)) (λ (b : Contains ys h.0). inr (h.0, b, h.2)) (Contains-append_cases xs ys h.0 h.1)

pub one_moved : (P : Live → Type 0) (xs ys : List Live) → IsPermutation xs ys → OfOne P xs → OfOne P ys
one_moved P xs ys m h = (h.0, Contains-permutation xs ys h.0 m h.1, h.2)

pub one_of_none : (P : Live → Type 0) → OfOne P [] → ⊥
one_of_none P h = let k = h.1.0 in let l = h.1.1 in absurd (omega arith)

pub one_here : (P : Live → Type 0) (x : Live) → P x → OfOne P (x ∷ [])
one_here P x p = (x, Contains-push [] x, p)

pub one_is : (P : Live → Type 0) (x : Live) → OfOne P (x ∷ []) → P x
one_is P x h = ⊎_elim (λ (a : Contains [] h.0). absurd (one_of_none P (h.0, a, h.2))) (λ (e : x ≡ h.0). subst P (sym e) h.2) (Contains-push_cases [] x h.0 h.1)

-- ---- one after another, and side by side

abbrev pub weigh_one : JobData → Live → ℕ
weigh_one job x = weight job (own x).core

module _ (job : JobData) where
  pub goes_moved : (xs ys : List Live) → IsPermutation xs ys → Goes job 0 xs ys
  goes_moved xs ys m = record {
    kept = λ n h. one_moved (Numbers n) xs ys m h;
    told = λ n h. inl (one_moved (Tells job n) ys xs (IsPermutation-sym xs ys m) h);
    falls = (let e = sum_by-IsPermutation (weigh_one job) xs ys m in omega arith);
  }

  pub goes_none : (xs : List Live) → Goes job 0 xs xs
  goes_none xs = record { kept = λ n h. h; told = λ n h. inl h; falls = omega arith }

  pub goes_then : (j k : ℕ) (xs ys zs : List Live) → Goes job j xs ys → Goes job k ys zs → Goes job (j + k) xs zs
  goes_then j k xs ys zs g h = record {
    kept = λ n a. h.kept n (g.kept n a);
    told = λ n t. ⊎_elim
        (λ (y : OfOne (Tells job n) ys). ⊎_elim
        (λ (x : OfOne (Tells job n) xs). inl x)
        (λ (b : OfOne (Numbers n) ys). inr (h.kept n b))
        (g.told n y))
        (λ (b : OfOne (Numbers n) zs). inr b)
        (h.told n t);
    falls = (let a = g.falls in let b = h.falls in omega arith);
  }

  pub goes_less : (j k : ℕ) (xs ys : List Live) → j ≤ k → Goes job k xs ys → Goes job j xs ys
  goes_less j k xs ys le g = record { kept = g.kept; told = g.told; falls = (let a = g.falls in omega arith) }

  pub goes_beside : (j k : ℕ) (xs ys xs' ys' : List Live) → Goes job j xs ys → Goes job k xs' ys' → Goes job (j + k) (xs ++ xs') (ys ++ ys')
  goes_beside j k xs ys xs' ys' g h = record {
    kept = λ n a. ⊎_elim
        (λ (b : OfOne (Numbers n) xs). one_left (Numbers n) ys ys' (g.kept n b))
        (λ (b : OfOne (Numbers n) xs'). one_right (Numbers n) ys ys' (h.kept n b))
        (one_append (Numbers n) xs xs' a);
    told = λ n t. ⊎_elim
        (λ (b : OfOne (Tells job n) ys). ⊎_elim
        (λ (x : OfOne (Tells job n) xs). inl (one_left (Tells job n) xs xs' x))
        (λ (c : OfOne (Numbers n) ys). inr (one_left (Numbers n) ys ys' c))
        (g.told n b))
        (λ (b : OfOne (Tells job n) ys'). ⊎_elim
        (λ (x : OfOne (Tells job n) xs'). inl (one_right (Tells job n) xs xs' x))
        (λ (c : OfOne (Numbers n) ys'). inr (one_right (Numbers n) ys ys' c))
        (h.told n b))
        (one_append (Tells job n) ys ys' t);
    falls = (let a = g.falls in let b = h.falls in omega (arith, sum_by-append (weigh_one job) xs xs', sum_by-append (weigh_one job) ys ys'));
  }

  -- in another order before and after
  pub goes_as : (k : ℕ) (xs xs' ys ys' : List Live) → IsPermutation xs' xs → IsPermutation ys ys' → Goes job k xs ys → Goes job k xs' ys'
  goes_as k xs xs' ys ys' m n g =
      goes_less k (0 + (k + 0)) xs' ys' (omega arith) (goes_then 0 (k + 0) xs' xs ys' (goes_moved xs' xs m) (goes_then k 0 xs ys ys' g (goes_moved ys ys' n)))

-- ---- powers

pos_mul : (a b : ℕ) → 0 < a → 0 < b → 0 < a * b
pos_mul zero b h k = absurd (omega arith)
pos_mul (suc a) b h k = let m : suc zero * b ≤ suc a * b = mul-le-mul_right b (omega arith) in let o : suc zero * b ≡ b = omega arith in omega arith

pub pow_above : (b k : ℕ) → 0 < b → 0 < b ^ k
pow_above b zero h = let e : b ^ zero ≡ suc zero = simp unary_clauses in omega arith
pow_above b (suc k) h = let m = pos_mul b (b ^ k) h (pow_above b k h) in omega (arith, pow-succ' b k)

pub pow_up : (b i j : ℕ) → 0 < b → i ≤ j → b ^ i ≤ b ^ j
pow_up b i j h le =
    let e : i + (j - i) ≡ j = omega arith in
    let m : b ^ i * suc zero ≤ b ^ i * b ^ (j - i) = mul-le-mul_left (b ^ i) (pow_above b (j - i) h) in
    let o : b ^ i * suc zero ≡ b ^ i = omega arith in
    omega (arith, pow-add b i (j - i), ap (λ (n : ℕ). b ^ n) e)
