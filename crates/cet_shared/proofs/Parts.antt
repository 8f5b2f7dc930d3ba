-- All parts stay among the views, and each view keeps enough for the threads that may be born after it. Source: own.
use Rattle.std.proofs.Common.{◌≡◌, ◌≢◌, ◌⊎◌, inl, inr, ⊎_elim, ℕ, zero, suc, ◌+◌, ◌-◌, ◌*◌, ◌^◌, ◌<◌, ◌≤◌, List, [], ◌∷◌, ◌++◌, length}
use Rattle.std.proofs.Common.{set, Option, Some, None, refl, sym, ap, ◌∙◌, subst, arith, length-append, length-set}
use Rattle.std.proofs.Math.Pow.{pow_mono}
use Rattle.std.proofs.Math.Nat.{pow-succ'}
use mathlib.Core.Option.{some}
use lib.ListN.{get_elem?}
use Rattle.atomic_table.proofs.Lists.{at_set, at_snoc}
use Rattle.cet_words.specs.Job.{JobData}
use Rattle.cet_words.specs.Layout.{thread_limit}
use Rattle.cet_page.specs.Core.{Core}
use Rattle.cet_page.specs.Machine.{Thread}
use Rattle.cet_shared.specs.Held.{Held, alone, first_child, first_child_of, held, newborn, nobody, parts_of, together, whole, without_first, without_first_of}
use Rattle.cet_shared.specs.Rule.{AreViews, IsView, owed, total}
use Rattle.cet_shared.proofs.Counts.{total_set, total_snoc}

abbrev pub parts : Held → ℕ
parts v = v.parts

abbrev pub reserve : (count : ℕ) → ℕ
reserve count = 2 ^ (thread_limit - count)

-- the next thread gets half of what is reserved
pub halved : (count : ℕ) → count < thread_limit → reserve count ≡ parts_of count + parts_of count
halved count lt =
    let e : thread_limit - count ≡ suc (thread_limit - 1 - count) = omega arith in
    let k : ℕ = parts_of count in
    let two : reserve count ≡ 2 * k = ap (λ i. 2 ^ i) e ∙ pow-succ' 2 (thread_limit - 1 - count) in
    omega arith

pub reserve_falls : (count more : ℕ) → count ≤ more → reserve more ≤ reserve count
reserve_falls count more le = pow_mono (omega arith)

-- and that is enough for those after it
pub reserve_below : (number count : ℕ) → number < count → reserve count ≤ parts_of number
reserve_below number count lt = pow_mono (omega arith)

pub reserve_next : (count : ℕ) → reserve (count + 1) ≡ parts_of count
reserve_next count = let e : thread_limit - (count + 1) ≡ thread_limit - 1 - count = omega arith in ap (λ i. 2 ^ i) e

pub owed-append : (xs ys : List Thread) → owed (xs ++ ys) ≡ owed xs + owed ys
owed-append [] ys = omega arith
owed-append (x ∷ xs) ys =
    let more = owed-append xs ys in
    let k : ℕ = parts_of x.core.arch.number in
    let sum : k + owed (xs ++ ys) ≡ (k + owed xs) + owed ys = omega arith in
    sum

module _ (job : JobData) where
  abbrev pub Stands : ℕ → Held → Type 0
  Stands count v = (v ≡ nobody) ⊎ IsView job count v

  pub views_set : (count : ℕ) (views : List Held) (id : ℕ) (w : Held) → AreViews job count views → Stands count w → AreViews job count (set views id w)
  views_set count views id w all is j u e = ⊎_elim
      (λ (s : (j ≡ id) × (w ≡ u)). subst (Stands count) s.1 is)
      (λ (s : (j ≢ id) × (get_elem? views j ≡ some u)). all j u s.1)
      (at_set views id j w u e)

  later : (count more : ℕ) (v : Held) → count ≤ more → Stands count v → Stands more v
  later count more v le (inl none) = inl none
  later count more v le (inr is) = inr (record { knows = is.knows; parts = (let p = is.parts in let f = reserve_falls count more le in omega arith) })

  pub views_later : (count more : ℕ) (views : List Held) → count ≤ more → AreViews job count views → AreViews job more views
  views_later count more views le all j u e = later count more u le (all j u e)

  pub is_view : (count : ℕ) (v : Held) (x : Thread) (rest : List Thread) → v.threads ≡ x ∷ rest → Stands count v → IsView job count v
  is_view count v x rest own (inl none) = (let same : [] ≡ x ∷ rest = sym (ap (λ (z : Held). z.threads) none) ∙ own in cc)
  is_view count v x rest own (inr is) = is

  -- ---- one access

  pub born_view : (count : ℕ) (v w : Held) (child : Option Core) → IsView job count v → w.job ≡ v.job → w.parts ≡ v.parts → w.born ≡ newborn child ++ v.born →
      ((core : Core) → child ≡ Some core → (core.arch.number ≡ count) × (count < thread_limit)) → IsView job (count + length (newborn child)) w
  born_view count v w None is job' parts' born' next = record {
    knows = job' ∙ is.knows;
    parts = (
        let p = is.parts in
        let o : owed w.born ≡ owed v.born = ap owed born' in
        let same : reserve (count + 0) ≡ reserve count = (let e : count + 0 ≡ count = omega arith in ap reserve e) in
        let sum : owed w.born + reserve (count + 0) ≤ w.parts = omega arith in
        sum);
  }
  born_view count v w (Some core) is job' parts' born' next = record {
    knows = job' ∙ is.knows;
    parts = (
        let p = is.parts in
        let n = next core refl in
        let k : ℕ = parts_of core.arch.number in
        let o : owed w.born ≡ k + owed v.born = ap owed born' in
        let mine : k ≡ parts_of count = ap parts_of n.0 in
        let half = halved count n.1 in
        let after = reserve_next count in
        let sum : owed w.born + reserve (count + 1) ≤ w.parts = omega arith in
        sum);
  }

  pub parts_moved : (views : List Held) (id : ℕ) (v w : Held) → get_elem? views id ≡ some v → w.parts ≡ v.parts → total parts views ≡ whole → total parts (set views id w) ≡ whole
  parts_moved views id v w at same all = let t = total_set parts views id v w at in omega arith

  -- ---- a child gets a pass of its own

  module _ (count : ℕ) (views : List Held) (id : ℕ) (v : Held) (at : get_elem? views id ≡ some v) (all : AreViews job count views) where
    left_view : (bs : List Thread) → v.born ≡ bs → Stands count v → Stands count (without_first_of v bs)
    left_view [] e is = is
    left_view (b ∷ bs) e (inl none) = (let same : [] ≡ b ∷ bs = sym (ap (λ (z : Held). z.born) none) ∙ e in cc)
    left_view (b ∷ bs) e (inr is) = inr record {
      knows = is.knows;
      parts = (
          let p = is.parts in
          let k : ℕ = parts_of b.core.arch.number in
          let o : owed v.born ≡ k + owed bs = ap owed e in
          let sum : owed bs + reserve count ≤ v.parts - k = omega arith in
          sum);
    }

    child_view : (bs : List Thread) → v.born ≡ bs → ((b : Thread) (rest : List Thread) → bs ≡ b ∷ rest → b.core.arch.number < count) → Stands count v → Stands count (first_child_of v.job bs)
    child_view [] e low is = inl refl
    child_view (b ∷ bs) e low (inl none) = (let same : [] ≡ b ∷ bs = sym (ap (λ (z : Held). z.born) none) ∙ e in cc)
    child_view (b ∷ bs) e low (inr is) = inr record {
      knows = is.knows;
      parts = (let r = reserve_below b.core.arch.number count (low b bs refl) in let sum : 0 + reserve count ≤ parts_of b.core.arch.number = omega arith in sum);
    }

    pub views_cut : ((b : Thread) (rest : List Thread) → v.born ≡ b ∷ rest → b.core.arch.number < count) → AreViews job count (set views id (without_first v) ++ first_child v ∷ [])
    views_cut low j u e = ⊎_elim
        (λ (was : get_elem? (set views id (without_first v)) j ≡ some u). views_set count views id (without_first v) all (left_view v.born refl (all id v at)) j u was)
        (λ (new : first_child v ≡ u). subst (Stands count) new (child_view v.born refl low (all id v at)))
        (at_snoc (set views id (without_first v)) (first_child v) u j e)

    sum_cut : (bs : List Thread) → v.born ≡ bs → Stands count v → parts (without_first_of v bs) + parts (first_child_of v.job bs) ≡ parts v
    sum_cut [] e is = let k : ℕ = v.parts in let sum : k + 0 ≡ k = omega arith in sum
    sum_cut (b ∷ bs) e (inl none) = (let same : [] ≡ b ∷ bs = sym (ap (λ (z : Held). z.born) none) ∙ e in cc)
    sum_cut (b ∷ bs) e (inr is) =
        let p = is.parts in
        let k : ℕ = parts_of b.core.arch.number in
        let o : owed v.born ≡ k + owed bs = ap owed e in
        let sum : (v.parts - k) + k ≡ v.parts = omega arith in
        sum

    pub parts_cut : total parts views ≡ whole → total parts (set views id (without_first v) ++ first_child v ∷ []) ≡ whole
    parts_cut same =
        let t = total_set parts views id v (without_first v) at in
        let n = total_snoc parts (set views id (without_first v)) (first_child v) in
        let s = sum_cut v.born refl (all id v at) in
        omega arith

  -- ---- two passes become one

  module _ (count : ℕ) (views : List Held) (id other : ℕ) (v w : Held) (at : get_elem? views id ≡ some v) (there : get_elem? views other ≡ some w)
      (there' : get_elem? (set views id (together v w)) other ≡ some w) (all : AreViews job count views) (is : IsView job count v) where
    both_view : Stands count w → IsView job count (together v w)
    both_view (inl none) = record {
      knows = is.knows;
      parts = (
          let p = is.parts in
          let o = owed-append v.born w.born in
          let z : owed w.born ≡ 0 = ap (λ (u : Held). owed u.born) none in
          let sum : owed (v.born ++ w.born) + reserve count ≤ v.parts + w.parts = omega arith in
          sum);
    }
    both_view (inr is') = record {
      knows = is.knows;
      parts = (
          let p = is.parts in
          let p' = is'.parts in
          let o = owed-append v.born w.born in
          let sum : owed (v.born ++ w.born) + reserve count ≤ v.parts + w.parts = omega arith in
          sum);
    }

    pub views_joined : AreViews job count (set (set views id (together v w)) other nobody)
    views_joined = views_set count (set views id (together v w)) other nobody (views_set count views id (together v w) all (inr (both_view (all other w there)))) (inl refl)

    pub parts_joined : total parts views ≡ whole → total parts (set (set views id (together v w)) other nobody) ≡ whole
    parts_joined same =
        let t = total_set parts views id v (together v w) at in
        let t' = total_set parts (set views id (together v w)) other w nobody there' in
        let none : parts nobody ≡ 0 = refl in
        omega arith
