-- A child is brought before the others of a view, whose order is of no account, and gets a pass of its own. Source: own.
use Rattle.std.proofs.Common.{◌≡◌, ◌≢◌, ◌⊎◌, inl, inr, ⊎_elim, ℕ, ◌+◌, ◌-◌, ◌≤◌, eqb, Bool, true, false, cond, List, [], ◌∷◌, ◌++◌, length}
use Rattle.std.proofs.Common.{set, Some, refl, sym, ap, ◌∙◌, subst, arith, eq-eqb}
use Rattle.std.proofs.lemmas.Bool.Decides.{eqb_tells}
use Rattle.std.proofs.lemmas.List.{set-get_or}
use Rattle.std.specs.Prelude.{slice_get}
use mathlib.Core.Option.{some}
use lib.ListN.{get_elem?}
use Rattle.atomic_table.specs.Table.{State, Me, Step, Allows, keeps}
use Rattle.cet_words.specs.Job.{JobData}
use Rattle.cet_page.specs.Machine.{Thread, run}
use Rattle.cet_shared.specs.Held.{Held, alone, brought, first_child, first_child_of, held, nobody, parts_of, picked, without, without_child, without_first, without_first_of}
use Rattle.cet_shared.specs.Performed.{Brings}
use Rattle.cet_shared.specs.Rule.{Among, Explained, HoldExactly, IsView, owed, times}
use Rattle.cet_shared.proofs.Counts.{among_append, among_left, among_right, one, times-append}
use Rattle.cet_shared.proofs.Holding.{number_of, same_held}
use Rattle.cet_shared.proofs.Parts as parts

-- ---- the same children in another order

times_front : (b : Bool) (n : ℕ) (x : Thread) (xs ps ws : List Thread) → times n (ps ++ ws) ≡ times n xs → times n (cond b (x ∷ []) ps ++ cond b xs (x ∷ ws)) ≡ times n (x ∷ xs)
times_front true n x xs ps ws e = refl
times_front false n x xs ps ws e =
    let k : ℕ = one (number_of x) n in
    let a = times-append n ps ws in
    let c : times n (ps ++ x ∷ ws) ≡ times n ps + (k + times n ws) = times-append n ps (x ∷ ws) in
    let sum : times n (ps ++ x ∷ ws) ≡ k + times n xs = omega arith in
    sum

pub times_brought : (n k : ℕ) (bs : List Thread) → times n (picked k bs ++ without k bs) ≡ times n bs
times_brought n k [] = refl
times_brought n k (x ∷ xs) = times_front (eqb (number_of x) k) n x xs (picked k xs) (without k xs) (times_brought n k xs)

among_front : (b : Bool) (y x : Thread) (xs ps ws : List Thread) → (Among y (ps ++ ws) → Among y xs) → Among y (cond b (x ∷ []) ps ++ cond b xs (x ∷ ws)) → Among y (x ∷ xs)
among_front true y x xs ps ws h a = a
among_front false y x xs ps ws h a = ⊎_elim
    (λ (p : Among y ps). inr (h (among_left y ps ws p)))
    (λ (p : Among y (x ∷ ws)). ⊎_elim (λ (e : x ≡ y). inl e) (λ (w : Among y ws). inr (h (among_right y ps ws w))) p)
    (among_append y ps (x ∷ ws) a)

pub among_brought : (y : Thread) (k : ℕ) (bs : List Thread) → Among y (picked k bs ++ without k bs) → Among y bs
among_brought y k [] a = a
among_brought y k (x ∷ xs) a = among_front (eqb (number_of x) k) y x xs (picked k xs) (without k xs) (among_brought y k xs) a

-- the only one with a number is picked by it
pub picked_is : (y : Thread) (k : ℕ) (bs : List Thread) → Among y bs → number_of y ≡ k → ((z : Thread) → Among z bs → number_of z ≡ k → z ≡ y) → picked k bs ≡ y ∷ []
picked_is y k [] a is once = absurd a
picked_is y k (x ∷ xs) a is once = ⊎_elim
    (λ (t : (eqb (number_of x) k ≡ true) × (number_of x ≡ k)). ap (λ b. cond b (x ∷ []) (picked k xs)) t.0 ∙ ap (λ (z : Thread). z ∷ []) (once x (inl refl) t.1))
    (λ (t : (eqb (number_of x) k ≡ false) × (number_of x ≢ k)). ap (λ b. cond b (x ∷ []) (picked k xs)) t.0 ∙ ⊎_elim
    (λ (e : x ≡ y). absurd (t.1 (ap number_of e ∙ is)))
    (λ (rest : Among y xs). picked_is y k xs rest is (λ z among. once z (inr among)))
    a)
    (eqb_tells (number_of x) k)

-- a child with the number that comes first leaves the others
pub without_head : (c : Thread) (k : ℕ) (bs : List Thread) → number_of c ≡ k → without k (c ∷ bs) ≡ bs
without_head c k bs is = ap (λ b. cond b bs (c ∷ without k bs)) (eq-eqb (number_of c) k is)

-- ---- the split of a child that was brought before the others

module _ (v : Held) (y : Thread) (k : ℕ) (one_picked : picked k v.born ≡ y ∷ []) where
  pub left_is : number_of y ≡ k → without_first (brought k v) ≡ without_child k v
  left_is is =
      ap (λ (l : List Thread). without_first_of (brought k v) (l ++ without k v.born)) one_picked
      ∙ ap (λ (n : ℕ). record { job = v.job; threads = v.threads; born = without k v.born; parts = v.parts - parts_of n }) is

  pub child_is : first_child (brought k v) ≡ alone v.job y
  child_is = ap (λ (l : List Thread). first_child_of v.job (l ++ without k v.born)) one_picked

-- ---- the look that brings it

brought_stands : (job : JobData) (count k : ℕ) (v : Held) → (v ≡ nobody) ⊎ IsView job count v → (brought k v ≡ nobody) ⊎ IsView job count (brought k v)
brought_stands job count k v (inl none) = inl (ap (brought k) none)
brought_stands job count k v (inr is) = inr record {
  knows = is.knows;
  parts = (
      let p = is.parts in
      let o = owed_brought k v.born in
      omega arith);
} where
  owed_front : (b : Bool) (x : Thread) (xs ps ws : List Thread) → owed (ps ++ ws) ≡ owed xs → owed (cond b (x ∷ []) ps ++ cond b xs (x ∷ ws)) ≡ owed (x ∷ xs)
  owed_front true x xs ps ws e = refl
  owed_front false x xs ps ws e =
      let i : ℕ = parts_of (number_of x) in
      let a = parts.owed-append ps ws in
      let c : owed (ps ++ x ∷ ws) ≡ owed ps + (i + owed ws) = parts.owed-append ps (x ∷ ws) in
      let sum : owed (ps ++ x ∷ ws) ≡ i + owed xs = omega arith in
      sum

  owed_brought : (k : ℕ) (bs : List Thread) → owed (picked k bs ++ without k bs) ≡ owed bs
  owed_brought k [] = refl
  owed_brought k (x ∷ xs) = owed_front (eqb (number_of x) k) x xs (picked k xs) (without k xs) (owed_brought k xs)

-- there are parts for each child
owed_among : (y : Thread) (bs : List Thread) → Among y bs → parts_of (number_of y) ≤ owed bs
owed_among y [] a = absurd a
owed_among y (x ∷ xs) (inl e) =
    let k : ℕ = parts_of (number_of y) in
    let i : ℕ = parts_of (number_of x) in
    let same : i ≡ k = ap (λ (t : Thread). parts_of (number_of t)) e in
    let sum : k ≤ i + owed xs = omega arith in
    sum
owed_among y (x ∷ xs) (inr a) =
    let more = owed_among y xs a in
    let i : ℕ = parts_of (number_of x) in
    let sum : parts_of (number_of y) ≤ i + owed xs = omega arith in
    sum

child_parts : (job : JobData) (count : ℕ) (v : Held) (y : Thread) → Among y v.born → (v ≡ nobody) ⊎ IsView job count v → parts_of (number_of y) ≤ v.parts
child_parts job count v y a (inl none) = absurd (subst (λ (w : Held). Among y w.born) none a)
child_parts job count v y a (inr is) = let p = is.parts in let o = owed_among y v.born a in omega arith

pub brings : {S : Type 0} (job : JobData) (id : ℕ) (me : Me S Held) (slots k : ℕ) (st : Step S) → st.word ≡ k
    → Allows (λ (s : State S Held). Explained job s.words s.views) slots id me k (λ n. n) (Brings st me)
brings job id me slots k st is s h len at fits =
    let v = me.0 in
    let threads = (run job h.start h.schedule).threads in
    let w = brought k v in
    let held_in : (y : Thread) → Among y (held w) → Among y (held v) =
    λ y a. ⊎_elim
    (λ (t : Among y v.threads). among_left y v.threads v.born t)
    (λ (t : Among y (picked k v.born ++ without k v.born)). among_right y v.threads v.born (among_brought y k v.born t))
    (among_append y v.threads (picked k v.born ++ without k v.born) a) in
    let counts : (n : ℕ) → times n (held w) ≡ times n (held v) =
    λ n. (let a = times-append n v.threads (picked k v.born ++ without k v.born) in let b = times-append n v.threads v.born in let c = times_brought n k v.born in omega arith) in
    let found : (y : Thread) → Among y v.born → number_of y ≡ k → slice_get threads k ≡ Some y =
    λ y a e. subst (λ n. slice_get threads n ≡ Some y) e (h.threads_are.each id v y at (among_right y v.threads v.born a)) in
    let alone_there : (y : Thread) → Among y v.born → number_of y ≡ k → picked k v.born ≡ y ∷ [] =
    λ y a e. picked_is y k v.born a e (λ z b q. (let both : Some z ≡ Some y = sym (found z b q) ∙ found y a e in let same : z ≡ y = cc in same)) in (
      w,
      keeps,
      tt,
      subst (λ (l : List ℕ). Explained job l (set s.views id w)) (sym (set-get_or s.words k 0)) (record {
        is_job = h.is_job;
        start = h.start;
        starts = h.starts;
        schedule = h.schedule;
        words_are = h.words_are;
        threads_are = same_held threads s.views h.threads_are id v at w held_in counts;
        views_are = parts.views_set job (length threads) s.views id w h.views_are (brought_stands job (length threads) k v (h.views_are id v at));
        parts_are = parts.parts_moved job s.views id v w at refl h.parts_are;
      }),
      (
        refl,
        ap (λ (n : ℕ). brought n v) (sym is),
        λ y a e. (
          ap (λ (n : ℕ). picked n v.born) is ∙ alone_there y a (e ∙ is),
          subst (λ (n : ℕ). parts_of n ≤ v.parts) e (child_parts job (length threads) v y a (h.views_are id v at)),
        ),
      ),
    )
