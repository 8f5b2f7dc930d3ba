-- What the views hold, after a thread moves, after a birth, and after passes split and join. Source: own.
use Rattle.std.proofs.Common.{◌≡◌, ◌≢◌, ◌⊎◌, inl, inr, ⊎_elim, ℕ, zero, suc, ◌+◌, ◌<◌, ◌≤◌, List, [], ◌∷◌, ◌++◌, length}
use Rattle.std.proofs.Common.{set, Option, Some, None, refl, sym, ap, ◌∙◌, subst, arith, length-append, length-set, append-nil}
use Rattle.std.proofs.lemmas.Option.{slice_get_within}
use Rattle.std.specs.Prelude.{nat_lt, slice_get, slice_set}
use mathlib.Core.Option.{some}
use lib.ListN.{get_elem?}
use Rattle.atomic_table.proofs.Lists.{at_set, at_snoc}
use Rattle.cet_page.specs.Core.{Core}
use Rattle.cet_page.specs.Machine.{Thread, with_child}
use Rattle.cet_page.proofs.NumberLaws.{get_born, get_last, get_other, get_same}
use Rattle.cet_shared.specs.Held.{Held, alone, first_child, held, new_thread, newborn, nobody, together, without_first, without_first_of, first_child_of}
use Rattle.cet_shared.specs.Rule.{Among, HoldExactly, times, total}
use Rattle.cet_shared.proofs.Counts.{among_append, among_left, among_right, among_times, at_most_one, below_more, bit, one, one_same, times-append, total_at, total_set, total_snoc, total_two}

abbrev pub count : ℕ → Held → ℕ
count n v = times n (held v)

abbrev pub number_of : Thread → ℕ
number_of x = x.core.arch.number

-- ---- another view in the place of one, over other threads

module _ (threads threads' : List Thread) (views : List Held) (h : HoldExactly threads views) (id : ℕ) (v w : Held) (at : get_elem? views id ≡ some v) where
  pub holds_set :
      ((y : Thread) → Among y (held w) → slice_get threads' (number_of y) ≡ Some y) →
      ((j : ℕ) (u : Held) (y : Thread) → j ≢ id → get_elem? views j ≡ some u → Among y (held u) → slice_get threads' (number_of y) ≡ Some y) →
      ((n : ℕ) → count n w + bit (nat_lt n (length threads)) ≡ count n v + bit (nat_lt n (length threads'))) → HoldExactly threads' (set views id w)
  holds_set own others counts = record {
    each = λ j u y e among. ⊎_elim
        (λ (s : (j ≡ id) × (w ≡ u)). own y (subst (λ (z : Held). Among y (held z)) (sym s.1) among))
        (λ (s : (j ≢ id) × (get_elem? views j ≡ some u)). others j u y s.0 s.1 among)
        (at_set views id j w u e);
    once = λ n.
        let t = total_set (count n) views id v w at in
        let o = h.once n in
        let c = counts n in
        let before : total (count n) views ≡ bit (nat_lt n (length threads)) = o in
        let goal : total (count n) (set views id w) ≡ bit (nat_lt n (length threads')) = omega arith in
        goal;
  }

-- ---- one access

module _ (threads : List Thread) (views : List Held) (h : HoldExactly threads views) (id : ℕ) (v w : Held) (x x' : Thread) (rest : List Thread) (child : Option Core)
    (at : get_elem? views id ≡ some v) (before : v.threads ≡ x ∷ rest) (same : number_of x' ≡ number_of x)
    (next : (core : Core) → child ≡ Some core → core.arch.number ≡ length threads) (after : w.threads ≡ x' ∷ rest) (born : w.born ≡ newborn child ++ v.born) where
  held_before : held v ≡ x ∷ (rest ++ v.born)
  held_before = ap (λ (l : List Thread). l ++ v.born) before

  held_after : held w ≡ x' ∷ (rest ++ (newborn child ++ v.born))
  held_after = ap (λ (l : List Thread). l ++ w.born) after ∙ ap (λ (l : List Thread). x' ∷ (rest ++ l)) born

  pub own_at : slice_get threads (number_of x) ≡ Some x
  own_at = h.each id v x at (subst (Among x) (sym held_before) (inl refl))

  abbrev now : List Thread
  now = with_child (slice_set threads (number_of x) x') child

  own_within : number_of x < length threads
  own_within = slice_get_within threads (number_of x) x own_at

  -- no other thread that a view holds has the number
  rest_apart : (y : Thread) → Among y (rest ++ v.born) → number_of y ≢ number_of x
  rest_apart y among e =
      let k : ℕ = one (number_of x) (number_of x) in
      let i : ℕ = times (number_of x) (rest ++ v.born) in
      let is : k ≡ 1 = one_same (number_of x) (number_of x) refl in
      let some : 0 < i = subst (λ n. 0 < times n (rest ++ v.born)) e (among_times y (rest ++ v.born) among) in
      let here : count (number_of x) v ≡ k + i = ap (times (number_of x)) held_before in
      let all = total_at (count (number_of x)) views id v at in
      let o : total (count (number_of x)) views ≡ bit (nat_lt (number_of x) (length threads)) = h.once (number_of x) in
      let m = at_most_one (number_of x) (length threads) in
      absurd (omega arith)

  else_apart : (j : ℕ) (u : Held) (y : Thread) → j ≢ id → get_elem? views j ≡ some u → Among y (held u) → number_of y ≢ number_of x
  else_apart j u y apart there among e =
      let k : ℕ = one (number_of x) (number_of x) in
      let i : ℕ = times (number_of x) (rest ++ v.born) in
      let is : k ≡ 1 = one_same (number_of x) (number_of x) refl in
      let some : 0 < count (number_of x) u = subst (λ n. 0 < times n (held u)) e (among_times y (held u) among) in
      let here : count (number_of x) v ≡ k + i = ap (times (number_of x)) held_before in
      let all = total_two (count (number_of x)) views id j v u at there apart in
      let o : total (count (number_of x)) views ≡ bit (nat_lt (number_of x) (length threads)) = h.once (number_of x) in
      let m = at_most_one (number_of x) (length threads) in
      absurd (omega arith)

  stays : (y : Thread) → number_of y ≢ number_of x → slice_get threads (number_of y) ≡ Some y → slice_get now (number_of y) ≡ Some y
  stays y apart there = get_born (slice_set threads (number_of x) x') (number_of y) y child (get_other threads (number_of x) (number_of y) x' apart ∙ there)

  own_after : (y : Thread) → x' ≡ y → slice_get now (number_of y) ≡ Some y
  own_after y is =
      let n : number_of x ≡ number_of y = sym same ∙ ap number_of is in
      subst (λ i. slice_get now i ≡ Some y) n (get_born (slice_set threads (number_of x) x') (number_of x) y child (get_same threads (number_of x) x' own_within ∙ ap Some is))

  child_after : (o : Option Core) → child ≡ o → (y : Thread) → Among y (newborn o) → slice_get (with_child (slice_set threads (number_of x) x') o) (number_of y) ≡ Some y
  child_after None e y among = absurd among
  child_after (Some core) e y (inr none) = absurd none
  child_after (Some core) e y (inl is) =
      let long : length (slice_set threads (number_of x) x') ≡ length threads = length-set threads (number_of x) x' in
      let n : length (slice_set threads (number_of x) x') ≡ number_of y = long ∙ sym (next core e) ∙ ap number_of is in
      subst (λ i. slice_get (slice_set threads (number_of x) x' ++ new_thread core ∷ []) i ≡ Some y) n (get_last (slice_set threads (number_of x) x') (new_thread core) ∙ ap Some is)

  among_after : (y : Thread) → Among y (x' ∷ (rest ++ (newborn child ++ v.born))) → slice_get now (number_of y) ≡ Some y
  among_after y (inl is) = own_after y is
  among_after y (inr there) = ⊎_elim
      (λ (a : Among y rest). other y (among_left y rest v.born a))
      (λ (a : Among y (newborn child ++ v.born)). ⊎_elim
      (λ (b : Among y (newborn child)). child_after child refl y b)
      (λ (b : Among y v.born). other y (among_right y rest v.born b))
      (among_append y (newborn child) v.born a))
      (among_append y rest (newborn child ++ v.born) there)
    where
      other : (y : Thread) → Among y (rest ++ v.born) → slice_get now (number_of y) ≡ Some y
      other y among = stays y (rest_apart y among) (h.each id v y at (subst (Among y) (sym held_before) (inr among)))

  count_child : (o : Option Core) → child ≡ o → (n : ℕ) → times n (newborn o) + bit (nat_lt n (length threads)) ≡ bit (nat_lt n (length (with_child (slice_set threads (number_of x) x') o)))
  count_child None e n =
      let k : ℕ = bit (nat_lt n (length threads)) in
      let same : k ≡ bit (nat_lt n (length (slice_set threads (number_of x) x'))) = ap (λ i. bit (nat_lt n i)) (sym (length-set threads (number_of x) x')) in
      let sum : 0 + k ≡ bit (nat_lt n (length (slice_set threads (number_of x) x'))) = omega arith in
      sum
  count_child (Some core) e n =
      let long : length (slice_set threads (number_of x) x') ≡ length threads = length-set threads (number_of x) x' in
      let more : length (slice_set threads (number_of x) x' ++ new_thread core ∷ []) ≡ length threads + 1 =
      length-append (slice_set threads (number_of x) x') (new_thread core ∷ []) ∙ ap (λ i. i + 1) long in
      let all : bit (nat_lt n (length (slice_set threads (number_of x) x' ++ new_thread core ∷ []))) ≡ bit (nat_lt n (length threads + 1)) = ap (λ i. bit (nat_lt n i)) more in
      let up = below_more n (length threads) in
      let i : ℕ = one core.arch.number n in
      let is : i ≡ one (length threads) n = ap (λ (k : ℕ). one k n) (next core e) in
      let sum : (i + 0) + bit (nat_lt n (length threads)) ≡ bit (nat_lt n (length (slice_set threads (number_of x) x' ++ new_thread core ∷ []))) = omega arith in
      sum

  count_after : (n : ℕ) → count n w + bit (nat_lt n (length threads)) ≡ count n v + bit (nat_lt n (length now))
  count_after n =
      let c = count_child child refl n in
      let k : ℕ = one (number_of x) n in
      let k' : ℕ = one (number_of x') n in
      let same_one : k' ≡ k = ap (λ (i : ℕ). one i n) same in
      let was : count n v ≡ k + times n (rest ++ v.born) = ap (times n) held_before in
      let is : count n w ≡ k' + times n (rest ++ (newborn child ++ v.born)) = ap (times n) held_after in
      let a = times-append n rest v.born in
      let b = times-append n rest (newborn child ++ v.born) in
      let d = times-append n (newborn child) v.born in
      omega arith

  pub moves_on : HoldExactly now (set views id w)
  moves_on = holds_set threads now views h id v w at
      (λ y among. among_after y (subst (Among y) held_after among))
      (λ j u y apart there among. stays y (else_apart j u y apart there among) (h.each j u y there among))
      count_after

-- ---- the same threads, in other views

module _ (threads : List Thread) (views : List Held) (h : HoldExactly threads views) (id : ℕ) (v : Held) (at : get_elem? views id ≡ some v) where
  -- the order in a view is of no account
  pub same_held : (w : Held) → ((y : Thread) → Among y (held w) → Among y (held v)) → ((n : ℕ) → count n w ≡ count n v) → HoldExactly threads (set views id w)
  same_held w among counts = holds_set threads threads views h id v w at
      (λ y a. h.each id v y at (among y a))
      (λ j u y apart there a. h.each j u y there a)
      (λ n. ap (λ (k : ℕ). k + bit (nat_lt n (length threads))) (counts n))

  count_cut : (n : ℕ) (bs : List Thread) → v.born ≡ bs → count n (without_first_of v bs) + count n (first_child_of v.job bs) ≡ count n v
  count_cut n [] e = let k : ℕ = count n v in let sum : k + 0 ≡ k = omega arith in sum
  count_cut n (b ∷ bs) e =
      let k : ℕ = one (number_of b) n in
      let was : count n v ≡ times n (v.threads ++ b ∷ bs) = ap (λ (l : List Thread). times n (v.threads ++ l)) e in
      let a : times n (v.threads ++ b ∷ bs) ≡ times n v.threads + (k + times n bs) = times-append n v.threads (b ∷ bs) in
      let c = times-append n v.threads bs in
      let sum : times n (v.threads ++ bs) + (k + 0) ≡ count n v = omega arith in
      sum

  among_rest : (y : Thread) (bs : List Thread) → v.born ≡ bs → Among y (held (without_first_of v bs)) → Among y (held v)
  among_rest y [] e a = a
  among_rest y (b ∷ bs) e a = ⊎_elim
      (λ (t : Among y v.threads). among_left y v.threads v.born t)
      (λ (t : Among y bs). among_right y v.threads v.born (subst (Among y) (sym e) (inr t)))
      (among_append y v.threads bs a)

  among_first : (y : Thread) (bs : List Thread) → v.born ≡ bs → Among y (held (first_child_of v.job bs)) → Among y (held v)
  among_first y [] e a = absurd a
  among_first y (b ∷ bs) e (inl is) = among_right y v.threads v.born (subst (Among y) (sym e) (inl is))
  among_first y (b ∷ bs) e (inr none) = absurd none

  -- the first child has the number of a thread
  pub first_low : (b : Thread) (rest : List Thread) → v.born ≡ b ∷ rest → number_of b < length threads
  first_low b rest e = slice_get_within threads (number_of b) b (h.each id v b at (among_right b v.threads v.born (subst (Among b) (sym e) (inl refl))))

  -- a child gets a pass of its own
  pub cuts : HoldExactly threads (set views id (without_first v) ++ first_child v ∷ [])
  cuts = record {
    each = λ j u y e among. ⊎_elim
        (λ (was : get_elem? (set views id (without_first v)) j ≡ some u). ⊎_elim
        (λ (s : (j ≡ id) × (without_first v ≡ u)). h.each id v y at (among_rest y v.born refl (subst (λ (w : Held). Among y (held w)) (sym s.1) among)))
        (λ (s : (j ≢ id) × (get_elem? views j ≡ some u)). h.each j u y s.1 among)
        (at_set views id j (without_first v) u was))
        (λ (new : first_child v ≡ u). h.each id v y at (among_first y v.born refl (subst (λ (w : Held). Among y (held w)) (sym new) among)))
        (at_snoc (set views id (without_first v)) (first_child v) u j e);
    once = λ n.
        let t = total_set (count n) views id v (without_first v) at in
        let s = total_snoc (count n) (set views id (without_first v)) (first_child v) in
        let o : total (count n) views ≡ bit (nat_lt n (length threads)) = h.once n in
        let c = count_cut n v.born refl in
        let goal : total (count n) (set views id (without_first v) ++ first_child v ∷ []) ≡ bit (nat_lt n (length threads)) = omega arith in
        goal;
  }

-- ---- two passes become one

module _ (threads : List Thread) (views : List Held) (h : HoldExactly threads views) (id other : ℕ) (v w : Held)
    (at : get_elem? views id ≡ some v) (there : get_elem? views other ≡ some w) (there' : get_elem? (set views id (together v w)) other ≡ some w) where
  count_both : (n : ℕ) → count n (together v w) ≡ count n v + count n w
  count_both n =
      let a = times-append n v.threads v.born in
      let b = times-append n w.threads w.born in
      let c = times-append n (v.threads ++ w.threads) (v.born ++ w.born) in
      let d = times-append n v.threads w.threads in
      let e = times-append n v.born w.born in
      omega arith

  among_both : (y : Thread) → Among y (held (together v w)) → Among y (held v) ⊎ Among y (held w)
  among_both y among = ⊎_elim
      (λ (a : Among y (v.threads ++ w.threads)). ⊎_elim
      (λ (b : Among y v.threads). inl (among_left y v.threads v.born b))
      (λ (b : Among y w.threads). inr (among_left y w.threads w.born b))
      (among_append y v.threads w.threads a))
      (λ (a : Among y (v.born ++ w.born)). ⊎_elim
      (λ (b : Among y v.born). inl (among_right y v.threads v.born b))
      (λ (b : Among y w.born). inr (among_right y w.threads w.born b))
      (among_append y v.born w.born a))
      (among_append y (v.threads ++ w.threads) (v.born ++ w.born) among)

  pub joins : HoldExactly threads (set (set views id (together v w)) other nobody)
  joins = record {
    each = λ j u y e among. ⊎_elim
        (λ (s : (j ≡ other) × (nobody ≡ u)). absurd (subst (λ (z : Held). Among y (held z)) (sym s.1) among))
        (λ (s : (j ≢ other) × (get_elem? (set views id (together v w)) j ≡ some u)). ⊎_elim
        (λ (q : (j ≡ id) × (together v w ≡ u)). ⊎_elim (λ (b : Among y (held v)). h.each id v y at b) (λ (b : Among y (held w)). h.each other w y there b)
        (among_both y (subst (λ (z : Held). Among y (held z)) (sym q.1) among)))
        (λ (q : (j ≢ id) × (get_elem? views j ≡ some u)). h.each j u y q.1 among)
        (at_set views id j (together v w) u s.1))
        (at_set (set views id (together v w)) other j nobody u e);
    once = λ n.
        let t = total_set (count n) views id v (together v w) at in
        let t' = total_set (count n) (set views id (together v w)) other w nobody there' in
        let o : total (count n) views ≡ bit (nat_lt n (length threads)) = h.once n in
        let b = count_both n in
        let none : count n nobody ≡ 0 = refl in
        let goal : total (count n) (set (set views id (together v w)) other nobody) ≡ bit (nat_lt n (length threads)) = omega arith in
        goal;
  }
