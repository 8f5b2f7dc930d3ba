-- A pass that has gathered ended threads, thread 0 and all that their records name among them, has gathered all. Source: own.
use Rattle.std.proofs.Common.{◌≡◌, ◌≢◌, ◌⊎◌, inl, inr, ⊎_elim, ℕ, zero, suc, ◌+◌, ◌<◌, ◌≤◌, Bool, true, List, [], ◌∷◌, length}
use Rattle.std.proofs.Common.{Some, None, refl, sym, ap, ◌∙◌, subst, arith, get_or}
use Rattle.std.proofs.lemmas.Bool.{cases_lt}
use Rattle.std.specs.Prelude.{nat_lt, slice_get}
use borrow.Author.Tests.{lt-ltb, ltb-true}
use mathlib.Core.Option.{some, some-ne-none, some-injective}
use lib.ListN.{get_elem?}
use Rattle.cet_words.specs.Job.{JobData}
use Rattle.cet_page.specs.Machine.{Thread, run}
use Rattle.cet_page.specs.Numbered.{AreClosed, Names}
use Rattle.cet_own.proofs.Naming.{reached_run}
use Rattle.cet_shared.specs.Closing.{AreAll, HasNumber, IsRun}
use Rattle.cet_shared.specs.Held.{Held, held}
use Rattle.cet_shared.specs.Rule.{Among, Explained, HoldExactly, times, total}
use Rattle.cet_shared.proofs.Counts.{among_left, at_most_one, bit, none_past, number_times, one_below, times-append, times_among, total_at}
use Rattle.cet_shared.proofs.Holding.{count, number_of}

module _ (threads : List Thread) (views : List Held) (h : HoldExactly threads views) (id : ℕ) (v : Held) (at : get_elem? views id ≡ some v) (all : AreAll v.threads) where
  -- whether a number is that of a thread which was gathered
  abbrev has : ℕ → Bool
  has n = nat_lt 0 (times n v.threads)

  has_number : (n : ℕ) → HasNumber n v.threads → has n ≡ true
  has_number n there = lt-ltb 0 (times n v.threads) (number_times n v.threads there)

  number_has : (n : ℕ) → has n ≡ true → HasNumber n v.threads
  number_has n e = times_among n v.threads (ltb-true 0 (times n v.threads) e)

  -- the thread at a place whose number was gathered is the one that was gathered
  same_thread : (t : ℕ) (thread : Thread) → slice_get threads t ≡ Some thread → has t ≡ true → Among thread v.threads
  same_thread t thread e shown =
      let there = number_has t shown in
      let found : slice_get threads t ≡ Some there.0 = subst (λ n. slice_get threads n ≡ Some there.0) there.2 (h.each id v there.0 at (among_left there.0 v.threads v.born there.1)) in
      let both : Some there.0 ≡ Some thread = sym found ∙ e in
      let same : there.0 ≡ thread = cc in
      subst (λ (y : Thread). Among y v.threads) same there.1

  pub closed : AreClosed threads has
  closed = record {
    first = has_number 0 all.first;
    ended = λ t thread e shown. all.over thread (same_thread t thread e shown);
    named = λ t n thread e shown told. has_number n (all.named thread n (same_thread t thread e shown) told);
  }

  pub only_one : ((n : ℕ) → n < length threads → has n ≡ true) → HoldExactly threads (v ∷ [])
  only_one reached = record {
    each = first;
    once = λ n. ⊎_elim (below n) (past n) (cases_lt n (length threads));
  } where
    first : (j : ℕ) (u : Held) (y : Thread) → get_elem? (v ∷ []) j ≡ some u → Among y (held u) → slice_get threads (number_of y) ≡ Some y
    first zero u y e among = h.each id v y at (subst (λ (w : Held). Among y (held w)) (sym (some-injective v u e)) among)
    first (suc j) u y e among = absurd (some-ne-none u (sym e))

    most : (n : ℕ) → count n v ≤ bit (nat_lt n (length threads))
    most n = let o : total (count n) views ≡ bit (nat_lt n (length threads)) = h.once n in let k = total_at (count n) views id v at in omega arith

    below : (n : ℕ) → n < length threads → total (count n) (v ∷ []) ≡ bit (nat_lt n (length threads))
    below n lt =
        let m = most n in
        let b = one_below n (length threads) lt in
        let a = times-append n v.threads v.born in
        let some = number_times n v.threads (number_has n (reached n lt)) in
        let sum : count n v + 0 ≡ bit (nat_lt n (length threads)) = omega arith in
        sum

    past : (n : ℕ) → length threads ≤ n → total (count n) (v ∷ []) ≡ bit (nat_lt n (length threads))
    past n le =
        let m = most n in
        let b = none_past n (length threads) le in
        let sum : count n v + 0 ≡ bit (nat_lt n (length threads)) = omega arith in
        sum

pub closes : (job : JobData) (words : List ℕ) (views : List Held) → Explained job words views → (id : ℕ) (v : Held) → get_elem? views id ≡ some v → AreAll v.threads → IsRun job words v
closes job words views h id v at all =
    let threads = (run job h.start h.schedule).threads in
    let reached = reached_run job h.start h.schedule h.is_job h.starts in
    record {
      is_job = h.is_job;
      start = h.start;
      starts = h.starts;
      schedule = h.schedule;
      words_are = h.words_are;
      threads_are = only_one threads views h.threads_are id v at all (λ n lt. reached (λ k. nat_lt 0 (times k v.threads)) (closed threads views h.threads_are id v at all) n lt);
    }
