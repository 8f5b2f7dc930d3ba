-- The threads that were gathered by number are those of a run, and its outcome is theirs. Source: own.
use Rattle.std.proofs.Common.{◌≡◌, ◌≢◌, ◌⊎◌, inl, inr, ⊎_elim, ℕ, zero, suc, ◌+◌, ◌<◌, ◌≤◌, arith, Bool, true, false}
use Rattle.std.proofs.Common.{List, [], ◌∷◌, ◌++◌, length, drop, map, Option, Some, None, refl, sym, ap, ◌∙◌, subst, append-nil, rules}
use Rattle.std.specs.Prelude.{All, IsSome, ◌==◌, cond, nat_lt, slice_get}
use Rattle.std.proofs.lemmas.Bool.Decides.{nat_tests}
use Rattle.std.proofs.lemmas.List.Elements.{All-cons, All-nil}
use Rattle.cet_words.specs.Job.{JobData}
use Rattle.cet_own.specs.Told.{kept_pointers}
use Rattle.cet_isa.specs.declared.threads.End.{End}
use Rattle.cet_page.specs.Machine.{Machine, Starts, Thread, run}
use Rattle.cet_run.specs.Outcome.{thread_out}
use Rattle.cet_run.specs.SafeRun.{IsLeft, IsThis, SafeRun}
use Rattle.cet_run.specs.Schedule.{IsComplete}
use Rattle.cet_run.specs.declared.outcomes.Outcome.{Outcome}
use Rattle.cet_run.specs.declared.outcomes.ThreadOut.{ThreadOut}
use Rattle.cet_shared.specs.Held.{Held, Place, held}
use Rattle.cet_shared.specs.Rule.{Among, HoldExactly, times}
use Rattle.cet_shared.specs.Closing.{AreAll, IsRun}
use Rattle.cet_pool.specs.declared.drives.Gathered.{Gathered}
use Rattle.cet_pool.specs.Gathering.{Ascends, IsGathered, LeadsTo}

-- ---- how many have a number

abbrev bit : Bool → ℕ
bit b = cond b 1 0

hit : (a n : ℕ) → a ≡ n → bit (a == n) ≡ 1
hit a n e = grind (arith, nat_tests)

miss : (a n : ℕ) → a ≢ n → bit (a == n) ≡ 0
miss a n e = grind (arith, nat_tests)

low : (n m : ℕ) → 1 ≤ bit (nat_lt n m) → n < m
low n m e = grind (arith, nat_tests)

high : (n m : ℕ) → bit (nat_lt n m) ≡ 0 → m ≤ n
high n m e = grind (arith, nat_tests)

below : (n m : ℕ) → n < m → bit (nat_lt n m) ≡ 1
below n m e = grind (arith, nat_tests)

none_below : (n b : ℕ) (ts : List Thread) → Ascends b ts → n < b → times n ts ≡ 0
none_below n b [] up lt = refl
none_below n b (x ∷ xs) up lt =
    let m = x.core.arch.number in
    let l = up.0 in
    let here = miss m n (omega arith) in
    let there = none_below n m xs up.1 (omega arith) in
    omega arith

-- from a number that none of them has they begin at the next
begins_above : (b : ℕ) (ts : List Thread) → Ascends b ts → times b ts ≡ 0 → Ascends (suc b) ts
begins_above b [] up none = tt
begins_above b (x ∷ xs) up none = (above x.core.arch.number (times b xs) up.0 none, up.1)
  where
    above : (m t : ℕ) → b ≤ m → bit (m == b) + t ≡ 0 → suc b ≤ m
    above m t le e = grind (arith, nat_tests)

-- ---- a list read from a place on

drop_past : (rs : List Thread) (b : ℕ) → length rs ≤ b → drop b rs ≡ []
drop_past [] zero le = refl
drop_past [] (suc b) le = refl
drop_past (r ∷ rs) zero le = absurd (omega arith)
drop_past (r ∷ rs) (suc b) le = drop_past rs b (omega arith)

drop_at : (rs : List Thread) (b : ℕ) (x : Thread) → slice_get rs b ≡ Some x → drop b rs ≡ x ∷ drop (suc b) rs
drop_at [] b x e = absurd (cc)
drop_at (r ∷ rs) zero x e = let f : r ≡ x = cc in ap (λ (t : Thread). t ∷ rs) f
drop_at (r ∷ rs) (suc b) x e = drop_at rs b x e

-- ---- the threads of the run

exact : (rs ts : List Thread) (b : ℕ) → ((y : Thread) → Among y ts → slice_get rs y.core.arch.number ≡ Some y) → ((n : ℕ) → b ≤ n → times n ts ≡ bit (nat_lt n (length rs))) → Ascends b ts
    → ts ≡ drop b rs
exact rs [] b each once up = let e = once b (omega arith) in sym (drop_past rs b (high b (length rs) (sym e)))
exact rs (x ∷ xs) b each once up =
    let m = x.core.arch.number in
    let le : b ≤ m = up.0 in
    let one = hit m m refl in
    let at_m = once m le in
    let m_low : m < length rs = low m (length rs) (omega arith) in
    let at_b = once b (omega arith) in
    let b_one = below b (length rs) (omega arith) in
    let same : m ≡ b = is_first b m (times b xs) le at_b b_one (λ lt. none_below b m xs up.1 lt) in
    let none : times b xs ≡ 0 = (let h = hit m b same in omega arith) in
    let next : Ascends (suc b) xs = begins_above b xs (subst (λ n. Ascends n xs) same up.1) none in
    let rest = exact rs xs (suc b) (λ y a. each y (inr a)) (λ n lt. (let o = once n (omega arith) in let z = miss m n (omega arith) in omega arith)) next in
    let here : drop b rs ≡ x ∷ drop (suc b) rs = drop_at rs b x (subst (λ n. slice_get rs n ≡ Some x) same (each x (inl refl))) in
    ap (λ (l : List Thread). x ∷ l) rest ∙ sym here
  where
    is_first : (b m t : ℕ) → b ≤ m → {n : ℕ} → bit (m == b) + t ≡ n → n ≡ 1 → (b < m → t ≡ 0) → m ≡ b
    is_first b m t le e one none = grind (arith, nat_tests)

pub threads_are : (rs : List Thread) (view : Held) → HoldExactly rs (view ∷ []) → view.born ≡ [] → Ascends 0 view.threads → view.threads ≡ rs
threads_are rs view h none up =
    let same : held view ≡ view.threads = ap (λ (l : List Thread). view.threads ++ l) none ∙ append-nil view.threads in
    exact rs view.threads 0
    (λ y a. h.each 0 view y refl (subst (Among y) (sym same) a))
    (λ n le. (let o = h.once n in let e = ap (times n) same in omega arith))
    up

-- ---- the run's outcome

all_over : (ts : List Thread) → ((y : Thread) → Among y ts → y.core.over ≢ None) → All (λ (t : Thread). IsSome t.core.over) ts
all_over [] h = All-nil (λ (t : Thread). IsSome t.core.over)
all_over (x ∷ xs) h = All-cons (λ (t : Thread). IsSome t.core.over) x xs (some x.core.over (h x (inl refl))) (all_over xs (λ y a. h y (inr a)))
  where
    some : (o : Option End) → o ≢ None → IsSome o
    some None ne = absurd (ne refl)
    some (Some e) ne = search rules

module _ (job : JobData) (place : Place) (done : Gathered) (words : List ℕ) (same : place.job ≡ job) (g : IsGathered place done) (r : IsRun place.job words done.last.view) where
  run_is : run place.job r.start r.schedule ≡ run job r.start r.schedule
  run_is = ap (λ (j : JobData). run j r.start r.schedule) same

  pub leads : LeadsTo job done.last.view r.start r.schedule
  leads = subst (λ (m : Machine). HoldExactly m.threads (done.last.view ∷ [])) run_is r.threads_are

  gathered_are : done.last.view.threads ≡ (run job r.start r.schedule).threads
  gathered_are = threads_are (run job r.start r.schedule).threads done.last.view leads g.born g.order

  pub left : IsLeft job r.start r.schedule words done.threads done.ssps
  left = record {
    starts = subst (λ (j : JobData). Starts j r.start) same r.starts;
    complete = subst (All (λ (t : Thread). IsSome t.core.over)) gathered_are (all_over done.last.view.threads g.all.over);
    words_left = sym r.words_are ∙ ap (λ (m : Machine). m.words) run_is;
    threads_left = g.threads ∙ ap (map thread_out) gathered_are;
    pointers_left = g.ssps ∙ ap kept_pointers gathered_are;
  }

  module _ (outcome : Outcome) (s : SafeRun job (IsThis r.start r.schedule) outcome) where
    pub led : SafeRun job (LeadsTo job done.last.view) outcome
    led = record {
      is_job = s.is_job;
      start = s.start;
      starts = s.starts;
      turns = s.turns;
      schedule = subst (λ (p : Machine × List ℕ). HoldExactly (run job p.0 p.1).threads (done.last.view ∷ [])) (λ i. (sym s.schedule.from i, sym s.schedule.by i)) leads;
      complete = s.complete;
      book = s.book;
      legal = s.legal;
      is = s.is;
      safe = s.safe;
      stands = s.stands;
      last = s.last;
      switched = s.switched;
      raises = s.raises;
      exit = s.exit;
    }

    pub threads_kept : outcome.threads ≡ done.threads
    threads_kept =
        ap (λ (o : Outcome). o.threads) s.is ∙ ap (λ (p : Machine × List ℕ). map thread_out (run job p.0 p.1).threads) (λ i. (s.schedule.from i, s.schedule.by i)) ∙ sym left.threads_left
