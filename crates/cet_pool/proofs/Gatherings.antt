-- All threads have ended, and are gathered in order. Source: own.
use Rattle.std.proofs.Common.{◌≡◌, ◌≢◌, ◌⊎◌, inl, inr, ⊎_elim, ℕ, zero, suc, ◌+◌, ◌<◌, ◌≤◌, arith, List, [], ◌∷◌}
use Rattle.std.proofs.Common.{◌++◌, length, get_or, drop, take, map, Option, Some, None, refl, sym, ap, ◌∙◌, subst, append-nil, append_assoc}
use Rattle.std.specs.Prelude.{All}
use Rattle.std.specs.List.{Contains, remove}
use Rattle.std.specs.List.Sorted.{IsNonDecreasingBy, IsPermutation}
use Rattle.std.proofs.lemmas.List.Elements.{All-head, All-tail, Contains-append_left, Contains-append_right, Contains-push}
use Rattle.std.proofs.lemmas.List.Sorted.{Contains-permutation, IsNonDecreasingBy-drop, IsPermutation-sym}
use Rattle.cet_words.specs.Job.{JobData}
use Rattle.cet_own.specs.Told.{kept_pointers}
use Rattle.cet_page.specs.Core.{first_core}
use Rattle.cet_page.specs.Machine.{Thread}
use Rattle.cet_page.specs.Numbered.{Names}
use Rattle.cet_run.specs.Outcome.{thread_out}
use Rattle.cet_run.specs.declared.outcomes.ThreadOut.{ThreadOut}
use Rattle.cet_shared.specs.Held.{Held, IsOf, Place, new_thread, together}
use Rattle.cet_shared.specs.Rule.{Among}
use Rattle.cet_shared.specs.Closing.{AreAll, HasNumber}
use Rattle.cet_pool.specs.declared.drives.Gathered.{Gathered}
use Rattle.cet_pool.specs.declared.lives.Live.{Live}
use Rattle.cet_pool.specs.Going.{Goes, IsLive, IsOver, Numbers, OfOne, Tells, own}
use Rattle.cet_pool.specs.Rounds.{Settled}
use Rattle.cet_pool.specs.Gathering.{Ascends, IsGathered, IsGathering}
use Rattle.cet_pool.proofs.Goings.{goes_less, goes_then, one_here, one_is}
use Rattle.cet_pool.proofs.Steps.{tells_nobody}
use Rattle.cet_pool.proofs.Turns.{none_in}

-- ---- passes and their threads

among_at : (xs : List Live) (k : ℕ) (l : Live) → k < length xs → get_or xs k l ≡ l → Among (own l) (map own xs)
among_at [] k l lt e = absurd (omega arith)
among_at (x ∷ xs) zero l lt e = inl (ap own e)
among_at (x ∷ xs) (suc k) l lt e = inr (among_at xs k l (omega arith) e)

of_among : (xs : List Live) (y : Thread) → Among y (map own xs) → (l : Live) × Contains xs l × (own l ≡ y)
of_among [] y a = absurd a
of_among (x ∷ xs) y (inl e) = (x, Contains-append_left (x ∷ []) xs x (Contains-push [] x), e)
of_among (x ∷ xs) y (inr a) = let h = of_among xs y a in (h.0, Contains-append_right (x ∷ []) xs h.0 h.1, h.2)

has_number : (n : ℕ) (xs : List Live) → OfOne (Numbers n) xs → HasNumber n (map own xs)
has_number n xs h = (own h.0, among_at xs h.1.0 h.0 h.1.1 h.1.2, h.2)

ended_among : (place : Place) (xs : List Live) (y : Thread) → All (IsOver place) xs → Among y (map own xs) → y.core.over ≢ None
ended_among place [] y h a = absurd a
ended_among place (x ∷ xs) y h (inl e) = let o = All-head (IsOver place) x xs h in subst (λ (t : Thread). t.core.over ≢ None) e o.over
ended_among place (x ∷ xs) y h (inr a) = ended_among place xs y (All-tail (IsOver place) x xs h) a

-- ---- all have ended

module _ (place : Place) (first : Live) (ended : List Live) (new : own first ≡ new_thread (first_core place.job)) (over : All (IsOver place) ended) (goes : Goes place.job 0 (first ∷ []) ended) where
  first_silent : (n : ℕ) → Tells place.job n first → ⊥
  first_silent n t = tells_nobody place.job (own first) n (ap (λ (t : Thread). t.trace) new) (ap (λ (t : Thread). t.core.vals) new) t

  pub all_ended : AreAll (map own ended)
  all_ended = record {
    over = λ y a. ended_among place ended y over a;
    first = has_number 0 ended (goes.kept 0 (one_here (Numbers 0) first (ap (λ (t : Thread). t.core.arch.number) new)));
    named = λ y n a names.
        let l = of_among ended y a in
        let told : OfOne (Tells place.job n) ended = (l.0, l.1, inl (subst (λ (t : Thread). Names n t.trace) (sym l.2) names)) in
        ⊎_elim
        (λ (b : OfOne (Tells place.job n) (first ∷ [])). absurd (first_silent n (one_is (Tells place.job n) first b)))
        (λ (b : OfOne (Numbers n) ended). has_number n ended b)
        (goes.told n told);
  }

pub driven : (place : Place) (k : ℕ) (before lives ended new after : List Live) → Settled place 0 before lives ended → Settled place k (lives ++ ended) new after → Settled place 0 before new after
driven place k before lives ended new after s t = record {
  ready = t.ready;
  over = t.over;
  goes = goes_less place.job 0 (0 + k) before (new ++ after) (omega arith) (goes_then place.job 0 k before (lives ++ ended) (new ++ after) s.goes t.goes);
}

pub all_driven : (place : Place) (first : Live) (lives ended : List Live) → own first ≡ new_thread (first_core place.job) → Settled place 0 (first ∷ []) lives ended → length lives ≡ 0
    → AreAll (map own ended)
all_driven place first lives ended new s none = all_ended place first ended new s.over (subst (λ (l : List Live). Goes place.job 0 (first ∷ []) (l ++ ended)) (none_in lives none) s.goes)

-- ---- in another order

module _ (xs ys : List Live) (m : IsPermutation xs ys) where
  among_back : (y : Thread) → Among y (map own ys) → Among y (map own xs)
  among_back y a =
      let l = of_among ys y a in
      let c = Contains-permutation ys xs l.0 (IsPermutation-sym xs ys m) l.1 in
      subst (λ (t : Thread). Among t (map own xs)) l.2 (among_at xs c.0 l.0 c.1 c.2)

  has_moved : (n : ℕ) → HasNumber n (map own xs) → HasNumber n (map own ys)
  has_moved n h =
      let l = of_among xs h.0 h.1 in
      let c = Contains-permutation xs ys l.0 m l.1 in
      (own l.0, among_at ys c.0 l.0 c.1 c.2, ap (λ (t : Thread). t.core.arch.number) l.2 ∙ h.2)

  pub all_moved : AreAll (map own xs) → AreAll (map own ys)
  all_moved h = record {
    over = λ y a. h.over y (among_back y a);
    first = has_moved 0 h.first;
    named = λ y n a names. has_moved n (h.named y n (among_back y a) names);
  }

abbrev pub number_of : Live → ℕ
number_of l = (own l).core.arch.number

ascends_on : (n : ℕ) (xs : List Live) → ((d : Live) → 0 < length xs → n ≤ number_of (get_or xs 0 d)) → IsNonDecreasingBy number_of xs → Ascends n (map own xs)
ascends_on n [] low up = tt
ascends_on n (x ∷ xs) low up = (low x (omega arith), ascends_on (number_of x) xs (λ d lt. up 0 1 d (omega arith) (omega arith)) (IsNonDecreasingBy-drop number_of 1 (x ∷ xs) up))

pub ascends : (xs : List Live) → IsNonDecreasingBy number_of xs → Ascends 0 (map own xs)
ascends xs up = ascends_on 0 xs (λ d lt. omega arith) up

-- ---- one after another

pub first_out : (xs ys : List Live) (x : Live) → 0 < length xs → x ≡ get_or xs 0 x → ys ≡ take 0 xs ++ drop 1 xs → xs ≡ x ∷ ys
first_out [] ys x some is out = absurd (omega arith)
first_out (y ∷ xs) ys x some is out = λ i. sym is i ∷ sym out i

module _ (place : Place) (all : List Live) where
  pub gathering_init : (live : Live) (rest : List Live) (done : Gathered) → all ≡ live ∷ rest → IsLive place live → done.last ≡ live.pass → done.threads ≡ thread_out (own live) ∷ []
      → done.ssps ≡ kept_pointers (own live ∷ []) → IsGathering place all rest done
  gathering_init live rest done out l last threads ssps = record {
    of = subst (IsOf place) (sym last) l.of;
    born = ap (λ s. s.view.born) last ∙ l.born;
    all = ap (λ s. s.view.threads ++ map own rest) last ∙ ap (λ (t : List Thread). t ++ map own rest) l.threads ∙ ap (map own) (sym out);
    threads = ap (λ (t : List ThreadOut). t ++ map thread_out (map own rest)) threads ∙ ap (λ (l : List Live). map thread_out (map own l)) (sym out);
    ssps = ap (λ (p : List (ℕ × ℕ)). p ++ kept_pointers (map own rest)) (ssps ∙ append-nil _) ∙ ap (λ (l : List Live). kept_pointers (map own l)) (sym out);
  }

  pub gathering_next : (waiting rest : List Live) (live : Live) (done after : Gathered) → IsGathering place all waiting done → waiting ≡ live ∷ rest → IsLive place live
      → IsOf place after.last → after.last.view ≡ together done.last.view live.pass.view
      → after.threads ≡ done.threads ++ thread_out (own live) ∷ [] → after.ssps ≡ done.ssps ++ kept_pointers (own live ∷ []) → IsGathering place all rest after
  gathering_next waiting rest live done after g out l of last threads ssps = record {
    of = of;
    born = ap (λ (v : Held). v.born) last ∙ ap (λ (b : List Thread). b ++ live.pass.view.born) g.born ∙ l.born;
    all =
        ap (λ (v : Held). v.threads ++ map own rest) last ∙ ap (λ (t : List Thread). (done.last.view.threads ++ t) ++ map own rest) l.threads
        ∙ append_assoc done.last.view.threads (own live ∷ []) (map own rest)
        ∙ ap (λ (l : List Live). done.last.view.threads ++ map own l) (sym out) ∙ g.all;
    threads =
        ap (λ (t : List ThreadOut). t ++ map thread_out (map own rest)) threads ∙ append_assoc done.threads (thread_out (own live) ∷ []) (map thread_out (map own rest))
        ∙ ap (λ (l : List Live). done.threads ++ map thread_out (map own l)) (sym out) ∙ g.threads;
    ssps =
        ap (λ (p : List (ℕ × ℕ)). p ++ kept_pointers (map own rest)) (ssps ∙ ap (λ (p : List (ℕ × ℕ)). done.ssps ++ p) (append-nil _)) ∙ append_assoc done.ssps _ (kept_pointers (map own rest))
        ∙ ap (λ (l : List Live). done.ssps ++ kept_pointers (map own l)) (sym out) ∙ g.ssps;
  }

  pub gathering_done : (done : Gathered) → IsGathering place all [] done → AreAll (map own all) → Ascends 0 (map own all) → IsGathered place done
  gathering_done done g over order =
      let same : map own all ≡ done.last.view.threads = sym g.all ∙ append-nil done.last.view.threads in
      record {
        of = g.of;
        all = subst AreAll same over;
        born = g.born;
        order = subst (Ascends 0) same order;
        threads = sym (append-nil done.threads) ∙ g.threads ∙ ap (map thread_out) same;
        ssps = sym (append-nil done.ssps) ∙ g.ssps ∙ ap kept_pointers same;
      }
