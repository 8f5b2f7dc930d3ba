-- One access of one thread: where a schedule explains the words and the views, that schedule followed by the thread explains
-- them after the access. Source: own.
use Rattle.std.proofs.Common.{◌≡◌, ◌≢◌, ◌⊎◌, inl, inr, ⊎_elim, ℕ, zero, suc, ◌+◌, ◌%◌, ◌^◌, ◌<◌, ◌≤◌, eqb, Bool, true, false, List, [], ◌∷◌, ◌++◌, length}
use Rattle.std.proofs.Common.{set, get_or, Option, Some, None, refl, sym, ap, ◌∙◌, subst, arith, length-append, length-set, append-nil}
use Rattle.std.proofs.lemmas.List.{set-get_or}
use Rattle.std.proofs.lemmas.Option.{slice_get_within}
use Rattle.std.specs.Prelude.{if◌then◌else◌, nat_lt, slice_get, slice_index, slice_set, bit_and, bit_or}
use prog.Atomic.{either}
use mathlib.Core.Option.{some, none, some-ne-none, some-injective}
use lib.ListN.{get_elem?}
use Rattle.atomic_table.specs.Table.{State, Me, Act, Step, Allows, Splits, Joins, keeps, stepped}
use Rattle.atomic_table.specs.Seated.{TableId}
use Rattle.atomic_table.proofs.Lists.{at_set}
use Rattle.cet_words.specs.Access.{InRange, after, answer}
use Rattle.cet_words.specs.Job.{JobData, IsJob}
use Rattle.cet_words.specs.Start.{IsStart}
use Rattle.cet_words.specs.Layout.{entry_word, thread_limit, word_count}
use Rattle.cet_words.specs.declared.accesses.Access.{Access}
use Rattle.cet_words.specs.declared.accesses.Access.TheVariants.{Look, Load, Store, Swap, FetchAdd, FetchOr, FetchAnd, CompareExchange}
use Rattle.cet_page.specs.Core.{Core, After, first_core, next_access, taken}
use Rattle.cet_page.specs.Machine.{Machine, Starts, Thread, accessed, act, machine, run, step, step_by, thread_after, with_child}
use Rattle.cet_page.specs.Numbered.{Draws, DrawsRight, IsNew, Numbered, bears, bears_nobody, leaves}
use Rattle.cet_page.proofs.NumberLaws.{number_taken}
use Rattle.cet_own.proofs.Numbers.{draws_run, numbered_run}
use Rattle.cet_shared.specs.Held.{Held, first_child, first_view, new_thread, whole, gathered, held, moved, newborn, nobody, own, together, without_first, OwnIs}
use Rattle.cet_shared.specs.Performed.{Acts, Moves, left_by, told, told_by}
use Rattle.cet_shared.specs.Rule.{Among, AreViews, Explained, HoldExactly, IsView, total, times}
use Rattle.cet_shared.proofs.Counts.{below_more, bit, none_past, one}
use Rattle.cet_shared.proofs.Holding.{cuts, first_low, joins, moves_on, number_of}
use Rattle.cet_shared.proofs.Parts as parts

-- ---- an access is a step on its word

-- the word of an access
abbrev pub word_of : Access → ℕ
word_of (Look page) = entry_word page
word_of (Load word) = word
word_of (Store word value) = word
word_of (Swap word value) = word
word_of (FetchAdd word value) = word
word_of (FetchOr word value) = word
word_of (FetchAnd word value) = word
word_of (CompareExchange word expected value) = word

-- what becomes of the word of an access
abbrev pub change : Access → ℕ → ℕ
change (Look page) n = n
change (Load word) n = n
change (Store word value) n = value
change (Swap word value) n = value
change (FetchAdd word value) n = (n + value) % 2 ^ 64
change (FetchOr word value) n = bit_or n value
change (FetchAnd word value) n = bit_and n value
change (CompareExchange word expected value) n = either (eqb n expected) value n

exchanged : (b : Bool) (words : List ℕ) (w value : ℕ) → (if b then slice_set words w value else words) ≡ slice_set words w (either b value (slice_index words w))
exchanged true words w value = refl
exchanged false words w value = sym (set-get_or words w 0)

pub after_is : (words : List ℕ) (a : Access) → after words a ≡ slice_set words (word_of a) (change a (slice_index words (word_of a)))
after_is words (Look page) = sym (set-get_or words (word_of (Look page)) 0)
after_is words (Load word) = sym (set-get_or words word 0)
after_is words (Store word value) = refl
after_is words (Swap word value) = refl
after_is words (FetchAdd word value) = refl
after_is words (FetchOr word value) = refl
after_is words (FetchAnd word value) = refl
after_is words (CompareExchange word expected value) = exchanged (eqb (slice_index words word) expected) words word value

pub answer_is : (words : List ℕ) (a : Access) → answer words a ≡ told a (slice_index words (word_of a))
answer_is words (Look page) = refl
answer_is words (Load word) = refl
answer_is words (Store word value) = refl
answer_is words (Swap word value) = refl
answer_is words (FetchAdd word value) = refl
answer_is words (FetchOr word value) = refl
answer_is words (FetchAnd word value) = refl
answer_is words (CompareExchange word expected value) = refl

-- ---- a run and one turn more

pub run_snoc : (job : JobData) (turns : List ℕ) (m : Machine) (t : ℕ) → run job m (turns ++ t ∷ []) ≡ step job (run job m turns) t
run_snoc job [] m t = refl
run_snoc job (s ∷ ss) m t = run_snoc job ss (step job m s) t

pub step_is : (job : JobData) (m : Machine) (t : ℕ) (x : Thread) (a : Access) → slice_get m.threads t ≡ Some x → next_access job x.core ≡ Some a → step job m t ≡ accessed job m t x a
unfolding step
step_is job m t x a here next = ap (step_by job m t) here ∙ ap (act job m t x) next

-- a child has the number of the next place
child_next : (m : Machine) (a : Access) (child : Option Core) → Draws m a child → (core : Core) → child ≡ Some core → (core.arch.number ≡ length m.threads) × (length m.threads < thread_limit)
child_next m a child (bears c draw few at is new) core e =
    let same : Some c ≡ Some core = sym is ∙ e in
    let it : c ≡ core = cc in
    (ap (λ (k : Core). k.arch.number) (sym it) ∙ new.number ∙ at, subst (λ n. n < thread_limit) at few)
child_next m a child (bears_nobody draw many is) core e = (let same : None ≡ Some core = sym is ∙ e in cc)
child_next m a child (leaves same is) core e = (let same : None ≡ Some core = sym is ∙ e in cc)

-- ---- the law of one access

module _ (job : JobData) (words : List ℕ) (views : List Held) (id : ℕ) (v : Held) (x : Thread) (rest : List Thread) (a : Access)
    (h : Explained job words views) (at : get_elem? views id ≡ some v) (own : v.threads ≡ x ∷ rest) (next : next_access job x.core ≡ Some a) where
  abbrev m : Machine
  m = run job h.start h.schedule

  abbrev count : ℕ
  count = length m.threads

  abbrev left : After
  left = taken job x.core (answer words a)

  abbrev w : Held
  w = record { job = v.job; threads = thread_after x left ∷ rest; born = newborn left.child ++ v.born; parts = v.parts }

  same_left : taken job x.core (answer m.words a) ≡ left
  same_left = ap (λ (l : List ℕ). taken job x.core (answer l a)) h.words_are

  number : number_of (thread_after x left) ≡ number_of x
  number = number_taken job x.core (answer words a)

  own_here : slice_get m.threads (number_of x) ≡ Some x
  own_here = h.threads_are.each id v x at (subst (λ (l : List Thread). Among x (l ++ v.born)) (sym own) (inl refl))

  abbrev schedule : List ℕ
  schedule = h.schedule ++ number_of x ∷ []

  all : run job h.start schedule ≡ accessed job m (number_of x) x a
  all = run_snoc job h.schedule h.start (number_of x) ∙ step_is job m (number_of x) x a own_here next

  pub child_at : (core : Core) → left.child ≡ Some core → (core.arch.number ≡ count) × (count < thread_limit)
  child_at core e =
      let draws = draws_run job h.start h.schedule h.is_job h.starts (number_of x) x a own_here next in
      child_next m a (taken job x.core (answer m.words a)).child draws core (ap (λ (l : After). l.child) same_left ∙ e)

  -- a child's number is above its parent's
  pub above : (core : Core) → left.child ≡ Some core → number_of x < core.arch.number
  above core e = let c = child_at core e in let low = slice_get_within m.threads (number_of x) x own_here in omega (arith, c.0)

  threads_after : (run job h.start schedule).threads ≡ with_child (slice_set m.threads (number_of x) (thread_after x left)) left.child
  threads_after =
      ap (λ (k : Machine). k.threads) all
      ∙ ap (λ (l : After). with_child (slice_set m.threads (number_of x) (thread_after x l)) l.child) same_left

  count_after : (o : Option Core) → length (with_child (slice_set m.threads (number_of x) (thread_after x left)) o) ≡ count + length (newborn o)
  count_after None = (
      let long : length (slice_set m.threads (number_of x) (thread_after x left)) ≡ count = length-set m.threads (number_of x) (thread_after x left) in
      let sum : length (slice_set m.threads (number_of x) (thread_after x left)) ≡ count + 0 = omega arith in
      sum)
  count_after (Some core) =
      length-append (slice_set m.threads (number_of x) (thread_after x left)) (newborn (Some core))
      ∙ ap (λ k. k + 1) (length-set m.threads (number_of x) (thread_after x left))

  views_after : AreViews job (count + length (newborn left.child)) (set views id w)
  views_after = parts.views_set job (count + length (newborn left.child)) views id w
      (parts.views_later job count (count + length (newborn left.child)) views (omega arith) h.views_are)
      (inr (parts.born_view job count v w left.child (parts.is_view job count v x rest own (h.views_are id v at)) refl refl refl child_at))

  pub explained_step : Explained job (after words a) (set views id w)
  explained_step = record {
    is_job = h.is_job;
    start = h.start;
    starts = h.starts;
    schedule = schedule;
    words_are = ap (λ (k : Machine). k.words) all ∙ ap (λ (l : List ℕ). after l a) h.words_are;
    threads_are = subst (λ (l : List Thread). HoldExactly l (set views id w)) (sym threads_after)
        (moves_on m.threads views h.threads_are id v w x (thread_after x left) rest left.child at own number (λ core e. (child_at core e).0) refl refl);
    views_are = subst (λ n. AreViews job n (set views id w)) (sym (ap length threads_after ∙ count_after left.child)) views_after;
    parts_are = parts.parts_moved job views id v w at refl h.parts_are;
  }

-- ---- what a step on the table asks

module _ {S : Type 0} (job : JobData) (id : ℕ) (a : Access) (c : List (ℕ × S)) (slots : ℕ) where
  abbrev Rule : State S Held → Type 0
  Rule s = Explained job s.words s.views

  -- f is what the step makes of the word, and r what it tells of the number that it found
  allows : (v : Held) (x : Thread) (rest : List Thread) → v.job ≡ job → v.threads ≡ x ∷ rest → next_access job x.core ≡ Some a
      → (f r : ℕ → ℕ) → ((n : ℕ) → change a n ≡ f n) → ((n : ℕ) → told a n ≡ told a (r n)) → (st : Step S)
      → Allows Rule slots id (v, c) (word_of a) f (λ n. Acts st (v, c) (r n))
  allows v x rest knows mine next f r does tells st s h len at fits =
      let n = slice_index s.words (word_of a) in
      let left = taken job x.core (answer s.words a) in
      let own_is : own v ≡ x = ap (λ (l : List Thread). own (record v { threads = l })) mine in
      let words : after s.words a ≡ slice_set s.words (word_of a) (f n) = after_is s.words a ∙ ap (slice_set s.words (word_of a)) (does n) in
      let found : answer s.words a ≡ told_by (next_access job x.core) (r n) = answer_is s.words a ∙ tells n ∙ ap (λ (o : Option Access). told_by o (r n)) (sym next) in
      let same : left ≡ left_by v.job (own v).core (r n) = ap (taken job x.core) found ∙ λ i. left_by (sym knows i) (sym own_is i).core (r n) in
      let w : Held = record { job = v.job; threads = thread_after x left ∷ rest; born = newborn left.child ++ v.born; parts = v.parts } in
      let mine_after : moved v left ≡ w = ap (λ (l : List Thread). moved (record v { threads = l }) left) mine in (
        w,
        keeps,
        tt,
        subst (λ (l : List ℕ). Explained job l (set s.views id w)) words (explained_step job s.words s.views id v x rest a h at mine next),
        (
          refl,
          record {
            view = sym mine_after ∙ ap (moved v) same;
            above = λ child is. subst (λ (y : Thread). y.core.arch.number < child.arch.number) (sym own_is)
                (above job s.words s.views id v x rest a h at mine next child (ap (λ (l : After). l.child) same ∙ is));
          },
        ),
      )

  -- the same, where the own thread is whatever the view has in front
  pub allowed : (v : Held) → v.job ≡ job → OwnIs (own v).core v.threads → next_access job (own v).core ≡ Some a
      → (f r : ℕ → ℕ) → ((n : ℕ) → change a n ≡ f n) → ((n : ℕ) → told a n ≡ told a (r n)) → (st : Step S)
      → Allows Rule slots id (v, c) (word_of a) f (λ n. Acts st (v, c) (r n))
  allowed v knows there next f r does tells st = front v.threads refl there
    where
      front : (l : List Thread) → v.threads ≡ l → OwnIs (own v).core l → Allows Rule slots id (v, c) (word_of a) f (λ n. Acts st (v, c) (r n))
      front [] e n = absurd n
      front (x ∷ rest) e n = allows v x rest knows e (ap (next_access job) n ∙ next) f r does tells st

pub in_range : (a : Access) → InRange a → word_of a < word_count
in_range (Look page) low = omega arith
in_range (Load word) low = low
in_range (Store word value) low = low
in_range (Swap word value) low = low
in_range (FetchAdd word value) low = low
in_range (FetchOr word value) low = low
in_range (FetchAnd word value) low = low
in_range (CompareExchange word expected value) low = low

-- what one call on the table asks
pub act_ok : {S : Type 0} (job : JobData) (id : ℕ) (a : Access) (me : Me S Held) (seated table : TableId) → (seated ≡ table) × (table.words ≡ word_count)
    → me.0.job ≡ job → OwnIs (own me.0).core me.0.threads → next_access job (own me.0).core ≡ Some a → InRange a
    → (b : Access) → a ≡ b → (f r : ℕ → ℕ) → ((n : ℕ) → change b n ≡ f n) → ((n : ℕ) → told b n ≡ told b (r n)) → (st : Step S)
    → (seated ≡ table) × (word_of b < table.words) × Allows (λ (s : State S Held). Explained job s.words s.views) table.slots id me (word_of b) f (λ n. Acts st me (r n))
act_ok job id a me seated table same knows there next low b is f r does tells st =
    let w = in_range b (subst InRange is low) in
    let t = same.1 in
    let lt : word_of b < table.words = omega arith in
    (same.0, lt, allowed job id b me.1 table.slots me.0 knows there (next ∙ ap Some is) f r does tells st)

-- ---- passes split and join: the schedule stays

pub splits : {S : Type 0} (job : JobData) (id : ℕ) (v : Held) → Splits (λ (s : State S Held). Explained job s.words s.views) id v (without_first v) (first_child v)
splits job id v s h at = record {
  is_job = h.is_job;
  start = h.start;
  starts = h.starts;
  schedule = h.schedule;
  words_are = h.words_are;
  threads_are = cuts (run job h.start h.schedule).threads s.views h.threads_are id v at;
  views_are = parts.views_cut job (length (run job h.start h.schedule).threads) s.views id v at h.views_are (first_low (run job h.start h.schedule).threads s.views h.threads_are id v at);
  parts_are = parts.parts_cut job (length (run job h.start h.schedule).threads) s.views id v at h.views_are h.parts_are;
}

pub merges : {S : Type 0} (job : JobData) (id other : ℕ) (v w : Held) (core : Core) → OwnIs core v.threads
    → Joins (λ (s : State S Held). Explained job s.words s.views) id v other w (together v w) nobody
merges job id other v w core mine s h at apart there' =
    let there = ⊎_elim
    (λ (q : (other ≡ id) × (together v w ≡ w)). absurd (apart q.0))
    (λ (q : (other ≢ id) × (get_elem? s.views other ≡ some w)). q.1)
    (at_set s.views id other (together v w) w there') in
    let k = length (run job h.start h.schedule).threads in
    let is = owner v.threads refl mine k (h.views_are id v at) in
    record {
      is_job = h.is_job;
      start = h.start;
      starts = h.starts;
      schedule = h.schedule;
      words_are = h.words_are;
      threads_are = joins (run job h.start h.schedule).threads s.views h.threads_are id other v w at there there';
      views_are = parts.views_joined job k s.views id other v w at there there' h.views_are is;
      parts_are = parts.parts_joined job k s.views id other v w at there there' h.views_are is h.parts_are;
    }
  where
    owner : (l : List Thread) → v.threads ≡ l → OwnIs core l → (k : ℕ) → (v ≡ nobody) ⊎ IsView job k v → IsView job k v
    owner [] e is k stands = absurd is
    owner (x ∷ rest) e is k stands = parts.is_view job k v x rest e stands

-- ---- the first pass

pub first_explained : (job : JobData) (words : List ℕ) → IsJob job → IsStart job.image words → Explained job words (first_view job ∷ [])
first_explained job words is start = record {
  is_job = is;
  start = machine words (new_thread (first_core job) ∷ []);
  starts = record { words = start; threads = refl };
  schedule = [];
  words_are = refl;
  threads_are = record { each = each; once = once };
  views_are = views;
  parts_are = (let k : ℕ = whole in let sum : k + 0 ≡ k = omega arith in sum);
} where
  each : (id : ℕ) (v : Held) (y : Thread) → get_elem? (first_view job ∷ []) id ≡ some v → Among y (held v) → slice_get (new_thread (first_core job) ∷ []) (number_of y) ≡ Some y
  each zero v y e among = ⊎_elim
      (λ (same : new_thread (first_core job) ≡ y). subst (λ (t : Thread). slice_get (new_thread (first_core job) ∷ []) (number_of t) ≡ Some t) same refl)
      (λ none. absurd none)
      (subst (λ (w : Held). Among y (held w)) (sym (some-injective (first_view job) v e)) among)
  each (suc id) v y e among = absurd (some-ne-none v (sym e))

  once : (n : ℕ) → total (λ v. times n (held v)) (first_view job ∷ []) ≡ bit (nat_lt n 1)
  once n =
      let k : ℕ = one 0 n in
      let more : bit (nat_lt n 1) ≡ bit (nat_lt n 0) + k = below_more n 0 in
      let none = none_past n 0 (omega arith) in
      let sum : (k + 0) + 0 ≡ bit (nat_lt n 1) = omega arith in
      sum

  views : AreViews job 1 (first_view job ∷ [])
  views zero v e = subst (λ (w : Held). (w ≡ nobody) ⊎ IsView job 1 w) (some-injective (first_view job) v e) (inr (record {
    knows = refl;
    parts = (let k : ℕ = whole in let sum : 0 + k ≤ k = omega arith in sum);
  }))
  views (suc id) v e = absurd (some-ne-none v (sym e))
