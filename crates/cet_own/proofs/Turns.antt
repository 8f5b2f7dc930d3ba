-- One turn keeps the invariant: of the thread that acts, of one that it bears, and of all others. Source: own.
use Rattle.cet_own.specs.Gates.{ThreadGates}
use Rattle.std.proofs.Common.{[], ◌∷◌, ◌++◌, ◌⊎◌, length-append, ◌≡◌, ◌≢◌, ℕ, ◌<◌, ◌≤◌, inl, inr, List, length, Option, Some}
use Rattle.std.proofs.Common.{None, refl, sym, ◌∙◌, ap, subst, arith, length-set, get_or-set_same, true}
use Rattle.std.specs.Prelude.{slice_get, slice_set, slice_index, sum_by, min, ◌+◌, ◌%◌, ◌^◌, ◌-◌, ◌==◌}
use Rattle.std.proofs.lemmas.List.Sums.{sum_by-append}
use Rattle.std.proofs.lemmas.Bool.{cases_lt}
use Rattle.std.proofs.lemmas.Bool.Decides.{eqb_tells, nat_tests}
use Rattle.std.proofs.lemmas.Option.{slice_get_past, slice_get_within}
use Rattle.cet_words.specs.Layout.{word_count, token, token_word, kernel_return}
use Rattle.cet_words.specs.Access.{answer, after}
use Rattle.cet_words.specs.Job.{JobData, IsJob}
use Rattle.cet_words.specs.declared.accesses.Access.{Access}
use Rattle.cet_isa.specs.declared.threads.End.{End}
use Rattle.cet_isa.specs.declared.threads.End.TheVariants as ending
use Rattle.cet_book.specs.Book.{Book, region, current_of, stack_of, books_after}
use Rattle.cet_book.specs.declared.entries.Holder.TheVariants.{Current}
use Rattle.cet_book.specs.Shape.{Shape}
use Rattle.cet_book.proofs.Edits.{is_there, current_holds}
use Rattle.cet_words.specs.Change.{Change, Born}
use Rattle.cet_words.specs.declared.accesses.Access.TheVariants as access
use Rattle.cet_isa.specs.declared.threads.Arch.{Arch}
use Rattle.cet_book.proofs.Kept.{NoneBorn}
use Rattle.cet_book.specs.Relied.{Relies}
use Rattle.cet_book.proofs.Hand.{hand, Made}
use Rattle.cet_book.proofs.Ways.{born_way}
use Rattle.cet_page.specs.Core.{Core, unheld, row_played, taken, next_changes, child_core, child_of, born}
use Rattle.cet_page.specs.Row.{row}
use Rattle.cet_page.specs.Script.{Wants, birth}
use Rattle.cet_page.specs.Machine.{Thread, Machine, machine, thread_after, with_child, act, step_by}
use Rattle.cet_page.specs.Within.{Waits}
use Rattle.cet_page.proofs.ChildLaws.{ChildAt, child_at, child_taken}
use Rattle.cet_page.proofs.NumberLaws.{get_last, get_low, get_other, get_same}
use Rattle.cet_own.specs.Event.{access_changes, thread_changes}
use Rattle.cet_own.specs.Safe.{AccessReturns, ThreadReturns, KeepsStack, HasStack, IsSafeAt}
use Rattle.cet_own.specs.ToldTokens.{AccessTokens, ThreadTokens}
use Rattle.cet_page.specs.Trail.{trail_of, Visit}
use Rattle.cet_own.specs.Past.{below_frame, frame_pushed, draw_word, next_word, in_force, touches, frees_token, leaves_word}
use Rattle.cet_own.proofs.Still.{still_none}
use Rattle.cet_own.specs.Claims.{Still, Stacked, HasNone, CountsBy, no_count, draws_pages, bears_child, bears_nobody}
use Rattle.cet_own.proofs.Frame.{during_at}
use Rattle.cet_own.specs.Holds.{Holds}
use Rattle.cet_own.proofs.Standing.{has_made_kept}
use Rattle.cet_own.specs.Facts.{HasMade, thread_draws, thread_births}
use Rattle.cet_own.specs.Owed.{State, rules}
use Rattle.cet_own.specs.Threads.{During, Fails, entries_of, Ends, InRow, Ended, CoreStands, ThreadStands}
use Rattle.cet_own.proofs.Threads.{thread_relies}
use Rattle.cet_own.proofs.Turn.{Led, led}
use Rattle.cet_own.proofs.Newborn.{IsNewborn, newborn}
use Rattle.cet_own.proofs.ClassLaws.{one_book}
use Rattle.cet_own.proofs.Counters.{none_born}
use Rattle.cet_own.proofs.Paid.{Paid, unaltered, counters_tell, sum_moved}

-- What is carried from turn to turn: words and book in step, and every thread's claim on the rest of its row.
pub record Invariant (job : JobData) (m : Machine) (s : State) : Type 0 where
  pub holds : Holds job.image m.words s.book
  pub threads : (t : ℕ) → ThreadStands job t s (slice_get m.threads t)
  -- what rows have seen of their threads' own words is still there
  pub still : (t : ℕ) (thread : Thread) → slice_get m.threads t ≡ Some thread → Still m.words t s.book (trail_of job thread.core)
  -- the counters are paid for
  pub paid : Paid job m.words m.threads
  -- each thread has the region that the kernel made
  pub made : (t : ℕ) (thread : Thread) → slice_get m.threads t ≡ Some thread → HasMade thread.core.arch.made s.book

-- ---- the facts at each moment

stack_by : (t ssp : ℕ) (b : Book) → Shape b → Stacked t b ssp → HasStack b t ssp
stack_by t ssp b h s = record {
  number = current_of t b;
  current = current_holds t b s.top.has;
  only = λ i e. sym (h.alone t i e);
  at = s.top.at;
}

row_stacked : (job : JobData) (t : ℕ) (s : State) (core : Core) → InRow job t s core → Stacked t s.book (in_force job core)
row_stacked job t s core r =
    subst (λ n. Stacked n s.book (in_force job core)) r.number
    (during_at (rules job core.arch.number) (During (unheld core.arch)) (Ends job (unheld core.arch)) (λ p. Fails job (unheld core.arch)) [] r.before s
    (row job (unheld core.arch)) core.vals.accesses core.vals.values r.waits.waits.0 r.waits.waits.1 r.left r.waits.waits.2)

-- out of a row the pointer in force is SSP
ended_stacked : (job : JobData) (t : ℕ) (s : State) (core : Core) → Ended job t s core → Stacked t s.book (in_force job core)
ended_stacked job t s core h = subst (λ past. Stacked t s.book (below_frame (frame_pushed past) core.arch.ssp)) (sym h.1) h.0.stacked

pub core_stacked : (job : JobData) (t : ℕ) (s : State) (core : Core) (over : Option End) → CoreStands job t s core over → KeepsStack over → Stacked t s.book (in_force job core)
core_stacked job t s core None h k = row_stacked job t s core h
core_stacked job t s core (Some (ending.Exit status)) h k = absurd k
core_stacked job t s core (Some ending.Group) h k = ended_stacked job t s core h
core_stacked job t s core (Some ending.Limit) h k = ended_stacked job t s core h

-- a thread that has nothing is current on no region
pub none_current : (t i : ℕ) (b : Book) → Shape b → HasNone t b → (region b i).holder ≡ Current t → ⊥
none_current t i b h n e =
    let at = h.alone t i e in
    let inside = is_there b i (λ z. cc) in
    let past = n.regions in
    omega arith

core_keeps : (job : JobData) (t i : ℕ) (s : State) (core : Core) (over : Option End) → Shape s.book → CoreStands job t s core over → (region s.book i).holder ≡ Current t → KeepsStack over
core_keeps job t i s core None sh h e = tt
core_keeps job t i s core (Some (ending.Exit status)) sh h e = none_current t i s.book sh h.0 e
core_keeps job t i s core (Some ending.Group) sh h e = tt
core_keeps job t i s core (Some ending.Limit) sh h e = tt

owner_by : (job : JobData) (t i : ℕ) (s : State) (o : Option Thread) → Shape s.book → ThreadStands job t s o → (region s.book i).holder ≡ Current t → (thread : Thread) × (o ≡ Some thread) × KeepsStack thread.core.over
owner_by job t i s None sh h e = absurd (none_current t i s.book sh h e)
owner_by job t i s (Some thread) sh h e = (thread, refl, core_keeps job t i s thread.core thread.core.over sh h.1 e)

holder_by : (job : JobData) (t k : ℕ) (s : State) (o : Option Thread) → ThreadStands job t s o → stack_of s.book k ≡ Some t → (thread : Thread) × (o ≡ Some thread)
holder_by job t k s None h e = absurd (h.free k e)
holder_by job t k s (Some thread) h e = (thread, refl)

pub safe_at : (job : JobData) (m : Machine) (s : State) → Invariant job m s → IsSafeAt job m s.book
safe_at job m s st =
    let sh = st.holds.sound.book.shape in
    let at : (t : ℕ) (thread : Thread) → slice_get m.threads t ≡ Some thread → ThreadStands job t s (Some thread) = λ t thread e. subst (ThreadStands job t s) e (st.threads t) in
    record {
      stacks = λ t thread e k. stack_by t (in_force job thread.core) s.book sh (core_stacked job t s thread.core thread.core.over (at t thread e).1 k);
      owners = λ t i e. owner_by job t i s (slice_get m.threads t) sh (st.threads t) e;
      apart = sh.apart;
      held = λ t thread e k. (at t thread e).0 k;
      holders = λ t k e. holder_by job t k s (slice_get m.threads t) (st.threads t) e;
    }

-- ---- one turn

-- A load of the word below a supervisor stack's token finds the kernel's return address, and who gives a stack back holds it.
abbrev pub ReadsBelow : (t : ℕ) → Book → List ℕ → Option Access → Type 0
ReadsBelow t b words None = Unit {0}
ReadsBelow t b words (Some a) =
    ((k : ℕ) → k < 8 → a ≡ access.Load (token_word k - 1) → answer words a ≡ kernel_return) ×
    ((k : ℕ) → k < 8 → a ≡ access.CompareExchange (token_word k) (token k + 1) (token k) → stack_of b k ≡ Some t)

-- what a turn of thread t leads to, by whether it is born
pub record Turned (job : JobData) (m : Machine) (t : ℕ) (s : State) (o : Option Thread) : Type 0 where
  pub next : State
  pub is : books_after t s.book (thread_changes job m o) ≡ Some next.book
  pub stands : Invariant job (step_by job m t o) next
  pub returns : ThreadReturns job m s.book t o
  pub restores : ThreadTokens job m s.book next.book o
  pub gates : ThreadGates job m s.book o

-- and by its next access
pub record TurnedBy (job : JobData) (m : Machine) (t : ℕ) (s : State) (thread : Thread) (a : Option Access) : Type 0 where
  pub next : State
  pub is : books_after t s.book (access_changes job m thread a) ≡ Some next.book
  pub stands : Invariant job (act job m t thread a) next
  pub returns : AccessReturns job m thread (entries_of t s.book) a
  pub restores : AccessTokens job m thread s.book next.book a
  pub reads : ReadsBelow t s.book m.words a

pub stays : (job : JobData) (m : Machine) (t : ℕ) (s : State) (thread : Thread) → Invariant job m s → TurnedBy job m t s thread None
stays job m t s thread st = record { next = s; is = refl; stands = st; returns = tt; restores = tt; reads = tt }

-- ---- births in the list of threads

get_past : (threads : List Thread) (x : Thread) (y : ℕ) → length threads < y → slice_get (threads ++ x ∷ []) y ≡ slice_get threads y
get_past threads x y l =
    let more = length-append threads (x ∷ []) in
    slice_get_past (threads ++ x ∷ []) y (omega arith) ∙ sym (slice_get_past threads y (omega arith))

-- the list of threads after an access: the one that acted, the others, and perhaps a new one; and the counters of both kinds
pub record Enlisted (job : JobData) (now : List ℕ) (s next : State) (old new : List Thread) (t : ℕ) (thread : Thread) (changes : List Change) : Type 0 where
  pub here : slice_get new t ≡ Some thread
  pub others : (y : ℕ) → y ≢ t → (slice_get new y ≡ slice_get old y × NoneBorn changes y) ⊎ ((x : Thread) × (slice_get new y ≡ Some x) × IsNewborn job next y x)
  pub bounds : (made : ℕ) → HasMade made s.book → HasMade made next.book
  pub draws : sum_by (thread_draws job) new ≡ sum_by (thread_draws job) (slice_set old t thread)
  pub nexts : sum_by (thread_births job) new ≡ sum_by (thread_births job) (slice_set old t thread)
  pub least : 1 ≤ slice_index now next_word
  pub number : length new ≡ min (slice_index now next_word) 32

module _ (job : JobData) (j : IsJob job) (now : List ℕ) (s next : State) (old : List Thread) (t : ℕ) (thread : Thread) (inside : t < length old) where
  -- no thread is born
  enlisted_none : (changes : List Change) → birth changes ≡ None → ((y : ℕ) → t ≢ y → NoneBorn changes y → Relies y s.book next.book) → 1 ≤ slice_index now next_word →
      length old ≡ min (slice_index now next_word) 32 → Enlisted job now s next old (slice_set old t thread) t thread changes
  enlisted_none changes none rely least number = record {
    here = get_same old t thread inside;
    others = λ y n. inl (get_other old t y thread n, none_born changes y none);
    bounds = λ made p. has_made_kept (rely (t + 1) (λ z. omega arith) (none_born changes (t + 1) none)) p;
    draws = refl;
    nexts = refl;
    least = least;
    number = length-set old t thread ∙ number;
  }

  -- thread v is born, and stands last in the list
  enlisted_born : (arch : Arch) (v start : ℕ) → v ≡ length old → v < 32 → slice_index now next_word ≡ v + 1 → ((y : ℕ) → t ≢ y → NoneBorn (Born v start ∷ []) y → Relies y s.book next.book) →
      IsNewborn job next v (record { core = child_core arch v start; trace = [] }) → Enlisted job now s next old
      (slice_set old t thread ++ record { core = child_core arch v start; trace = [] } ∷ []) t thread (Born v start ∷ [])
  enlisted_born arch v start at few counter rely newcomer =
      let x : Thread = record { core = child_core arch v start; trace = [] } in
      let set = slice_set old t thread in
      let len = length-set old t thread in
      let more = length-append set (x ∷ []) in
      let last : slice_get (set ++ x ∷ []) v ≡ Some x = subst (λ n. slice_get (set ++ x ∷ []) n ≡ Some x) (len ∙ sym at) (get_last set x) in
      record {
        here = get_low set x t (omega arith) ∙ get_same old t thread inside;
        others = λ y n. elim (eqb_tells y v) [
          | inl u ↦ inr (x, subst (λ i. slice_get (set ++ x ∷ []) i ≡ Some x) (sym u.1) last, subst (λ i. IsNewborn job next i x) (sym u.1) newcomer)
          | inr u ↦ inl (
            elim (cases_lt y (length set)) [
              | inl l ↦ get_low set x y l
              | inr g ↦ get_past set x y (let d = u.1 in omega arith)
            ] ∙ get_other old t y thread n,
            (λ z. u.1 (sym z), tt),
          )
        ];
        bounds = λ made p. has_made_kept (rely (t + v + 1) (λ z. omega arith) (λ z. omega arith, tt)) p;
        draws = sum_by-append (thread_draws job) set (x ∷ []) ∙ omega arith;
        nexts = sum_by-append (thread_births job) set (x ∷ []) ∙ omega arith;
        least = omega arith;
        number = omega arith;
      }

  -- which of the two is told by the counters
  enlisted : (words : List ℕ) (a : Access) (arch : Arch) (past : List Visit) (changes : List Change) → now ≡ after words a → length words ≡ word_count → Shape s.book →
      books_after t s.book changes ≡ Some next.book → 1 ≤ slice_index words next_word → slice_index words next_word + 1 < 2 ^ 64 → length old ≡ min (slice_index words next_word) 32 →
      ((y : ℕ) → t ≢ y → NoneBorn changes y → Relies y s.book next.book) → ChildAt job (child_of arch changes) → CountsBy t past s.book a (answer words a) changes →
      Enlisted job now s next old (with_child (slice_set old t thread) (child_of arch changes)) t thread changes
  enlisted words a arch past changes left size shape is least room number rely waits (no_count d n none) =
      let same = ap (λ (l : List ℕ). slice_index l next_word) left ∙ unaltered a words next_word n in
      subst (λ o. Enlisted job now s next old (with_child (slice_set old t thread) (born arch o)) t thread changes) (sym none)
      (enlisted_none changes none rely (omega arith) (omega arith))
  enlisted words a arch past changes left size shape is least room number rely waits (draws_pages n most e once none) =
      let same = ap (λ (l : List ℕ). slice_index l next_word) left ∙ ap (λ c. slice_index (after words c) next_word) e ∙ unaltered (access.FetchAdd draw_word n) words next_word refl in
      subst (λ o. Enlisted job now s next old (with_child (slice_set old t thread) (born arch o)) t thread changes) (sym none)
      (enlisted_none changes none rely (omega arith) (omega arith))
  enlisted words a arch past changes left size shape is least room number rely waits (bears_child r start e few h once ev) =
      let v : ℕ = answer words a in
      let w : answer words a ≡ slice_index words next_word = ap (answer words) e in
      let within : next_word < length words = omega arith in
      let added = ap (λ (l : List ℕ). slice_index l next_word) left ∙ ap (λ c. slice_index (after words c) next_word) e ∙ get_or-set_same words next_word ((slice_index words next_word + 1) % 2 ^ 64) 0 within in
      let m : Made t r s.book = record { shape = shape; maker = h.maker } in
      let way = born_way m (answer words a) start h.first h.none.regions in
      let step = one_book t s.book next.book (Born (answer words a) start) changes ev is in
      let to : hand r (region s.book r).entries (Current (answer words a)) s.book ≡ next.book = cc in
      let waits' : Waits job (child_core arch (answer words a) start) = subst (λ cs. ChildAt job (child_of arch cs)) ev waits in
      subst (λ cs. Enlisted job now s next old (with_child (slice_set old t thread) (child_of arch cs)) t thread cs) (sym ev)
      (enlisted_born arch (answer words a) start (omega arith) few (omega arith) (λ y n none. rely y n (subst (λ cs. NoneBorn cs y) (sym ev) none)) (newborn shape h job j arch next to waits'))
  enlisted words a arch past changes left size shape is least room number rely waits (bears_nobody e many once none) =
      let w : answer words a ≡ slice_index words next_word = ap (answer words) e in
      let within : next_word < length words = omega arith in
      let added = ap (λ (l : List ℕ). slice_index l next_word) left ∙ ap (λ c. slice_index (after words c) next_word) e ∙ get_or-set_same words next_word ((slice_index words next_word + 1) % 2 ^ 64) 0 within in
      subst (λ o. Enlisted job now s next old (with_child (slice_set old t thread) (born arch o)) t thread changes) (sym none)
      (enlisted_none changes none rely (omega arith) (omega arith))

-- ---- one access

-- a thread of the list afterwards is the one that acted, another that was there, or the one that was born
data Whose (job : JobData) (s next : State) (old : List Thread) (t : ℕ) (thread : Thread) (changes : List Change) (y : ℕ) (x : Thread) : Type 0 where
  own : y ≡ t → thread ≡ x → Whose job s next old t thread changes y x
  other : t ≢ y → slice_get old y ≡ Some x → NoneBorn changes y → Whose job s next old t thread changes y x
  newcomer : IsNewborn job next y x → Whose job s next old t thread changes y x

whose : {job : JobData} {now : List ℕ} {s next : State} {old new : List Thread} {t : ℕ} {thread : Thread} {changes : List Change} (p : Enlisted job now s next old new t thread changes) (y : ℕ)
    (x : Thread) → slice_get new y ≡ Some x → Whose job s next old t thread changes y x
whose {new = new} {t = t} {thread = thread} p y x e = elim (eqb_tells y t) [
  | inl u ↦
      let here = p.here in
      let found : slice_get new t ≡ Some x = subst (λ n. slice_get new n ≡ Some x) u.1 e in
      own u.1 (cc)
  | inr u ↦ elim (p.others y u.1) [
    | inl k ↦ other (λ z. u.1 (sym z)) (sym k.0 ∙ e) k.1
    | inr k ↦ newcomer (let found = k.1 in let is : k.0 ≡ x = cc in subst (IsNewborn _ _ y) is k.2)
  ]
]

module _ (job : JobData) (j : IsJob job) (m : Machine) (t : ℕ) (s : State) (thread : Thread) (a : Access) (st : Invariant job m s) (e : slice_get m.threads t ≡ Some thread) where
  abbrev pub moved : Thread
  moved = thread_after thread (taken job thread.core (answer m.words a))

  abbrev pub changes_now : List Change
  changes_now = next_changes job thread.core (answer m.words a)

  stands_after : (new : List Thread) (d : Led job m.words t s thread.core a) → thread.core.arch.count < job.limit → Enlisted job (after m.words a) s d.next m.threads new t moved changes_now →
      Invariant job (machine (after m.words a) new) d.next
  stands_after new d low p =
      let inside = slice_get_within m.threads t thread e in
      record {
        holds = d.holds;
        threads = λ y. elim (eqb_tells y t) [
          | inl u ↦ subst (λ n. ThreadStands job n d.next (slice_get new n)) (sym u.1) (subst (ThreadStands job t d.next) (sym p.here) (d.held, d.stands))
          | inr u ↦ elim (p.others y u.1) [
            | inl k ↦ subst (ThreadStands job y d.next) (sym k.0) (thread_relies job y s d.next (slice_get m.threads y) (d.others y (λ z. u.1 (sym z)) k.1) (st.threads y))
            | inr k ↦ subst (ThreadStands job y d.next) (sym k.1) k.2.stands
          ]
        ];
        still = λ y x q. still_by d y x (whose p y x q);
        paid = record {
          least = p.least;
          number = p.number;
          counts = λ y x q. count_by d low y x (whose p y x q);
          draws =
              (let sum = sum_moved m.threads t thread moved (thread_draws job) inside e in
              let same = p.draws in
              let step = d.draws in
              let was = st.paid.draws in
              omega arith);
          nexts =
              (let sum = sum_moved m.threads t thread moved (thread_births job) inside e in
              let same = p.nexts in
              let step = d.nexts in
              let was = st.paid.nexts in
              omega arith);
        };
        made = λ y x q. made_by d p y x (whose p y x q);
      }
    where
      still_by : (d : Led job m.words t s thread.core a) (y : ℕ) (x : Thread) → Whose job s d.next m.threads t moved changes_now y x → Still (after m.words a) y d.next.book (trail_of job x.core)
      still_by d y x (own u is) =
          subst (λ n. Still (after m.words a) n d.next.book (trail_of job x.core)) (sym u)
          (subst (λ (z : Thread). Still (after m.words a) t d.next.book (trail_of job z.core)) is d.still)
      still_by d y x (other n q none) = d.spared y n none (trail_of job x.core) (st.still y x q)
      still_by d y x (newcomer c) = subst (Still (after m.words a) y d.next.book) (sym c.trail) (still_none (after m.words a) y d.next.book)

      count_by : (d : Led job m.words t s thread.core a) → thread.core.arch.count < job.limit → (y : ℕ) (x : Thread) → Whose job s d.next m.threads t moved changes_now y x → x.core.arch.count ≤ job.limit
      count_by d low y x (own u is) = let more = d.count in subst (λ (z : Thread). z.core.arch.count ≤ job.limit) is (omega arith)
      count_by d low y x (other n q none) = st.paid.counts y x q
      count_by d low y x (newcomer c) = let zero = c.count in omega arith

      made_by : {new : List Thread} (d : Led job m.words t s thread.core a) → Enlisted job (after m.words a) s d.next m.threads new t moved changes_now → (y : ℕ) (x : Thread) →
          Whose job s d.next m.threads t moved changes_now y x → HasMade x.core.arch.made d.next.book
      made_by d p y x (own u is) = subst (λ (z : Thread). HasMade z.core.arch.made d.next.book) is (subst (λ n. HasMade n d.next.book) (sym d.made) (p.bounds thread.core.arch.made (st.made t thread e)))
      made_by d p y x (other n q none) = p.bounds x.core.arch.made (st.made y x q)
      made_by d p y x (newcomer c) = c.made

  pub acts : (changes : ℕ → List Change) → ThreadStands job t s (Some thread) → InRow job t s thread.core → row_played job thread.core.arch thread.core.vals ≡ Wants a changes → TurnedBy job m t s thread (Some a)
  acts changes at r w =
      let inside = slice_get_within m.threads t thread e in
      let before = counters_tell job m.words m.threads t thread s.book j st.paid e (λ y q. subst (ThreadStands job y s) q (st.threads y)) in
      let d = led job j m.words t s thread.core a changes before st.holds (st.still t thread e) at.0 r w in
      let size = st.holds.size in
      let bore = child_taken job thread.core (answer m.words a) a changes w in
      let waits = subst (ChildAt job) bore (child_at job thread.core (answer m.words a) r.waits) in
      let p = enlisted job j (after m.words a) s d.next m.threads t moved inside m.words a thread.core.arch
      (trail_of job thread.core) changes_now refl size st.holds.sound.book.shape d.is st.paid.least before.nexts st.paid.number d.others waits (d.owed.counts m.words refl st.holds) in
      record {
        next = d.next;
        is = d.is;
        stands = subst (λ o. Invariant job (machine (after m.words a) (with_child (slice_set m.threads t moved) o)) d.next) (sym bore)
            (stands_after (with_child (slice_set m.threads t moved) (child_of thread.core.arch changes_now)) d r.waits.count p);
        returns = d.returns;
        restores = d.restores;
        reads = (
          λ k l e'.
              let touching : touches a (token_word k - 1) ≡ true = (let same : (token_word k - 1 == token_word k - 1) ≡ true = grind (arith, nat_tests) in ap (λ c. touches c (token_word k - 1)) e' ∙ same) in
              sym (ap (λ c. leaves_word c (answer m.words a)) e') ∙ (d.owed.below m.words refl st.holds).address k l touching,
          λ k l e'.
              let word : (token_word k == token_word k) ≡ true = grind (arith, nat_tests) in
              let expected : (token k + 1 == token k + 1) ≡ true = grind (arith, nat_tests) in
              let value : (token k == token k) ≡ true = grind (arith, nat_tests) in
              (d.owed.below m.words refl st.holds).frees k l (ap (λ c. frees_token c k) e' ∙ rw (word, expected, value) refl),
        );
      }
