-- The numbers of threads in a run: the place of each in the list, the draws of new ones, and how far the counters go.
-- Source: own.
use Rattle.std.proofs.Common.{◌≡◌, ℕ, List, [], ◌∷◌, Option, Some, None, refl, sym, ◌∙◌, ap, subst, arith}
use Rattle.std.specs.Prelude.{slice_get, slice_index}
use Rattle.cet_words.specs.Access.{answer, after}
use Rattle.cet_words.specs.Change.{Change}
use Rattle.cet_words.specs.Job.{JobData, IsJob}
use Rattle.cet_words.specs.declared.accesses.Access.{Access}
use Rattle.cet_words.specs.declared.accesses.Access.TheVariants as access
use Rattle.cet_isa.specs.declared.threads.Arch.{Arch}
use Rattle.cet_isa.specs.declared.threads.End.{End}
use Rattle.cet_isa.specs.declared.threads.End.TheVariants as ending
use Rattle.cet_book.specs.Book.{first_book}
use Rattle.cet_page.specs.Core.{Core, first_core, access_of, born, child_core, child_of, next_access, next_changes, row_played, taken, wanted}
use Rattle.cet_page.specs.Machine.{Machine, Starts, Thread, run, step}
use Rattle.cet_page.specs.Numbered.{CountsLow, Draws, bears, bears_nobody, leaves, DrawsRight, Numbered}
use Rattle.cet_page.specs.Script.{Wants, birth}
use Rattle.cet_page.specs.Trail.{trail_of}
use Rattle.cet_page.proofs.ChildLaws.{child_taken}
use Rattle.cet_own.specs.Past.{draw_word, drew, next_word, numbered}
use Rattle.cet_own.specs.Facts.{thread_births, thread_draws}
use Rattle.cet_own.specs.Claims as counters
use Rattle.cet_own.specs.Claims.{CountsBy}
use Rattle.cet_own.specs.Owed.{State}
use Rattle.cet_own.proofs.Paid.{counters_tell, few_sum, one_most, unaltered}
use Rattle.cet_own.proofs.Run.{first_stands, turn}
use Rattle.cet_own.proofs.StandsAt.{core_at}
use Rattle.cet_own.specs.Threads.{CoreStands, ThreadStands}
use Rattle.cet_own.proofs.Turn.{led}
use Rattle.cet_own.proofs.Turns.{Invariant}

-- ---- the place of a thread

pub core_number : (job : JobData) (t : ℕ) (s : State) (core : Core) (over : Option End) → CoreStands job t s core over → core.arch.number ≡ t
core_number job t s core None h = h.number
core_number job t s core (Some (ending.Exit status)) h = h.2
core_number job t s core (Some ending.Group) h = h.3
core_number job t s core (Some ending.Limit) h = h.3

module _ (job : JobData) (j : IsJob job) (m : Machine) (s : State) (st : Invariant job m s) where
  pub thread_stands : (t : ℕ) (thread : Thread) → slice_get m.threads t ≡ Some thread → ThreadStands job t s (Some thread)
  thread_stands t thread e = subst (ThreadStands job t s) e (st.threads t)

  pub numbered_at : Numbered job m
  numbered_at = record {
    number = λ t thread e. core_number job t s thread.core thread.core.over (thread_stands t thread e).1;
    core = λ t thread e. core_at job t s thread thread.core.over (thread_stands t thread e).1;
    count = st.paid.number;
    first = (let least = st.paid.least in let count = st.paid.number in omega arith);
    words = st.holds.size;
  }

  -- ---- the counters

  pub counts_low : CountsLow m.words
  counts_low =
      let limit = j.limit_high in
      let number = st.paid.number in
      let draws = st.paid.draws in
      let nexts = st.paid.nexts in
      let none : Thread = record { core = first_core job; trace = [] } in
      let d = few_sum job m.threads none (thread_draws job) (omega arith) (λ i x e. let c = st.paid.counts i x e in let o = one_most (drew (trail_of job x.core)) in omega arith) in
      let n = few_sum job m.threads none (thread_births job) (omega arith) (λ i x e. let c = st.paid.counts i x e in let o = one_most (numbered (trail_of job x.core)) in omega arith) in
      record { next = omega arith; draw = omega arith }

  -- ---- the draw of a number

  -- what an access of a thread does to the counters
  counts_row : (t : ℕ) (thread : Thread) (a : Access) (changes : ℕ → List Change) (over : Option End) → slice_get m.threads t ≡ Some thread → over ≡ None → CoreStands job t s thread.core over →
      row_played job thread.core.arch thread.core.vals ≡ Wants a changes → CountsBy t (trail_of job thread.core) s.book a (answer m.words a) (next_changes job thread.core (answer m.words a))
  counts_row t thread a changes (Some end) e is r w = cc
  counts_row t thread a changes None e is r w =
      let before = counters_tell job m.words m.threads t thread s.book j st.paid e (λ y q. subst (ThreadStands job y s) q (st.threads y)) in
      let d = led job j m.words t s thread.core a changes before st.holds (st.still t thread e) (thread_stands t thread e).0 r w in
      d.owed.counts m.words refl st.holds

  pub counts_at : (t : ℕ) (thread : Thread) (a : Access) (changes : ℕ → List Change) → slice_get m.threads t ≡ Some thread → thread.core.over ≡ None →
      row_played job thread.core.arch thread.core.vals ≡ Wants a changes → CountsBy t (trail_of job thread.core) s.book a (answer m.words a) (next_changes job thread.core (answer m.words a))
  counts_at t thread a changes e is w = counts_row t thread a changes thread.core.over e is (thread_stands t thread e).1 w

  nobody : (a : Access) (arch : Arch) (changes : List Change) (child : Option Core) → child ≡ child_of arch changes → birth changes ≡ None → child ≡ None
  nobody a arch changes child is none = is ∙ ap (born arch) none

  draws_by : (t : ℕ) (thread : Thread) (a : Access) (changes : List Change) (child : Option Core) → child ≡ child_of thread.core.arch changes →
      CountsBy t (trail_of job thread.core) s.book a (answer m.words a) changes → Draws m a child
  draws_by t thread a changes child is (counters.no_count d n none) =
      leaves (unaltered a m.words next_word n) (nobody a thread.core.arch changes child is none)
  draws_by t thread a changes child is (counters.draws_pages n most e once none) =
      leaves (ap (λ c. slice_index (after m.words c) next_word) e ∙ unaltered (access.FetchAdd draw_word n) m.words next_word refl) (nobody a thread.core.arch changes child is none)
  draws_by t thread a changes child is (counters.bears_child r start e few h once ev) =
      let found : answer m.words a ≡ slice_index m.words next_word = ap (answer m.words) e in
      let count = st.paid.number in
      bears (child_core thread.core.arch (answer m.words a) start) e few (omega arith) (is ∙ ap (child_of thread.core.arch) ev) (record { number = refl; count = refl; vals = refl; over = refl })
  draws_by t thread a changes child is (counters.bears_nobody e many once none) =
      bears_nobody e many (nobody a thread.core.arch changes child is none)

  draws_core : (t : ℕ) (thread : Thread) (a : Access) (over : Option End) → slice_get m.threads t ≡ Some thread → thread.core.over ≡ over → CoreStands job t s thread.core over →
      next_access job thread.core ≡ Some a → Draws m a (taken job thread.core (answer m.words a)).child
  unfolding next_access
  draws_core t thread a (Some end) e is r next = (let none : access_of job thread.core (Some end) ≡ Some a = sym (ap (access_of job thread.core) is) ∙ next in cc)
  draws_core t thread a None e is r next =
      let w = r.waits.waits in
      let same : Some w.0 ≡ Some a = sym (ap wanted w.2) ∙ sym (ap (access_of job thread.core) is) ∙ next in
      let at : w.0 ≡ a = cc in
      let want : row_played job thread.core.arch thread.core.vals ≡ Wants a w.1 = w.2 ∙ ap (λ b. Wants b w.1) at in
      let v = answer m.words a in
      draws_by t thread a (next_changes job thread.core v) (taken job thread.core v).child (child_taken job thread.core v a w.1 want) (counts_at t thread a w.1 e is want)

  pub draws_right : DrawsRight job m
  draws_right t thread a e next = draws_core t thread a thread.core.over e refl (thread_stands t thread e).1 next

-- ---- runs

-- what the invariant tells at each moment holds after every run
pub at_end : (At : Machine → Type 0) (job : JobData) (j : IsJob job) → ((m : Machine) (s : State) → Invariant job m s → At m) → (turns : List ℕ) (m : Machine) (s : State) → Invariant job m s → At (run job m turns)
at_end At job j at [] m s st = at m s st
at_end At job j at (t ∷ ts) m s st =
    let d = turn job j m t s st in
    at_end At job j at ts (step job m t) d.next d.stands

module _ (job : JobData) (start : Machine) (turns : List ℕ) (j : IsJob job) (s : Starts job start) where
  pub numbered_run : Numbered job (run job start turns)
  numbered_run = at_end (Numbered job) job j (numbered_at job j) turns start (record { book = first_book }) (first_stands job start j s)

  pub draws_run : DrawsRight job (run job start turns)
  draws_run = at_end (DrawsRight job) job j (draws_right job j) turns start (record { book = first_book }) (first_stands job start j s)

  pub low_run : CountsLow (run job start turns).words
  low_run = at_end (λ m. CountsLow m.words) job j (counts_low job j) turns start (record { book = first_book }) (first_stands job start j s)
