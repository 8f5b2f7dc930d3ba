-- In every run each access is of its class, and the class keeps the ownership invariant. Source: own.
use Rattle.std.proofs.Common.{◌≡◌, ℕ, true, List, Option, Some, None, refl, sym, ◌∙◌, ap, subst}
use Rattle.std.specs.Prelude.{slice_get}
use Rattle.cet_words.specs.Access.{answer}
use Rattle.cet_words.specs.Change.{Change}
use Rattle.cet_words.specs.Job.{JobData, IsJob}
use Rattle.cet_words.specs.declared.accesses.Access.{Access}
use Rattle.cet_isa.specs.declared.threads.Arch.{Arch}
use Rattle.cet_isa.specs.declared.threads.End.{End}
use Rattle.cet_book.specs.Book.{Book, first_book}
use Rattle.cet_page.specs.Core.{row_played, wanted, access_of, next_access, next_changes}
use Rattle.cet_page.specs.Machine.{Machine, Thread, run, step}
use Rattle.cet_page.specs.Script.{Wants}
use Rattle.cet_own.specs.Class.{all_of, class_by}
use Rattle.cet_own.specs.Keeps.{HasClass, HasClassInRuns, Keeps, TurnStands}
use Rattle.cet_own.specs.Stands.{Stands}
use Rattle.cet_own.specs.Event.{access_changes, thread_changes, turn_changes}
use Rattle.cet_own.specs.declared.access_classes.Class.{Class}
use Rattle.cet_own.proofs.CoveredRun.{ran, first_recorded}
use Rattle.cet_own.specs.Owed.{State}
use Rattle.cet_own.proofs.Paid.{counters_tell}
use Rattle.cet_own.proofs.Run.{first_stands, turn}
use Rattle.cet_own.proofs.StandsAt.{stands_at}
use Rattle.cet_own.proofs.StandsBack.{carried}
use Rattle.cet_own.specs.Threads.{CoreStands, InRow, ThreadStands}
use Rattle.cet_own.proofs.Turn.{led}
use Rattle.cet_own.proofs.Turns.{Invariant, core_stacked}

module _ (job : JobData) (j : IsJob job) (m : Machine) (s : State) (st : Invariant job m s) (t : ℕ) (thread : Thread) (found : slice_get m.threads t ≡ Some thread) where
  thread_stands : ThreadStands job t s (Some thread)
  thread_stands = subst (ThreadStands job t s) found (st.threads t)

  -- of a thread that waits for it
  row_fits : (a : Access) (changes : ℕ → List Change) → InRow job t s thread.core → row_played job thread.core.arch thread.core.vals ≡ Wants a changes →
      all_of (class_by a thread.core.arch (answer m.words a)) (next_changes job thread.core (answer m.words a)) ≡ true
  row_fits a changes r w =
      let tell = counters_tell job m.words m.threads t thread s.book j st.paid found (λ y q. subst (ThreadStands job y s) q (st.threads y)) in
      let d = led job j m.words t s thread.core a changes tell st.holds (st.still t thread found) thread_stands.0 r w in
      d.owed.fits m.words refl st.holds thread.core.arch.ssp thread.core.arch.held (core_stacked job t s thread.core None r tt) thread_stands.0

  core_fits : (a : Access) (over : Option End) → thread.core.over ≡ over → CoreStands job t s thread.core over → next_access job thread.core ≡ Some a →
      all_of (class_by a thread.core.arch (answer m.words a)) (next_changes job thread.core (answer m.words a)) ≡ true
  unfolding next_access
  core_fits a (Some e) is h q = (let none = sym (ap (access_of job thread.core) is) ∙ q in cc)
  core_fits a None is h q =
      let w = h.waits.waits in
      let some : Some w.0 ≡ Some a = sym (ap (access_of job thread.core) is ∙ ap wanted w.2) ∙ q in
      let same : w.0 ≡ a = cc in
      subst (λ x. all_of (class_by x thread.core.arch (answer m.words x)) (next_changes job thread.core (answer m.words x)) ≡ true) same (row_fits w.0 w.1 h w.2)

  changes_are : (a : Access) → next_access job thread.core ≡ Some a → turn_changes job m t ≡ next_changes job thread.core (answer m.words a)
  unfolding turn_changes
  changes_are a q = ap (thread_changes job m) found ∙ ap (access_changes job m thread) q

  pub keeps : (a : Access) → next_access job thread.core ≡ Some a → Keeps (class_by a thread.core.arch (answer m.words a)) job m s.book t
  keeps a q =
      let d = turn job j m t s st in
      record {
        fits = ap (all_of (class_by a thread.core.arch (answer m.words a))) (changes_are a q) ∙ core_fits a thread.core.over refl thread_stands.1 q;
        next = d.next.book;
        is = d.is;
        stands = stands_at job (step job m t) d.next d.stands;
      }

pub has_class : (c : Class) (a : Access) (arch : Arch) (value : ℕ) → c ≡ class_by a arch value → HasClass c a arch value
has_class c a arch value e = λ job m b t j stands at.
    let same : class_by a at.thread.core.arch (answer m.words a) ≡ c = ap (λ (x : Arch). class_by a x (answer m.words a)) at.state ∙ ap (class_by a arch) at.answers ∙ sym e in
    subst (λ x. Keeps x job m b t) same (keeps job j m (record { book = b }) (carried job m b stands) t at.thread at.found a at.wants)

-- and so in every run
pub has_class_in_runs : (c : Class) (a : Access) (arch : Arch) (value : ℕ) → c ≡ class_by a arch value → HasClassInRuns c a arch value
has_class_in_runs c a arch value e = λ job start turns t j s at.
    let r = ran job j turns start (record { book = first_book }) (first_stands job start j s) (first_recorded job start s) in
    (r.next.book, r.is, has_class c a arch value e job (run job start turns) r.next.book t j (stands_at job (run job start turns) r.next r.stands) at)

-- a turn keeps the invariant
pub turn_stands : (job : JobData) (m : Machine) (b : Book) (t : ℕ) → IsJob job → Stands job m b → TurnStands job m b t
turn_stands job m b t j stands =
    let d = turn job j m t (record { book = b }) (carried job m b stands) in
    (d.next.book, d.is, stands_at job (step job m t) d.next d.stands)
