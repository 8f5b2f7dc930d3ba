-- The invariant holds along every run from the start, and what follows from it. Source: own.
use Rattle.cet_words.specs.declared.accesses.Access.{Access}
use Rattle.cet_words.specs.Layout.{token}
use Rattle.cet_words.specs.Access.{answer}
use Rattle.cet_own.specs.Enters.{TurnEnters}
use Rattle.cet_own.specs.Gates.{AccessGates, GatesExactly, RestoresExactly, TurnGates, TurnTells}
use Rattle.cet_own.specs.Restores.{TurnRestores}
use Rattle.cet_own.proofs.Exchanges.{turn_enters, turn_restores}
use Rattle.std.proofs.Common.{◌≡◌, ℕ, List, [], ◌∷◌, Option, Some, None, refl, sym, ◌∙◌, ap, subst, ◌+◌, arith}
use Rattle.std.specs.Prelude.{slice_get, ◌↔◌}
use Rattle.cet_words.specs.Job.{JobData, IsJob}
use Rattle.cet_isa.specs.declared.threads.End.{End}
use Rattle.cet_book.specs.Book.{Book, region, books_after, first_book, stack_of}
use Rattle.cet_page.specs.Core.{wanted, access_of, next_access}
use Rattle.cet_page.specs.Machine.{Thread, Machine, run, step, Starts}
use Rattle.cet_own.specs.Along.{Along}
use Rattle.cet_own.specs.ExitWord.{EndsRight}
use Rattle.cet_own.specs.Event.{turn_changes}
use Rattle.cet_own.specs.Safe.{AccessReturns, TurnReturns, IsSafeAt, Safe}
use Rattle.cet_own.specs.Owed.{State}
use Rattle.cet_own.specs.ToldTokens.{TurnTokens}
use Rattle.cet_own.proofs.First.{first_holds, first_threads, first_still, first_paid, first_made}
use Rattle.cet_own.specs.Facts.{busy}
use Rattle.cet_own.specs.Stands.{Stands}
use Rattle.cet_own.proofs.StandsAt.{stands_at}
use Rattle.cet_own.specs.Threads.{CoreStands, ThreadStands}
use Rattle.cet_own.proofs.Turns.{Invariant, safe_at, Turned, TurnedBy, stays, acts, ReadsBelow}

-- a thread's turn, by its end
turned_core : (job : JobData) (j : IsJob job) (m : Machine) (t : ℕ) (s : State) (thread : Thread) (over : Option End) → Invariant job m s → slice_get m.threads t ≡ Some thread →
    ThreadStands job t s (Some thread) → thread.core.over ≡ over → CoreStands job t s thread.core over → TurnedBy job m t s thread (next_access job thread.core)
unfolding next_access
turned_core job j m t s thread (Some e) st found at is h = subst (TurnedBy job m t s thread) (sym (ap (access_of job thread.core) is)) (stays job m t s thread st)
turned_core job j m t s thread None st found at is h =
    let w = h.waits.waits in
    subst (TurnedBy job m t s thread) (sym (ap (access_of job thread.core) is ∙ ap wanted w.2)) (acts job j m t s thread w.0 st found w.1 at h w.2)

-- ---- what the kernel's entry finds

free_by : (o : Option ℕ) (p v : ℕ) → v ≡ p + busy o → v ≡ p ↔ o ≡ None
free_by None p v e = (λ f. refl, λ n. omega arith)
free_by (Some t) p v e = (λ f. absurd (omega arith), λ n. cc)

finds_gate : (job : JobData) (m : Machine) (t : ℕ) (s : State) (thread : Thread) → Invariant job m s → slice_get m.threads t ≡ Some thread → (a : Option Access) → ReadsBelow t s.book m.words a → AccessGates m s.book thread a
finds_gate job m t s thread st found None r = tt
finds_gate job m t s thread st found (Some a) r = record {
  enters = λ k value l e. free_by (stack_of s.book k) (token k) (answer m.words a) (ap (answer m.words) e ∙ st.holds.gates k l);
  reads = λ k l e. r.0 k l e;
  leaves = λ k l e. ap (answer m.words) e ∙ st.holds.gates k l ∙ ap (λ o. token k + busy o) (r.1 k l e);
}

turned_by : (job : JobData) (j : IsJob job) (m : Machine) (t : ℕ) (s : State) (o : Option Thread) → Invariant job m s → slice_get m.threads t ≡ o → ThreadStands job t s o → Turned job m t s o
turned_by job j m t s None st found at = record { next = s; is = refl; stands = st; returns = tt; restores = tt; gates = tt }
turned_by job j m t s (Some thread) st found at =
    let d = turned_core job j m t s thread thread.core.over st found at refl at.1 in
    let sh = st.holds.sound.book.shape in
    record {
      next = d.next;
      is = d.is;
      stands = d.stands;
      restores = d.restores;
      gates = finds_gate job m t s thread st found (next_access job thread.core) d.reads;
      returns = λ i e. subst (λ n. AccessReturns job m thread (region s.book n).entries (next_access job thread.core)) (sh.alone t i e) d.returns;
    }

-- what a turn leads to
pub record Goes (job : JobData) (m : Machine) (t : ℕ) (s : State) : Type 0 where
  pub next : State
  pub is : books_after t s.book (turn_changes job m t) ≡ Some next.book
  pub stands : Invariant job (step job m t) next
  pub returns : TurnReturns job m s.book t
  pub restores : TurnTokens job m s.book next.book t
  pub gates : TurnGates job m s.book t
  pub takes : TurnRestores job m s.book t
  pub enters : TurnEnters job m s.book t

-- and what it takes, by what it tells and finds of tokens
turn_from : (job : JobData) (j : IsJob job) (m : Machine) (t : ℕ) (s : State) → Invariant job m s → Turned job m t s (slice_get m.threads t) → Goes job m t s
unfolding turn_changes step
turn_from job j m t s st d = record {
  next = d.next;
  is = d.is;
  stands = d.stands;
  returns = d.returns;
  restores = d.restores;
  gates = d.gates;
  takes = turn_restores job m t s d.next.book st d.restores;
  enters = turn_enters job m t s j st d.gates;
}

pub turn : (job : JobData) (j : IsJob job) (m : Machine) (t : ℕ) (s : State) → Invariant job m s → Goes job m t s
turn job j m t s st = turn_from job j m t s st (turned_by job j m t s (slice_get m.threads t) st refl (st.threads t))

-- what the invariant tells at each moment, and each turn of itself, holds along a run
pub along_from : (At : Machine → Book → Type 0) (Turn : Machine → (before after : Book) → ℕ → Type 0) (job : JobData) (j : IsJob job) → ((m : Machine) (s : State) → Invariant job m s → At m s.book) →
    ((m : Machine) (t : ℕ) (s : State) → (d : Goes job m t s) → Turn m s.book d.next.book t) → (turns : List ℕ) (m : Machine) (s : State) → Invariant job m s → Along At Turn job m s.book turns
along_from At Turn job j at by [] m s st = at m s st
along_from At Turn job j at by (t ∷ ts) m s st =
    let d = turn job j m t s st in
    (at m s st, d.next.book, d.is, by m t s d, along_from At Turn job j at by ts (step job m t) d.next d.stands)

pub first_stands : (job : JobData) (start : Machine) → IsJob job → Starts job start → Invariant job start (record { book = first_book })
first_stands job start j s = record {
  holds = first_holds job.image start.words s.words;
  threads = first_threads job start j s;
  still = λ t x e. first_still job start s t x e;
  paid = first_paid job start s;
  made = λ t x e. first_made job start s t x e;
}

pub safe_run : (job : JobData) (start : Machine) (turns : List ℕ) → IsJob job → Starts job start → Safe job start first_book turns
safe_run job start turns j s =
    along_from (IsSafeAt job) (λ m before after t. TurnReturns job m before t) job j (safe_at job) (λ m t s d. d.returns) turns start (record { book = first_book }) (first_stands job start j s)

pub stands_run : (job : JobData) (start : Machine) (turns : List ℕ) → IsJob job → Starts job start → Along (Stands job) (TurnTells job) job start first_book turns
stands_run job start turns j s =
    along_from (Stands job) (TurnTells job) job j (stands_at job) (λ m t s d. record { tokens = d.restores; gates = d.gates; restores = d.takes; enters = d.enters }) turns start (record { book = first_book }) (first_stands job start j s)

pub restores_run : (job : JobData) (start : Machine) (turns : List ℕ) → IsJob job → Starts job start → RestoresExactly job start first_book turns
restores_run job start turns j s =
    along_from (λ m b. Unit {0}) (λ m b next t. TurnRestores job m b t) job j (λ m s st. tt) (λ m t s d. d.takes) turns start (record { book = first_book }) (first_stands job start j s)

pub gates_run : (job : JobData) (start : Machine) (turns : List ℕ) → IsJob job → Starts job start → GatesExactly job start first_book turns
gates_run job start turns j s =
    along_from (λ m b. Unit {0}) (λ m b next t. TurnEnters job m b t × TurnGates job m b t) job j (λ m s st. tt) (λ m t s d. (d.enters, d.gates)) turns start (record { book = first_book }) (first_stands job start j s)

-- EXIT at a run's end
exit_from : (job : JobData) (j : IsJob job) (turns : List ℕ) (m : Machine) (s : State) → Invariant job m s → EndsRight (run job m turns)
exit_from job j [] m s st = st.holds.ending
exit_from job j (t ∷ ts) m s st =
    let d = turn job j m t s st in
    exit_from job j ts (step job m t) d.next d.stands

pub exit_run : (job : JobData) (start : Machine) (turns : List ℕ) → IsJob job → Starts job start → EndsRight (run job start turns)
exit_run job start turns j s = exit_from job j turns start (record { book = first_book }) (first_stands job start j s)
