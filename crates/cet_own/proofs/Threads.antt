-- Where each thread of a machine stands, and one access of a thread. Source: own.
use Rattle.std.proofs.Common.{List, [], ◌≡◌, ℕ, ◌+◌, Bool, true, false, Option, Some, None, refl, sym, ◌∙◌, ap, subst}
use Rattle.std.specs.Prelude.{option_map, ◌==◌, if◌then◌else◌}
use Rattle.cet_words.specs.Change.{Change}
use Rattle.cet_words.specs.Job.{JobData, IsJob}
use Rattle.cet_words.specs.declared.accesses.Access.{Access}
use Rattle.cet_isa.specs.declared.threads.Arch.{Arch}
use Rattle.cet_isa.specs.declared.threads.End.{End}
use Rattle.cet_isa.specs.declared.threads.End.TheVariants as ending
use Rattle.cet_book.specs.Book.{Book}
use Rattle.cet_page.specs.Script.{Played, Completed, Faulted, Wants}
use Rattle.cet_page.specs.ValsData.{ValsData, no_vals}
use Rattle.cet_page.specs.Row.{row}
use Rattle.cet_page.specs.Core.{Core, After, unheld, kept_by, faulted, core_by, noted_by}
use Rattle.cet_page.specs.Within.{CoreAt, IsCore}
use Rattle.cet_page.specs.Machine.{Thread}
use Rattle.cet_page.specs.declared.finishes.Finish.{Finish}
use Rattle.cet_page.specs.declared.finishes.Finish.TheVariants.{Noted, Posted, Exited, Stopped}
use Rattle.cet_own.specs.Safe.{NotedReturns}
use Rattle.cet_own.specs.ToldTokens.{NotedTokens}
use Rattle.cet_page.specs.Trail.{Visit, row_trail, trail_of}
use Rattle.cet_own.specs.Past.{held_in}
use Rattle.cet_own.specs.Facts.{AllTold}
use Rattle.cet_own.proofs.Told.{all_last, free_note}
use Rattle.cet_own.proofs.Still.{still_none}
use Rattle.cet_own.specs.Claims.{Still, AtRest}
use Rattle.cet_own.proofs.Frame.{others_at, OnCame}
use Rattle.cet_own.proofs.Standing.{stacked_kept, rest_kept, none_kept}
use Rattle.cet_book.specs.Relied.{Relies, Held}
use Rattle.cet_own.specs.Owed.{State, own_stack, rules}
use Rattle.cet_own.specs.Threads.{During, Fails, entries_of, Ends, Left, InRow, CoreStands, ThreadStands}
use Rattle.cet_own.proofs.Rows.{row_claim}

-- ---- what the others do

held_relies : (t : ℕ) (b now : Book) (held : Option ℕ) → Relies t b now → Held t b held → Held t now held
held_relies t b now held r h k = (λ e. r.held k ((h k).0 e), λ e. (h k).1 (r.free k e))

row_relies : (job : JobData) (t : ℕ) (s now : State) (core : Core) → Relies t s.book now.book → InRow job t s core → InRow job t now core
row_relies job t s now core r h =
    let r' : Relies core.arch.number s.book now.book = subst (λ n. Relies n s.book now.book) (sym h.number) r in
    record {
      waits = h.waits;
      number = h.number;
      holding = h.holding;
      own = h.own;
      told = all_last job.image {b = s.book} {next = now.book} (record { grows = r.grows; start = r.start; end = r.end }) (trail_of job core) h.told;
      before = h.before;
      left = others_at (rules job core.arch.number) (During (unheld core.arch)) (Ends job (unheld core.arch)) (λ p. Fails job (unheld core.arch)) [] h.before s now
          (row job (unheld core.arch)) core.vals.accesses core.vals.values h.waits.waits.0 h.waits.waits.1 r' (λ p. stacked_kept r') h.left h.waits.waits.2;
    }

core_relies : (job : JobData) (t : ℕ) (s now : State) (core : Core) (over : Option End) → Relies t s.book now.book → CoreStands job t s core over → CoreStands job t now core over
core_relies job t s now core None r h = row_relies job t s now core r h
core_relies job t s now core (Some (ending.Exit status)) r h = (none_kept r h.0, h.1, h.2)
core_relies job t s now core (Some ending.Group) r h = (rest_kept r h.0, h.1, h.2, h.3)
core_relies job t s now core (Some ending.Limit) r h = (rest_kept r h.0, h.1, h.2, h.3)

pub thread_relies : (job : JobData) (t : ℕ) (s now : State) (o : Option Thread) → Relies t s.book now.book → ThreadStands job t s o → ThreadStands job t now o
thread_relies job t s now None r h = none_kept r h
thread_relies job t s now (Some thread) r h = (held_relies t s.book now.book thread.core.arch.held r h.0, core_relies job t s now thread.core thread.core.over r h.1)

-- ---- what the thread itself comes to

recorded_stands : (job : JobData) (next : Arch) (s : State) (b : Bool) → next.held ≡ None → IsJob job → AtRest next.number s.book next.ssp →
    CoreAt job (record { arch = next; vals = no_vals; over = if b then Some ending.Limit else None }) (if b then Some ending.Limit else None) →
    CoreStands job next.number s (record { arch = next; vals = no_vals; over = if b then Some ending.Limit else None }) (if b then Some ending.Limit else None)
recorded_stands job next s true none j rest w = (rest, refl, w, refl)
recorded_stands job next s false none j rest w = record {
  waits = w;
  number = refl;
  holding = none;
  own = λ k e. (let z : None ≡ Some k = sym none ∙ e in cc);
  told = tt;
  before = s;
  left = row_claim job j (unheld next) s s (record { number = w.state.number; made = w.state.made }) rest;
}

-- the thread and its record, by what its row has come to
abbrev pub left_by : JobData → Arch → Option ℕ → ValsData → Played Finish → Option Core → After
left_by job arch held seen c child = record { core = core_by job arch held seen c; noted = noted_by arch c; child = child }

pub came_stands : (job : JobData) (core : Core) (held : Option ℕ) (seen : ValsData) (past : List Visit) (before s : State) (child : Option Core) (c : Played Finish) →
    Held core.arch.number s.book held → held ≡ held_in (row_trail job core.arch seen) → ((k : ℕ) → held ≡ Some k → k ≡ own_stack job core.arch.number) →
    AllTold job.image s.book (row_trail job core.arch seen) → IsJob job → Left job (unheld core.arch) before s seen →
    OnCame (rules job core.arch.number) (During (unheld core.arch)) (Ends job (unheld core.arch)) (λ p. Fails job (unheld core.arch)) past before s c → IsCore job (core_by job core.arch held seen c) →
    CoreStands job core.arch.number s (core_by job core.arch held seen c) (core_by job core.arch held seen c).over ×
    NotedReturns job (entries_of core.arch.number before.book) core (left_by job core.arch held seen c child) (noted_by core.arch c) × NotedTokens before.book s.book (noted_by core.arch c)
came_stands job core held seen past before s child (Wants a changes) note holding own told j l o w = (record { waits = w; number = refl; holding = holding; own = own; told = told; before = before; left = l }, refl, tt)
came_stands job core held seen past before s child (Faulted e) note holding own told j l o w =
    (recorded_stands job (kept_by core.arch held (faulted core.arch e)) s (core.arch.count + 1 == job.limit) (free_note core.arch.number s.book held o.0.free note) j o.0 w, λ r. (o.1 r, refl, refl), o.2)
came_stands job core held seen past before s child (Completed (Noted next r) left values) note holding own told j l o w =
    (recorded_stands job (kept_by core.arch held next) s (next.count == job.limit) (free_note core.arch.number s.book held o.0.free note) j o.0 w, o.1 core.arch.held held, o.2)
came_stands job core held seen past before s child (Completed (Posted next) left values) note holding own told j l o w =
    (recorded_stands job (kept_by core.arch held next) s false (free_note core.arch.number s.book held o.0.free note) j o.0 w, o.3, tt)
came_stands job core held seen past before s child (Completed (Exited next r status) left values) note holding own told j l o w = ((o.0, w, refl), o.1 core.arch.held held, o.2)
came_stands job core held seen past before s child (Completed Stopped left values) note holding own told j l o w = ((o.0, refl, w, refl), refl, tt)

-- a row that goes on has its trail, and one that is over leaves none
pub came_still : (job : JobData) (arch : Arch) (held : Option ℕ) (seen : ValsData) (c : Played Finish) (words : List ℕ) (t : ℕ) (b : Book) →
    ((a : Access) (changes : ℕ → List Change) → c ≡ Wants a changes → Still words t b (row_trail job arch seen)) → Still words t b (trail_of job (core_by job arch held seen c))
came_still job arch held seen (Wants a changes) words t b h = h a changes refl
came_still job arch held seen (Faulted e) words t b h = still_none words t b
came_still job arch held seen (Completed (Noted next r) left values) words t b h = still_none words t b
came_still job arch held seen (Completed (Posted next) left values) words t b h = still_none words t b
came_still job arch held seen (Completed (Exited next r status) left values) words t b h = still_none words t b
came_still job arch held seen (Completed Stopped left values) words t b h = still_none words t b

pub after_book : (t : ℕ) (s next : State) (o : Option Book) → option_map (λ b. record s { book = b }) o ≡ Some next → o ≡ Some next.book
after_book t s next None e = cc
after_book t s next (Some b) e = let same : record s { book = b } ≡ next = cc in ap (λ (x : State). Some x.book) same
