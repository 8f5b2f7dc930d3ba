-- What the records of threads and their present rows tell of the book, kept by every turn: each stack that is told or claimed is
-- a region, no two have one start, and every region that is kept is told, or is one that a present row made so. It holds of any
-- number of threads and regions. Source: own.
use Rattle.std.proofs.Common.{◌≡◌, ℕ, zero, suc, ◌+◌, ◌-◌, ◌≤◌, inl, inr, List, [], ◌∷◌, ◌++◌, Option, Some, None, refl, sym, ◌∙◌, ap, subst, arith}
use Rattle.std.specs.Prelude.{◌==◌, All, slice_get, slice_set, sum_by}
use Rattle.std.proofs.lemmas.Bool.{cases_lt}
use Rattle.std.proofs.lemmas.Bool.Decides.{eqb_tells}
use Rattle.std.proofs.lemmas.Grind.{flat_map-append}
use Rattle.std.proofs.lemmas.List.{append-nil}
use Rattle.std.proofs.lemmas.List.Elements.{All-nil, All-cons, All-append, All-set, All-get_or}
use Rattle.std.proofs.lemmas.List.Sums.{sum_by-cons, sum_by-append}
use Rattle.std.proofs.lemmas.Option.{slice_get_within, get_or_from_slice_get}
use Rattle.cet_words.specs.Access.{answer}
use Rattle.cet_words.specs.Change.{Change}
use Rattle.cet_words.specs.Job.{JobData}
use Rattle.cet_words.specs.Layout.{first_region_start}
use Rattle.cet_words.specs.declared.accesses.Access.{Access}
use Rattle.cet_isa.specs.declared.threads.Arch.{Arch}
use Rattle.cet_isa.specs.declared.threads.Record.{Record}
use Rattle.cet_isa.specs.declared.threads.End.{End}
use Rattle.cet_book.specs.Book.{Book, region, books_after}
use Rattle.cet_book.specs.Facts.{one}
use Rattle.cet_book.specs.Shape.{IsBook}
use Rattle.cet_book.specs.View.{Span, IsKept}
use Rattle.cet_book.proofs.Changes.{same_book}
use Rattle.cet_book.proofs.Comes.{changes_last}
use Rattle.cet_page.specs.Core.{Core, unheld, row_played, changes_of, next_changes, next_access, access_of, wanted, answered, taken, child_core, child_of, born}
use Rattle.cet_page.specs.Machine.{Thread, Machine, thread_after, with_child, accessed, act, step_by, step}
use Rattle.cet_page.specs.Row.{row}
use Rattle.cet_page.specs.Script.{Played, Completed, Faulted, Wants, birth, held_after}
use Rattle.cet_page.specs.ValsData.{ValsData, vals_after}
use Rattle.cet_page.specs.Trail.{row_trail, trail_of}
use Rattle.cet_page.specs.Within.{Waits, CoreAt, IsCore}
use Rattle.cet_page.specs.declared.finishes.Finish.{Finish}
use Rattle.cet_page.specs.declared.finishes.Finish.TheVariants.{Noted, Posted, Exited, Stopped}
use Rattle.cet_page.proofs.ChildLaws.{child_taken}
use Rattle.cet_page.proofs.WithinLaws.{row_grown}
use Rattle.cet_own.specs.Event.{access_changes, thread_changes, turn_changes}
use Rattle.cet_own.specs.Told.{told, told_in, first_span}
use Rattle.cet_own.proofs.Drawing.{times, occurs, times-append, times_found, sum_found, HasSpan, HasStart, span_starts, span_lasts, Drawing, drawing_all}
use Rattle.cet_own.proofs.Drawn.{Drawn, nothing_drawn, draws, drawn, TellsOf, tells_nothing, tells_stack, EndTells, CameTells, came_tells}
use Rattle.cet_own.proofs.Paid.{sum_moved}
use Rattle.cet_own.proofs.TellingRows.{row_tells}
use Rattle.cet_own.proofs.Threads.{left_by}

-- what the present row of a thread has drawn
abbrev pub row_drawn : JobData → Thread → Drawn
row_drawn job thread = drawn (trail_of job thread.core)

-- how often a thread's records and its present row tell of a start, by claims or by what is kept
abbrev pub used : JobData → (start : ℕ) → Thread → ℕ
used job x thread = times x (told_in thread.trace) + times x (row_drawn job thread).claimed

abbrev pub shown : JobData → (start : ℕ) → Thread → ℕ
shown job x thread = times x (told_in thread.trace) + occurs x (row_drawn job thread).kept

pub record ThreadSpans (job : JobData) (b : Book) (thread : Thread) : Type 0 where
  pub told : All (HasSpan b) (told_in thread.trace)
  pub claimed : All (HasSpan b) (row_drawn job thread).claimed

pub record Recorded (job : JobData) (b : Book) (threads : List Thread) : Type 0 where
  pub first : HasSpan b first_span
  pub spans : All (ThreadSpans job b) threads
  pub once : (x : ℕ) → one (first_region_start == x) + sum_by (used job x) threads ≤ 1
  pub all : (i : ℕ) → IsKept (region b i).holder → 1 ≤ one (first_region_start == (region b i).start) + sum_by (shown job (region b i).start) threads

-- ---- an access draws what its changes say

pub row_more : (job : JobData) (core : Core) (a : Access) (own : ℕ → List Change) (v : ℕ) → Waits job core → row_played job core.arch core.vals ≡ Wants a own →
    drawn (row_trail job core.arch (vals_after core.vals a v)) ≡ draws (own v) (drawn (trail_of job core))
row_more job core a own v h w = let r = row_grown job core a own v h w in ap drawn r.1

-- ---- what a thread tells after its access

-- its row goes on, with this drawn; or it is over, and its record tells of what it has to
data Onward (job : JobData) (d : Drawn) (thread next : Thread) : Type 0 where
  goes_on : next.trace ≡ thread.trace → row_drawn job next ≡ d → Onward job d thread next
  ends : (spans : List Span) → told_in next.trace ≡ told_in thread.trace ++ spans → row_drawn job next ≡ nothing_drawn → TellsOf d spans → Onward job d thread next

told_more : (trace : List Record) (r : Record) → told_in (trace ++ r ∷ []) ≡ told_in trace ++ told r r.what
told_more trace r =
    flat_map-append (λ (x : Record). told x x.what) trace (r ∷ []) ∙ ap (λ (l : List Span). told_in trace ++ l) (append-nil (told r r.what))

onward_came : (job : JobData) (thread : Thread) (held : Option ℕ) (seen : ValsData) (d : Drawn) (child : Option Core) (c : Played Finish) → drawn (row_trail job thread.core.arch seen) ≡ d →
    CameTells EndTells d c → Onward job d thread (thread_after thread (left_by job thread.core.arch held seen c child))
onward_came job thread held seen d child (Wants a changes) e o = goes_on refl e
onward_came job thread held seen d child (Faulted f) e o = ends [] (told_more thread.trace _) refl (tells_nothing refl o)
onward_came job thread held seen d child (Completed (Noted next r) left values) e o = ends (told r r.what) (told_more thread.trace r) refl o.stack
onward_came job thread held seen d child (Completed (Posted next) left values) e o = ends [] (sym (append-nil (told_in thread.trace))) refl (tells_nothing refl o)
onward_came job thread held seen d child (Completed (Exited next r status) left values) e o = ends (told r r.what) (told_more thread.trace r) refl o.stack
onward_came job thread held seen d child (Completed Stopped left values) e o = ends [] (sym (append-nil (told_in thread.trace))) refl (tells_nothing refl o)

onward : (job : JobData) (thread : Thread) (a : Access) (own : ℕ → List Change) (v : ℕ) → Waits job thread.core → row_played job thread.core.arch thread.core.vals ≡ Wants a own →
    Onward job (draws (next_changes job thread.core v) (row_drawn job thread)) thread (thread_after thread (taken job thread.core v))
unfolding taken
onward job thread a own v h w =
    let core = thread.core in
    let seen = vals_after core.vals a v in
    let more = row_more job core a own v h w in
    let came = came_tells EndTells [] (row job (unheld core.arch)) seen.accesses seen.values (row_tells job (unheld core.arch)) in
    let d = draws (own v) (row_drawn job thread) in
    let here : Onward job d thread (thread_after thread (answered job core v (Wants a own))) =
    onward_came job thread (held_after (own v) core.arch.held) seen d (child_of core.arch (own v)) (row_played job core.arch seen) more (subst (λ x. CameTells EndTells x (row_played job core.arch seen)) more came) in
    subst (λ c. Onward job (draws (changes_of c v) (row_drawn job thread)) thread (thread_after thread (answered job core v c))) (sym w) here

module _ {job : JobData} {d : Drawn} {thread next : Thread} where
  onward_used : (x : ℕ) → Onward job d thread next → used job x next ≤ times x (told_in thread.trace) + times x d.claimed
  onward_used x (goes_on t e) =
      let told : times x (told_in next.trace) ≡ times x (told_in thread.trace) = ap (λ l. times x (told_in l)) t in
      let row : times x (row_drawn job next).claimed ≡ times x d.claimed = ap (λ (l : Drawn). times x l.claimed) e in
      omega arith
  onward_used x (ends spans t e (tells_nothing none kept)) =
      let told : times x (told_in next.trace) ≡ times x (told_in thread.trace) + times x spans = ap (times x) t ∙ times-append x (told_in thread.trace) spans in
      let nothing : times x spans ≡ 0 = ap (times x) none in
      let row : times x (row_drawn job next).claimed ≡ 0 = ap (λ (l : Drawn). times x l.claimed) e in
      omega arith
  onward_used x (ends spans t e (tells_stack s is claimed kept)) =
      let told : times x (told_in next.trace) ≡ times x (told_in thread.trace) + times x spans = ap (times x) t ∙ times-append x (told_in thread.trace) spans in
      let same : times x spans ≡ times x d.claimed = ap (times x) (is ∙ sym claimed) in
      let row : times x (row_drawn job next).claimed ≡ 0 = ap (λ (l : Drawn). times x l.claimed) e in
      omega arith

  onward_shown : (x n : ℕ) → Onward job d thread next → 1 ≤ n + (times x (told_in thread.trace) + occurs x d.kept) → 1 ≤ n + shown job x next
  onward_shown x n (goes_on t e) l =
      let told : times x (told_in next.trace) ≡ times x (told_in thread.trace) = ap (λ l. times x (told_in l)) t in
      let row : occurs x (row_drawn job next).kept ≡ occurs x d.kept = ap (λ (l : Drawn). occurs x l.kept) e in
      omega arith
  onward_shown x n (ends spans t e (tells_nothing none kept)) l =
      let told : times x (told_in next.trace) ≡ times x (told_in thread.trace) + times x spans = ap (times x) t ∙ times-append x (told_in thread.trace) spans in
      let was : occurs x d.kept ≡ 0 = ap (occurs x) kept in
      omega arith
  onward_shown x n (ends spans t e (tells_stack s is claimed kept)) l =
      let told : times x (told_in next.trace) ≡ times x (told_in thread.trace) + times x spans = ap (times x) t ∙ times-append x (told_in thread.trace) spans in
      let now : times x spans ≡ one (s.start == x) + 0 = ap (times x) is in
      elim kept [
        | inl none ↦ let was : occurs x d.kept ≡ 0 = ap (occurs x) none in omega arith
        | inr here ↦ let was : occurs x d.kept ≡ one (s.start == x) + 0 = ap (occurs x) here in omega arith
      ]

  onward_spans : (b : Book) → Onward job d thread next → All (HasSpan b) (told_in thread.trace) → All (HasSpan b) d.claimed → ThreadSpans job b next
  onward_spans b (goes_on t e) told claimed = record {
    told = subst (λ l. All (HasSpan b) (told_in l)) (sym t) told;
    claimed = subst (λ (l : Drawn). All (HasSpan b) l.claimed) (sym e) claimed;
  }
  onward_spans b (ends spans t e tells) told claimed = record {
    told = subst (All (HasSpan b)) (sym t) (All-append (HasSpan b) (told_in thread.trace) spans told (told_spans tells));
    claimed = subst (λ (l : Drawn). All (HasSpan b) l.claimed) (sym e) (All-nil (HasSpan b));
  }
    where
      told_spans : {spans : List Span} → TellsOf d spans → All (HasSpan b) spans
      told_spans (tells_nothing none kept) = subst (All (HasSpan b)) (sym none) (All-nil (HasSpan b))
      told_spans (tells_stack s is stack kept) = subst (All (HasSpan b)) (stack ∙ sym is) claimed

-- ---- all threads

-- what one element gives is no more than the sum
part_most : {X : Type 0} (f : X → ℕ) (xs : List X) (t : ℕ) (x : X) → slice_get xs t ≡ Some x → f x ≤ sum_by f xs
part_most f [] t x e = cc
part_most f (y ∷ xs) zero x e =
    let same : y ≡ x = cc in
    let here : f y ≡ f x = ap f same in
    let cons = sum_by-cons f y xs in
    omega arith
part_most f (y ∷ xs) (suc t) x e =
    let more = part_most f xs t x e in
    let cons = sum_by-cons f y xs in
    omega arith

-- a thread that was just born has told of nothing, and drawn nothing
born_sum : (f : Thread → ℕ) (threads : List Thread) (arch : Arch) (o : Option (ℕ × ℕ)) → ((child start : ℕ) → f (record { core = child_core arch child start; trace = [] }) ≡ 0) →
    sum_by f (with_child threads (born arch o)) ≡ sum_by f threads
born_sum f threads arch None none = refl
born_sum f threads arch (Some b) none =
    let x : Thread = record { core = child_core arch b.0 b.1; trace = [] } in
    let zero = none b.0 b.1 in
    let append = sum_by-append f threads (x ∷ []) in
    let cons = sum_by-cons f x [] in
    omega arith

born_spans : (job : JobData) (b : Book) (threads : List Thread) (arch : Arch) (o : Option (ℕ × ℕ)) → All (ThreadSpans job b) threads → All (ThreadSpans job b) (with_child threads (born arch o))
born_spans job b threads arch None h = h
born_spans job b threads arch (Some c) h =
    let x : Thread = record { core = child_core arch c.0 c.1; trace = [] } in
    All-append (ThreadSpans job b) threads (x ∷ []) h
    (All-cons (ThreadSpans job b) x [] (record { told = All-nil (HasSpan b); claimed = All-nil (HasSpan b) }) (All-nil (ThreadSpans job b)))

-- whatever is told or claimed starts where a region does
used_there : (job : JobData) (b : Book) (threads : List Thread) (x : ℕ) → Recorded job b threads → 1 ≤ one (first_region_start == x) + sum_by (used job x) threads → HasStart b x
used_there job b threads x h l = elim (eqb_tells first_region_start x) [
  | inl u ↦ subst (HasStart b) u.1 (span_starts h.first)
  | inr u ↦
      let none : one (first_region_start == x) ≡ 0 = ap one u.0 in
      let found = sum_found (ThreadSpans job b) (used job x) threads (omega arith) h.spans in
      let many = found.2 in
      elim (cases_lt 0 (times x (told_in found.0.trace))) [
        | inl told ↦ (let s = times_found (HasSpan b) x (told_in found.0.trace) (omega arith) found.1.told in subst (HasStart b) s.2 (span_starts s.1))
        | inr rest ↦ (let s = times_found (HasSpan b) x (row_drawn job found.0).claimed (omega arith) found.1.claimed in subst (HasStart b) s.2 (span_starts s.1))
      ]
]

module _ (job : JobData) (m : Machine) (t : ℕ) (b next : Book) (thread : Thread) (book : IsBook b) (h : Recorded job b m.threads) (found : slice_get m.threads t ≡ Some thread) where
  abbrev others : (x : ℕ) → ℕ
  others x = one (first_region_start == x) + sum_by (used job x) m.threads - times x (row_drawn job thread).claimed

  abbrev told_elsewhere : (x : ℕ) → ℕ
  told_elsewhere x = one (first_region_start == x) + sum_by (shown job x) m.threads - occurs x (row_drawn job thread).kept

  own_spans : ThreadSpans job b thread
  own_spans =
      let inside = slice_get_within m.threads t thread found in
      subst (ThreadSpans job b) (get_or_from_slice_get m.threads t thread thread found) (All-get_or (ThreadSpans job b) m.threads t thread inside h.spans)

  -- before the access
  drawing : Drawing b others told_elsewhere (row_drawn job thread)
  drawing = record {
    there = λ x l. used_there job b m.threads x h (omega arith);
    claimed = own_spans.claimed;
    once = λ x. (let most = part_most (used job x) m.threads t thread found in let old = h.once x in omega arith);
    all = λ i k. (let most = part_most (shown job (region b i).start) m.threads t thread found in let old = h.all i k in omega arith);
  }

  module _ (changes : List Change) (moved : Thread) (arch : Arch) (o : Option (ℕ × ℕ)) (is : books_after t b changes ≡ Some next) (way : Onward job (draws changes (row_drawn job thread)) thread moved) where
    abbrev enlisted : List Thread
    enlisted = with_child (slice_set m.threads t moved) (born arch o)

    recorded_after : Recorded job next enlisted
    recorded_after =
        let inside = slice_get_within m.threads t thread found in
        let lasts = changes_last t changes b next book is in
        let d = drawing_all t changes (row_drawn job thread) b next book is drawing in
        let set = slice_set m.threads t moved in
        let lasting : (ss : List Span) → All (HasSpan b) ss → All (HasSpan next) ss = λ ss a k e l. span_lasts lasts _ (a k e l) in
        record {
          first = span_lasts lasts first_span h.first;
          spans = born_spans job next set arch o
              (All-set (ThreadSpans job next) m.threads t moved (onward_spans next way (lasting (told_in thread.trace) own_spans.told) d.claimed)
              (λ k e l. record { told = lasting _ (h.spans k e l).told; claimed = lasting _ (h.spans k e l).claimed }));
          once = λ x. (
              let sum = sum_moved m.threads t thread moved (used job x) inside found in
              let same = born_sum (used job x) set arch o (λ child start. refl) in
              let now = onward_used x way in
              let all = d.once x in
              let most = part_most (used job x) m.threads t thread found in
              omega arith);
          all = λ i k. (
              let x = (region next i).start in
              let sum = sum_moved m.threads t thread moved (shown job x) inside found in
              let same = born_sum (shown job x) set arch o (λ child start. refl) in
              let all = d.all i k in
              let most = part_most (shown job x) m.threads t thread found in
              let rest = one (first_region_start == x) + sum_by (shown job x) m.threads - (times x (told_in thread.trace) + occurs x (row_drawn job thread).kept) in
              let now = onward_shown x rest way (omega arith) in
              omega arith);
        }

-- ---- a turn

module _ (job : JobData) (m : Machine) (t : ℕ) (b next : Book) (book : IsBook b) (h : Recorded job b m.threads) where
  recorded_access : (thread : Thread) → slice_get m.threads t ≡ Some thread → Waits job thread.core → (a : Access) (own : ℕ → List Change) →
      row_played job thread.core.arch thread.core.vals ≡ Wants a own → books_after t b (next_changes job thread.core (answer m.words a)) ≡ Some next →
      Recorded job next (accessed job m t thread a).threads
  recorded_access thread found waits a own w is =
      let v = answer m.words a in
      let changes = next_changes job thread.core v in
      let moved = thread_after thread (taken job thread.core v) in
      subst (λ c. Recorded job next (with_child (slice_set m.threads t moved) c)) (sym (child_taken job thread.core v a own w))
      (recorded_after job m t b next thread book h found changes moved thread.core.arch (birth changes) is (onward job thread a own v waits w))

  recorded_core : (thread : Thread) (over : Option End) → slice_get m.threads t ≡ Some thread → thread.core.over ≡ over → CoreAt job thread.core over →
      books_after t b (access_changes job m thread (next_access job thread.core)) ≡ Some next → Recorded job next (act job m t thread (next_access job thread.core)).threads
  unfolding next_access
  recorded_core thread (Some e) found over waits is =
      let none : next_access job thread.core ≡ None = ap (access_of job thread.core) over in
      let same : b ≡ next = same_book t b next [] refl (subst (λ o. books_after t b (access_changes job m thread o) ≡ Some next) none is) in
      subst (λ o. Recorded job next (act job m t thread o).threads) (sym none) (subst (λ n. Recorded job n m.threads) same h)
  recorded_core thread None found over waits is =
      let w = waits.waits in
      let some : next_access job thread.core ≡ Some w.0 = ap (access_of job thread.core) over ∙ ap wanted w.2 in
      subst (λ o. Recorded job next (act job m t thread o).threads) (sym some)
      (recorded_access thread found waits w.0 w.1 w.2 (subst (λ o. books_after t b (access_changes job m thread o) ≡ Some next) some is))

  recorded_by : (o : Option Thread) → slice_get m.threads t ≡ o → ((thread : Thread) → slice_get m.threads t ≡ Some thread → IsCore job thread.core) →
      books_after t b (thread_changes job m o) ≡ Some next → Recorded job next (step_by job m t o).threads
  recorded_by None found waits is = subst (λ n. Recorded job n m.threads) (same_book t b next [] refl is) h
  recorded_by (Some thread) found waits is = recorded_core thread thread.core.over found refl (waits thread found) is

  pub recorded_turn : ((thread : Thread) → slice_get m.threads t ≡ Some thread → IsCore job thread.core) → books_after t b (turn_changes job m t) ≡ Some next → Recorded job next (step job m t).threads
  unfolding turn_changes step
  recorded_turn waits is = recorded_by (slice_get m.threads t) refl waits is
