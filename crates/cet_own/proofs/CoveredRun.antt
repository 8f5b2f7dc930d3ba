-- The report of a finished run is covered: words and book are in step, the stacks told are the book's regions with all that are
-- kept, and the pointers are the tops of those that are current. Source: own.
use Rattle.std.proofs.Common.{◌≡◌, ℕ, ◌+◌, ◌%◌, ◌<◌, ◌≤◌, inl, inr, List, [], ◌∷◌, ◌++◌, length, get_or, Option, Some, None, refl, sym, ◌∙◌, ap, subst, arith}
use Rattle.std.specs.Prelude.{◌==◌, All, option_and_then, slice_get, slice_index, sum_by}
use Rattle.std.specs.List.{flat_map}
use Rattle.std.specs.Option.{option_map_or}
use Rattle.std.proofs.lemmas.Bool.{cases_lt}
use Rattle.std.proofs.lemmas.Bool.Decides.{eqb_tells}
use Rattle.std.proofs.lemmas.List.{get_or-map, length-map}
use Rattle.std.proofs.lemmas.List.Elements.{All-nil, All-cons}
use Rattle.std.proofs.lemmas.Option.{slice_get-get_or}
use Rattle.cet_words.specs.Job.{JobData, IsJob}
use Rattle.cet_words.specs.Layout.{first_region_start}
use Rattle.cet_words.specs.Change.{Change}
use Rattle.cet_isa.specs.declared.threads.End.{End}
use Rattle.cet_isa.specs.declared.threads.End.TheVariants as ending
use Rattle.cet_book.specs.declared.entries.Holder.TheVariants.{Current}
use Rattle.cet_book.specs.Book.{Book, region, top, current_of, starting_at, book_after, books_after, first_book}
use Rattle.cet_book.specs.Facts.{one}
use Rattle.cet_book.specs.EventLists.{book_by}
use Rattle.cet_book.specs.View.{Span, IsKept, IsReadable, IsSpan, InStep, Covers, Has, no_span, span_of}
use Rattle.cet_book.specs.declared.events.Event.{Event}
use Rattle.cet_book.proofs.Changes.{same_book, then_by}
use Rattle.cet_book.proofs.Edits.{current_holds}
use Rattle.cet_book.proofs.Ways.{starting_at_is}
use Rattle.cet_page.specs.Core.{Core, first_core}
use Rattle.cet_page.specs.Machine.{Machine, Thread, step, run, Starts}
use Rattle.cet_page.specs.Trail.{row_trail, trail_of}
use Rattle.cet_own.specs.Event.{book_of, events_by, turn_changes, events_from}
use Rattle.cet_own.specs.Safe.{KeepsStack}
use Rattle.cet_own.specs.Stands.{Stands}
use Rattle.cet_own.specs.Told.{told_in, told_spans, first_span, kept_pointer, kept_pointers}
use Rattle.cet_own.specs.Covered.{Covered, told_numbers, AllEnded, LastCovered}
use Rattle.cet_own.proofs.Drawing.{times, occurs, once_here, HasSpan}
use Rattle.cet_own.proofs.Drawn.{Drawn, nothing_drawn, drawn}
use Rattle.cet_own.proofs.Numbers.{core_number}
use Rattle.cet_own.specs.Owed.{State}
use Rattle.cet_own.proofs.Recorded.{Recorded, ThreadSpans, row_drawn, used, shown, recorded_turn}
use Rattle.cet_own.proofs.Run.{turn, first_stands}
use Rattle.cet_own.proofs.StandsAt.{stands_at, token_found}
use Rattle.cet_own.specs.Threads.{Ended, CoreStands, ThreadStands}
use Rattle.cet_own.proofs.ToldLaws.{order_times, order_all, flat_times, flat_all, flat_has, same_sums, times_place, one_place, map_back}
use Rattle.cet_own.proofs.Turns.{Invariant, safe_at}
use Rattle.cet_own.proofs.Views.{kept_there}

-- ---- a thread that has ended

core_trail : (job : JobData) (t : ℕ) (s : State) (core : Core) (over : Option End) (e : End) → over ≡ Some e → CoreStands job t s core over → trail_of job core ≡ []
core_trail job t s core None e is h = cc
core_trail job t s core (Some (ending.Exit status)) e is h = ap (row_trail job core.arch) h.1.vals
core_trail job t s core (Some ending.Group) e is h = h.1
core_trail job t s core (Some ending.Limit) e is h = h.1

-- the pointer is the top of a region that is current on the thread
record IsTop (b : Book) (p : ℕ × ℕ) : Type 0 where
  number : ℕ
  inside : number < length b.regions
  current : (region b number).holder ≡ Current p.0
  at : p.1 ≡ top (region b number)

ended_top : (job : JobData) (t : ℕ) (s : State) (core : Core) → Ended job t s core → All (IsTop s.book) ((core.arch.number, core.arch.ssp) ∷ [])
ended_top job t s core h =
    let stack = h.0.stacked in
    All-cons (IsTop s.book) (core.arch.number, core.arch.ssp) [] (record {
      number = current_of t s.book;
      inside = stack.top.has;
      current = current_holds t s.book stack.top.has ∙ ap Current (sym h.3);
      at = stack.top.at;
    }) (All-nil (IsTop s.book))

core_tops : (job : JobData) (t : ℕ) (s : State) (core : Core) (over : Option End) (e : End) → over ≡ Some e → CoreStands job t s core over → All (IsTop s.book) (kept_pointer over core.arch.number core.arch.ssp)
core_tops job t s core None e is h = cc
core_tops job t s core (Some (ending.Exit status)) e is h = All-nil (IsTop s.book)
core_tops job t s core (Some ending.Group) e is h = ended_top job t s core h
core_tops job t s core (Some ending.Limit) e is h = ended_top job t s core h

kept_one : (over : Option End) (e : End) (number ssp : ℕ) → over ≡ Some e → KeepsStack over → kept_pointer over number ssp ≡ (number, ssp) ∷ []
kept_one None e number ssp is k = cc
kept_one (Some (ending.Exit status)) e number ssp is k = absurd k
kept_one (Some ending.Group) e number ssp is k = refl
kept_one (Some ending.Limit) e number ssp is k = refl

span_is : (s : Span) (start end : ℕ) → start ≡ s.start → end ≡ s.end → record { start = start; end = end } ≡ s
span_is s start end p q = ap (λ n. record { start = n; end = end }) p ∙ ap (λ n. record { start = s.start; end = n }) q

-- ---- a finished machine

module _ (job : JobData) (m : Machine) (s : State) (st : Invariant job m s) (told : Recorded job s.book m.threads) (over : AllEnded m.threads) where
  abbrev spans : List Span
  spans = told_spans m.threads

  abbrev pointers : List (ℕ × ℕ)
  pointers = kept_pointers m.threads

  stands : (t : ℕ) (thread : Thread) → slice_get m.threads t ≡ Some thread → CoreStands job t s thread.core thread.core.over
  stands t thread e = (subst (ThreadStands job t s) e (st.threads t)).1

  number_is : (t : ℕ) (thread : Thread) → slice_get m.threads t ≡ Some thread → thread.core.arch.number ≡ t
  number_is t thread e = core_number job t s thread.core thread.core.over (stands t thread e)

  none_drawn : All (λ (thread : Thread). row_drawn job thread ≡ nothing_drawn) m.threads
  none_drawn k d l =
      let e = slice_get-get_or m.threads k d l in
      let x : Thread = get_or m.threads k d in
      let end = over k x e in
      ap drawn (core_trail job k s x.core x.core.over end.0 end.1 (stands k x e))

  -- how often a start is told
  told_times : (x : ℕ) → times x spans ≡ one (first_region_start == x) + sum_by (λ (thread : Thread). times x (told_in thread.trace)) m.threads
  told_times x =
      let flat = flat_times (λ (thread : Thread). told_in thread.trace) x m.threads in
      order_times x (first_span ∷ flat_map (λ (thread : Thread). told_in thread.trace) m.threads) ∙ omega arith

  once : (x : ℕ) → times x spans ≤ 1
  once x =
      let same = same_sums (used job x) (λ (thread : Thread). times x (told_in thread.trace)) m.threads
      (λ k d l. let none = ap (λ (r : Drawn). times x r.claimed) (none_drawn k d l) in omega arith) in
      let most = told.once x in
      let is = told_times x in
      omega arith

  kept_told : (i : ℕ) → IsKept (region s.book i).holder → 1 ≤ times (region s.book i).start spans
  kept_told i k =
      let x = (region s.book i).start in
      let same = same_sums (shown job x) (λ (thread : Thread). times x (told_in thread.trace)) m.threads
      (λ k d l. let none = ap (λ (r : Drawn). occurs x r.kept) (none_drawn k d l) in omega arith) in
      let least = told.all i k in
      let is = told_times x in
      omega arith

  all_spans : All (HasSpan s.book) spans
  all_spans =
      order_all (HasSpan s.book) (first_span ∷ flat_map (λ (thread : Thread). told_in thread.trace) m.threads)
      (All-cons (HasSpan s.book) first_span (flat_map (λ (thread : Thread). told_in thread.trace) m.threads) told.first
      (flat_all (HasSpan s.book) (λ (thread : Thread). told_in thread.trace) m.threads (λ k d l. (told.spans k d l).told)))

  tops_are : All (IsTop s.book) pointers
  tops_are =
      flat_all (IsTop s.book) (λ (thread : Thread). kept_pointer thread.core.over thread.core.arch.number thread.core.arch.ssp) m.threads (λ k d l.
      let e = slice_get-get_or m.threads k d l in
      let x : Thread = get_or m.threads k d in
      let end = over k x e in
      core_tops job k s x.core x.core.over end.0 end.1 (stands k x e))

  -- a stack that is told, by the number of its region
  found : (span : Span) (h : HasSpan s.book span) → starting_at span.start s.book ≡ h.number
  found span h = starting_at_is span.start s.book h.number st.holds.sound.book.shape h.inside h.first

  number_at : (k : ℕ) → k < length spans → slice_index (told_numbers s.book m.threads) k ≡ starting_at (get_or spans k no_span).start s.book
  number_at k l = get_or-map (λ (x : Span). starting_at x.start s.book) spans k no_span 0 l

  count_is : length (told_numbers s.book m.threads) ≡ length spans
  count_is = length-map spans (λ (x : Span). starting_at x.start s.book)

  -- each region that is kept has its place
  placed : (i : ℕ) → i < length s.book.regions → IsKept (region s.book i).holder → (k : ℕ) × (k < length spans) × ((get_or spans k no_span).start ≡ (region s.book i).start) ×
      (slice_index (told_numbers s.book m.threads) k ≡ i)
  placed i l k =
      let at = times_place (region s.book i).start spans (kept_told i k) in
      (at.place, at.inside, at.is, number_at at.place at.inside ∙ starting_at_is (get_or spans at.place no_span).start s.book i st.holds.sound.book.shape l (sym at.is))

  covers : Covers s.book (told_numbers s.book m.threads) spans pointers
  covers = record {
    are =
        map_back (λ i. span_of (region s.book i)) (λ (x : Span). starting_at x.start s.book) spans (λ k d l.
        let x = get_or spans k d in
        let h = all_spans k d l in
        subst (λ i. span_of (region s.book i) ≡ x) (sym (found x h)) (span_is x (region s.book h.number).start (region s.book h.number).end h.first h.last));
    there = λ k l.
        (let inside : k < length spans = (let c = count_is in omega arith) in
        let x = get_or spans k no_span in
        let h = all_spans k no_span inside in
        let at = number_at k inside in
        let is = found x h in
        let there = h.inside in
        omega arith);
    all = λ i l k. (let at = placed i l k in (at.0, record { inside = (let c = count_is in let inside = at.1 in omega arith); is = at.3 }));
    tops = λ k l. (let p = tops_are k (0, 0) l in (p.number, record { inside = p.inside; current = p.current; at = p.at }));
    each = λ i l t e.
        (let owner = (safe_at job m s st).owners t i e in
        let thread = owner.0 in
        let end = over t thread owner.1 in
        let one = kept_one thread.core.over end.0 thread.core.arch.number thread.core.arch.ssp end.1 owner.2 in
        let at = flat_has (λ (x : Thread). kept_pointer x.core.over x.core.arch.number x.core.arch.ssp) m.threads t thread (thread.core.arch.number, thread.core.arch.ssp) (0, 0) owner.1 one in
        let number : (get_or pointers at.place (0, 0)).0 ≡ t = ap (λ (p : ℕ × ℕ). p.0) at.is ∙ number_is t thread owner.1 in
        let p = tops_are at.place (0, 0) at.inside in
        let alone = st.holds.sound.book.shape.alone t in
        let same : p.number ≡ i = sym (alone p.number (p.current ∙ ap Current number)) ∙ alone i e in
        (at.place, at.inside, record { inside = l; current = e ∙ ap Current (sym number); at = p.at ∙ ap (λ n. top (region s.book n)) same }));
  }

  span_fits : (x : Span) → HasSpan s.book x → IsSpan x
  span_fits x h =
      let bounds = st.holds.sound.book.shape.bounds h.number h.inside in
      let low = bounds.low in
      let full = bounds.full in
      let high = bounds.high in
      let start = h.first in
      let end = h.last in
      record {
        low = omega arith;
        order = omega arith;
        high = omega arith;
        first = ap (λ n. n % 4096) (sym h.first) ∙ bounds.first;
        last = ap (λ n. n % 4096) (sym h.last) ∙ bounds.last;
      }

  -- an address of two stacks that are told is of one region
  one_region : (x y : Span) (a : ℕ) (h : HasSpan s.book x) (g : HasSpan s.book y) → Has a x → Has a y → h.number ≡ g.number
  one_region x y a h g p q =
      let low = p.low in
      let high = p.high in
      let low' = q.low in
      let high' = q.high in
      let start = h.first in
      let end = h.last in
      let start' = g.first in
      let end' = g.last in
      elim (cases_lt h.number g.number) [
        | inl l ↦ absurd (let apart = st.holds.sound.book.shape.apart h.number g.number l g.inside in omega arith)
        | inr m ↦ elim (cases_lt g.number h.number) [
          | inl l ↦ absurd (let apart = st.holds.sound.book.shape.apart g.number h.number l h.inside in omega arith)
          | inr n ↦ omega arith
        ]
      ]

  readable : IsReadable spans pointers
  readable = record {
    each = λ k d l. span_fits _ (all_spans k d l);
    apart = λ i j a l l' p q.
        (let h = all_spans i no_span l in
        let g = all_spans j no_span l' in
        let same = one_region (get_or spans i no_span) (get_or spans j no_span) a h g p q in
        one_place spans i j once l l' (sym h.first ∙ ap (λ n. (region s.book n).start) same ∙ g.first));
    pointers = λ k l.
        (let p = tops_are k (0, 0) l in
        let at = placed p.number p.inside (subst IsKept (sym p.current) tt) in
        let h = all_spans at.0 no_span at.1 in
        let x = get_or spans at.0 no_span in
        let same : h.number ≡ p.number = sym (found x h) ∙ sym (number_at at.0 at.1) ∙ at.3 in
        let first : (region s.book p.number).start ≡ x.start = ap (λ n. (region s.book n).start) (sym same) ∙ h.first in
        let last : (region s.book p.number).end ≡ x.end = ap (λ n. (region s.book n).end) (sym same) ∙ h.last in
        let top_is = p.at in
        let room = (st.holds.sound.book.shape.fits p.number).room in
        (at.0, at.1, record { low = omega arith; high = omega arith }));
    aligned = λ k l.
        (let p = tops_are k (0, 0) l in
        let top_is = p.at in
        let room = (st.holds.sound.book.shape.fits p.number).room in
        let last = (st.holds.sound.book.shape.bounds p.number p.inside).last in
        omega arith);
  }

  in_step : InStep job.image m.words s.book
  in_step = record {
    entries_written = λ i l. st.holds.stacks i;
    tokens = λ p place.
        (let both = token_found m.words s.book p st.holds.marks place in
        (λ e. (let k = both.0 e in (k.0, record { parked = k.1; top_is = k.2 })), λ k. both.1 (k.0, k.1.parked, k.1.top_is)));
    previous_left = st.holds.sound.book.shape.chain;
    low = λ i l. (let bounds = st.holds.sound.book.shape.bounds i l in let low = bounds.low in let full = bounds.full in (low, omega arith));
    high = λ i l. (let bounds = st.holds.sound.book.shape.bounds i l in let high = bounds.high in let full = bounds.full in (omega arith, high));
    first = λ i l. (st.holds.sound.book.shape.bounds i l).first;
    last = λ i l. (st.holds.sound.book.shape.bounds i l).last;
    room = λ i l. (let room = (st.holds.sound.book.shape.fits i).room in omega arith);
    returns = st.holds.sound.returns;
    entries = λ page l. st.holds.pages.entries page;
    fixed = st.holds.pages.fixed;
  }

  pub covered_at : Covered job m s.book
  covered_at = record {
    in_step = in_step;
    readable = readable;
    covers = covers;
    few = let number = st.paid.number in omega arith;
    numbers = number_is;
  }

-- ---- the run

pub first_recorded : (job : JobData) (start : Machine) → Starts job start → Recorded job first_book start.threads
first_recorded job start s =
    subst (Recorded job first_book) (sym s.threads) (record {
      first = record { number = 0; inside = omega arith; first = refl; last = refl };
      spans = All-cons (ThreadSpans job first_book) _ [] (record { told = All-nil (HasSpan first_book); claimed = All-nil (HasSpan first_book) }) (All-nil (ThreadSpans job first_book));
      once = λ x. elim (eqb_tells first_region_start x) [
        | inl u ↦ let here : one (first_region_start == x) ≡ 1 = ap one u.0 in omega arith
        | inr u ↦ let here : one (first_region_start == x) ≡ 0 = ap one u.0 in omega arith
      ];
      all = λ i k.
          (let inside = kept_there first_book i k in
          let zero : 0 ≡ i = omega arith in
          let here = once_here first_region_start first_region_start refl in
          subst (λ n. 1 ≤ one (first_region_start == (region first_book n).start) + sum_by (shown job (region first_book n).start) (record { core = first_core job; trace = [] } ∷ [])) zero (omega arith));
    })

-- the events of one turn, and what follows them
book_turn : (t : ℕ) (cs : List Change) (rest : List Event) (b next : Book) → books_after t b cs ≡ Some next → book_by b (events_by t b cs ++ rest) ≡ book_by next rest
book_turn t [] rest b next e = ap (λ n. book_by n rest) (same_book t b next [] refl e)
book_turn t (c ∷ cs) rest b next e =
    let s = then_by t (book_after t b c) next cs e in
    ap (λ o. option_and_then (λ n. book_by n (option_map_or (λ x. events_by t x cs) o [] ++ rest)) o) s.1 ∙ book_turn t cs rest s.0 next s.2

-- what a run leads to
pub record Ran (job : JobData) (m : Machine) (s : State) (turns : List ℕ) : Type 0 where
  pub next : State
  pub is : book_by s.book (events_from job m (Some s.book) turns) ≡ Some next.book
  pub stands : Invariant job (run job m turns) next
  pub told : Recorded job next.book (run job m turns).threads

pub ran : (job : JobData) (j : IsJob job) (turns : List ℕ) (m : Machine) (s : State) → Invariant job m s → Recorded job s.book m.threads → Ran job m s turns
ran job j [] m s st told = record { next = s; is = refl; stands = st; told = told }
ran job j (t ∷ ts) m s st told =
    let d = turn job j m t s st in
    let next = recorded_turn job m t s.book d.next.book st.holds.sound.book told (λ thread e. ((stands_at job m s st).row_values t thread e).waits) d.is in
    let r = ran job j ts (step job m t) d.next d.stands next in
    record {
      next = r.next;
      is =
          book_turn t (turn_changes job m t) (events_from job (step job m t) (books_after t s.book (turn_changes job m t)) ts) s.book d.next.book d.is
          ∙ ap (λ o. book_by d.next.book (events_from job (step job m t) o ts)) d.is
          ∙ r.is;
      stands = r.stands;
      told = r.told;
    }

-- where every thread has ended, the report is covered
pub last_covered : (job : JobData) (start : Machine) (turns : List ℕ) → IsJob job → Starts job start → AllEnded (run job start turns).threads → LastCovered job start turns
last_covered job start turns j s over =
    let r = ran job j turns start (record { book = first_book }) (first_stands job start j s) (first_recorded job start s) in
    record { book = r.next.book; last = r.is; covered = covered_at job (run job start turns) r.next r.stands r.told over }

-- the invariant holds of what a run has left and its last book
pub last_stands : (job : JobData) (start : Machine) (turns : List ℕ) → IsJob job → Starts job start → (b : Book) → book_of job start turns ≡ Some b → Stands job (run job start turns) b
last_stands job start turns j s b e =
    let r = ran job j turns start (record { book = first_book }) (first_stands job start j s) (first_recorded job start s) in
    let is = sym r.is ∙ e in
    let same : r.next.book ≡ b = cc in
    subst (Stands job (run job start turns)) same (stands_at job (run job start turns) r.next r.stands)
