-- What the marks tell in the end is what the book shows. Source: own.
use Rattle.std.proofs.Common.{◌≡◌, ℕ, zero, suc, ◌+◌, ◌-◌, ◌*◌, ◌/◌, ◌^◌, ◌<◌, ◌≤◌, Bool, true, false, List, [], ◌∷◌, ◌++◌}
use Rattle.std.proofs.Common.{length, get_or, drop, take, map, replicate, refl, sym, ◌∙◌, ap, subst, arith}
use Rattle.std.specs.Prelude.{All}
use Rattle.std.proofs.lemmas.Bool.{false≢true}
use Rattle.std.proofs.lemmas.List.{map_more, get_or-map}
use Rattle.std.proofs.lemmas.List.Elements.{recursion_from_All}
use Rattle.std.proofs.Math.Seq.{take-length}
use Rattle.cet_words.specs.Job.{ImageData}
use Rattle.cet_book.specs.declared.entries.Holder.{Holder}
use Rattle.cet_book.specs.declared.entries.Holder.TheVariants.{Maker, Current, Parked, Left, Lost}
use Rattle.cet_book.specs.Book.{Book, region, top}
use Rattle.cet_book.specs.Stack.{tops, words_of}
use Rattle.cet_book.specs.View.{Span, no_span, span_of, IsSpan, in_view, shown_of, shown_if, shown_region, region_words}
use Rattle.cet_book.specs.Marks.{Found, currents, parks, follow_all, found_all, found_of, report_by, reports}
use Rattle.cet_book.specs.declared.regions.Shown.{Shown}
use Rattle.cet_book.specs.declared.regions.Shown.TheVariants as shown
use Rattle.cet_book.specs.declared.regions.StackReport.{StackReport}
use Rattle.cet_book.specs.declared.marks.Mark.{Mark}
use Rattle.cet_book.specs.declared.marks.Mark.TheVariants.{Unseen, InView}
use Rattle.cet_book.proofs.Lists.{counted, counted_le, all_at, words_length}
use Rattle.cet_book.proofs.Setting.{Setting, reg, count, at, there, found, list_is, few_given}
use Rattle.cet_book.proofs.InView.{is_seen, mark_at, Seen, parks_follows, all_follows, view_at_least, view_held}
use Rattle.cet_book.proofs.Rights.{IsRight, MarkRight, Right}
use Rattle.cet_book.proofs.Turns.{State, copy_at, all_state, all_closed}
use Rattle.cet_book.proofs.Seeds.{nothing, start_right, currents_right, currents_hit, parks_right, parks_hit}

-- addresses of words are far below 2^63
pub fits : (W : List ℕ) (rs : List Span) → All IsSpan rs → (k : ℕ) → k < length rs → (get_or rs k no_span).start + 8 * length (get_or (map (region_words W) rs) k []) < 2 ^ 63
fits W rs each k l =
    let p = all_at IsSpan rs k no_span (recursion_from_All IsSpan rs each) l in
    let high = p.high in let order = p.order in let low = p.low in
    let long : length (get_or (map (region_words W) rs) k []) ≡ ((get_or rs k no_span).end - ((get_or rs k no_span).start - 8)) / 8
    = ap (λ (ws : List ℕ). length ws) (get_or-map (region_words W) rs k no_span [] l) ∙ words_length W ((get_or rs k no_span).start - 8) (((get_or rs k no_span).end - ((get_or rs k no_span).start - 8)) / 8) in
    omega arith

made : (p q : Span) (s u : Shown) (w v : List ℕ) → p ≡ q → s ≡ u → w ≡ v → (let x : StackReport = record { region = p; shown = s; words = w } in x) ≡ (let y : StackReport = record { region = q; shown = u; words = v } in y)
made p q s u w v e f h = cc

module _ {image : ImageData} {W : List ℕ} {b : Book} {numbers : List ℕ} {rs : List Span} {ssps : List (ℕ × ℕ)} (g : Setting image W b numbers rs ssps) where
  abbrev pointed : Found
  pointed = currents rs ssps (length ssps) (record { marks = replicate (length rs) Unseen; order = [] })

  abbrev parked : Found
  parked = parks rs (map (region_words W) rs) (length rs) (currents rs ssps (length ssps) (record { marks = replicate (length rs) Unseen; order = [] }))

  abbrev last : Found
  last = follow_all rs (map (region_words W) rs) (length rs) (parks rs (map (region_words W) rs) (length rs) (currents rs ssps (length ssps) (record { marks = replicate (length rs) Unseen; order = [] })))

  pointed_right : Right b numbers rs pointed
  pointed_right = currents_right g (length ssps) (nothing rs) (omega arith) (start_right b numbers rs)

  parked_right : Right b numbers rs parked
  parked_right = parks_right g (length rs) pointed (omega arith) pointed_right

  last_state : State b numbers rs (length rs) last
  last_state = all_state g (length rs) parked parked_right

  last_seen : (k : ℕ) → Seen parked k → Seen last k
  last_seen k s = (all_follows rs (map (region_words W) rs) (length rs) parked).seen k s

  view_if : (f k : ℕ) → k < length rs → (h : Holder) → (reg b numbers k).holder ≡ h → in_view b f h ≡ true → Seen last k
  view_if zero k l h e v = absurd (false≢true v)
  view_if (suc f) k l (Maker t) e v = absurd (false≢true v)
  view_if (suc f) k l (Current t) e v =
      let c = g.covers.each (get_or numbers k 0) (there g k l) t e in
      last_seen k ((parks_follows rs (map (region_words W) rs) (length rs) pointed).seen k
      (currents_hit g (length ssps) c.0 k (nothing rs) c.1 (omega arith) l c.2.at (start_right b numbers rs)))
  view_if (suc f) k l Parked e v = last_seen k (parks_hit g (length rs) k pointed l (omega arith) e pointed_right)
  view_if (suc f) k l (Left q) e v =
      let o = found g q (view_held b f (region b q).holder v) in
      let above = view_if f o.0 o.1 (region b q).holder (ap (λ i. (region b i).holder) o.2) v in
      all_closed g last last_state o.0 k above l (e ∙ ap Left (sym o.2))
  view_if (suc f) k l Lost e v = absurd (false≢true v)

  lost_if : (k : ℕ) → k < length rs → is_seen (mark_at last k) ≡ false → (c : Bool) → in_view b (length b.regions) (reg b numbers k).holder ≡ c → c ≡ false
  lost_if k l e false v = refl
  lost_if k l e true v = absurd (let s = view_if (length b.regions) k l (reg b numbers k).holder refl v in false≢true (sym e ∙ s))

  viewed : (k : ℕ) → k < length rs → in_view b (counted is_seen last.marks) (reg b numbers k).holder ≡ true → in_view b (length b.regions) (reg b numbers k).holder ≡ true
  viewed k l v =
      let few = few_given g in
      let size = last_state.right.size in
      let le = counted_le is_seen last.marks in
      let sum : length b.regions - counted is_seen last.marks + counted is_seen last.marks ≡ length b.regions = omega arith in
      subst (λ n. in_view b n (reg b numbers k).holder ≡ true) sum (view_at_least b (counted is_seen last.marks) (length b.regions - counted is_seen last.marks) (reg b numbers k).holder v)

  marked_shown : (k : ℕ) → k < length rs → (s : Shown) (f : ℕ) → IsRight b numbers k (counted is_seen last.marks) s f →
      (let x : StackReport = record { region = get_or rs k no_span; shown = s; words = drop f (get_or (map (region_words W) rs) k []) } in x) ≡ shown_region b (reg b numbers k)
  marked_shown k l s f r =
      let words : drop f (get_or (map (region_words W) rs) k []) ≡ words_of (tops b) (top (reg b numbers k)) (reg b numbers k).entries
      = ap (λ x. drop f x) (copy_at g k l) ∙ ap (λ n. drop n (region_words W (span_of (reg b numbers k)))) r.at ∙ list_is g k l in
      made (get_or rs k no_span) (span_of (reg b numbers k)) s (shown_of (reg b numbers k).holder) (drop f (get_or (map (region_words W) rs) k []))
      (words_of (tops b) (top (reg b numbers k)) (reg b numbers k).entries) (at g k l) r.shows words ∙
      ap (shown_if b (reg b numbers k)) (sym (viewed k l r.view))

  report_if : (k : ℕ) → k < length rs → (m : Mark) → mark_at last k ≡ m → report_by (get_or rs k no_span) (get_or (map (region_words W) rs) k []) m ≡ shown_region b (reg b numbers k)
  report_if k l Unseen e =
      let none = lost_if k l (ap is_seen e) (in_view b (length b.regions) (reg b numbers k).holder) refl in
      made (get_or rs k no_span) (span_of (reg b numbers k)) shown.Lost shown.Lost [] [] (at g k l) refl refl ∙ ap (shown_if b (reg b numbers k)) (sym none)
  report_if k l (InView s f) e = marked_shown k l s f (subst (MarkRight b numbers k (counted is_seen last.marks)) e (last_state.right.each k l))

  reports_to : (k : ℕ) → k ≤ length rs → reports rs (map (region_words W) rs) last.marks k ≡ map (λ i. shown_region b (region b i)) (take k numbers)
  unfolding reports
  reports_to zero l = refl
  reports_to (suc k) l =
      let inside : k < length numbers = (let c = count g in omega arith) in
      let more = map_more (λ i. shown_region b (region b i)) numbers k 0 inside in
      let plus : k + 1 ≡ suc k = omega arith in
      ap (λ x. x ++ report_by (get_or rs k no_span) (get_or (map (region_words W) rs) k []) (mark_at last k) ∷ []) (reports_to k (omega arith)) ∙
      ap (λ r. map (λ i. shown_region b (region b i)) (take k numbers) ++ r ∷ []) (report_if k (omega arith) (mark_at last k) refl) ∙
      sym more ∙ ap (λ n. map (λ i. shown_region b (region b i)) (take n numbers)) plus

  pub shown_is : reports rs (map (region_words W) rs) (found_of rs (map (region_words W) rs) ssps).marks (length rs) ≡ map (λ i. shown_region b (region b i)) numbers
  unfolding found_all
  shown_is =
      reports_to (length rs) (omega arith) ∙
      ap (map (λ i. shown_region b (region b i))) (ap (λ n. take n numbers) (sym (count g)) ∙ take-length numbers)
