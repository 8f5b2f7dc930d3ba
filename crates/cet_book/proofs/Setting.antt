-- Words and a book in step, with regions and pointers that cover it: where addresses and words are. Source: own.
use Rattle.std.proofs.Common.{◌≡◌, ◌≢◌, ℕ, ◌-◌, ◌/◌, ◌%◌, ◌<◌, ◌≤◌, Bool, true, false, List, length, get_or, drop, refl, sym, ◌∙◌, ap, subst, arith}
use Rattle.std.proofs.lemmas.Bool.Decides.{nat_tests}
use Rattle.std.proofs.lemmas.List.{get_or-map, length-map}
use Rattle.std.proofs.lemmas.List.Sums.{position_or_len_is}
use Rattle.std.proofs.lemmas.List.Elements.{recursion_from_All}
use Rattle.cet_words.specs.Layout.{first_region_start, last_region_end}
use Rattle.cet_words.specs.Job.{ImageData}
use Rattle.cet_book.specs.declared.entries.Holder.{Holder}
use Rattle.cet_book.specs.declared.entries.Holder.TheVariants.{Maker, Current, Parked, Left, Lost}
use Rattle.cet_book.specs.Book.{Region, Book, region, top}
use Rattle.cet_book.proofs.Edits.{is_there}
use Rattle.cet_book.specs.Stack.{tops, words_of}
use Rattle.cet_book.specs.View.{Span, no_span, span_of, Has, IsSpan, IsReadable, InStep, IsKept, Covers, region_words, words_from}
use Rattle.cet_book.specs.Marks.{has, place, from_of}
use Rattle.cet_book.proofs.Lists.{all_at, few, words_drop, stack_words}

pub record Setting (image : ImageData) (W : List ℕ) (b : Book) (numbers : List ℕ) (rs : List Span) (ssps : List (ℕ × ℕ)) : Type 0 where
  pub facts : InStep image W b
  pub covers : Covers b numbers rs ssps
  pub asked : IsReadable rs ssps

-- of the regions given, the k-th
abbrev pub reg : Book → List ℕ → ℕ → Region
reg b numbers k = region b (get_or numbers k 0)

held_there : (h : Holder) → IsKept h → h ≢ Lost
held_there (Maker t) i e = i
held_there (Current t) i e = cc
held_there Parked i e = cc
held_there (Left q) i e = cc
held_there Lost i e = i

pub has_true : (a : ℕ) (r : Span) → Has a r → has a r ≡ true
has_true a r h = let l = h.low in let m = h.high in grind (arith, nat_tests)

pub has_false : (a : ℕ) (r : Span) → (Has a r → ⊥) → (c : Bool) → has a r ≡ c → c ≡ false
has_false a r n false e = refl
has_false a r n true e = absurd (n (record { low = grind (arith, nat_tests); high = grind (arith, nat_tests) }))

module _ {image : ImageData} {W : List ℕ} {b : Book} {numbers : List ℕ} {rs : List Span} {ssps : List (ℕ × ℕ)} (g : Setting image W b numbers rs ssps) where
  pub count : length numbers ≡ length rs
  count = sym (length-map numbers (λ i. span_of (region b i))) ∙ ap (λ (l : List Span). length l) g.covers.are

  pub at : (k : ℕ) → k < length rs → get_or rs k no_span ≡ span_of (reg b numbers k)
  at k l =
      let inside : k < length numbers = (let c = count in omega arith) in
      ap (λ (l : List Span). get_or l k no_span) (sym g.covers.are) ∙ get_or-map (λ i. span_of (region b i)) numbers k 0 no_span inside

  pub there : (k : ℕ) → k < length rs → get_or numbers k 0 < length b.regions
  there k l = g.covers.there k (let c = count in omega arith)

  pub is_place : (k : ℕ) → k < length rs → IsSpan (span_of (reg b numbers k))
  is_place k l = subst IsSpan (at k l) (all_at IsSpan rs k no_span (recursion_from_All IsSpan rs g.asked.each) l)

  -- two of them don't meet
  pub one_of : (i j a : ℕ) → i < length rs → j < length rs → Has a (span_of (reg b numbers i)) → Has a (span_of (reg b numbers j)) → i ≡ j
  one_of i j a li lj hi hj = g.asked.apart i j a li lj (subst (Has a) (sym (at i li)) hi) (subst (Has a) (sym (at j lj)) hj)

  -- each one that is kept is among them
  pub found : (i : ℕ) → IsKept (region b i).holder → (k : ℕ) × (k < length rs) × (get_or numbers k 0 ≡ i)
  found i h =
      let f = g.covers.all i (is_there b i (held_there (region b i).holder h)) h in
      (f.0, (let c = count in let l = f.1.inside in omega arith), f.1.is)

  pub place_is : (k a : ℕ) → k < length rs → Has a (span_of (reg b numbers k)) → place a rs ≡ k
  unfolding place
  place_is k a l h =
      let here : Has a (get_or rs k no_span) = subst (Has a) (sym (at k l)) h in
      position_or_len_is (has a) rs k no_span (omega arith)
      (λ i m. has_false a (get_or rs i no_span) (λ x. let e = g.asked.apart i k a (omega arith) l x here in absurd (omega arith)) (has a (get_or rs i no_span)) refl)
      (λ _. has_true a (get_or rs k no_span) here)

  -- no region has a page outside
  pub place_out : (a : ℕ) → (first_region_start ≤ a → a ≤ last_region_end → ⊥) → place a rs ≡ length rs
  unfolding place
  place_out a n =
      position_or_len_is (has a) rs (length rs) no_span (omega arith)
      (λ i m. has_false a (get_or rs i no_span) (λ x. (
      let p = is_place i m in
      let e = at i m in
      let y : Has a (span_of (reg b numbers i)) = subst (Has a) e x in
      let l = p.low in let h = p.high in let yl = y.low in let yh = y.high in
      n (omega arith) (omega arith))) (has a (get_or rs i no_span)) refl)
      (λ l. absurd (omega arith))

  -- where its newest entry stands
  pub top_in : (k : ℕ) → k < length rs → Has (top (reg b numbers k)) (span_of (reg b numbers k))
  top_in k l =
      let room = g.facts.room (get_or numbers k 0) (there k l) in
      let o = (is_place k l).order in
      record { low = omega arith; high = omega arith }

  pub top_even : (k : ℕ) → k < length rs → top (reg b numbers k) % 8 ≡ 0
  top_even k l =
      let room = g.facts.room (get_or numbers k 0) (there k l) in
      let p = is_place k l in
      let o = p.order in
      let e = p.last in
      omega arith

  pub top_place : (k : ℕ) → k < length rs → place (top (reg b numbers k)) rs ≡ k
  top_place k l = place_is k (top (reg b numbers k)) l (top_in k l)

  -- its words from there on are those of its entries
  pub list_is : (k : ℕ) → k < length rs → drop (from_of (span_of (reg b numbers k)) (top (reg b numbers k))) (region_words W (span_of (reg b numbers k))) ≡ words_of (tops b) (top (reg b numbers k)) (reg b numbers k).entries
  list_is k l =
      let r = reg b numbers k in
      let room = g.facts.room (get_or numbers k 0) (there k l) in
      let p = is_place k l in
      let low = p.low in let o = p.order in let e = p.last in let f = p.first in let te = top_even k l in let ti = (top_in k l).low in
      let from : ℕ = from_of (span_of (reg b numbers k)) (top (reg b numbers k)) in
      words_drop W ((reg b numbers k).start - 8) (((reg b numbers k).end - ((reg b numbers k).start - 8)) / 8) from (omega arith) ∙
      ap (λ a. words_from W a (((reg b numbers k).end - ((reg b numbers k).start - 8)) / 8 - from)) (omega arith) ∙
      ap (words_from W (top (reg b numbers k))) (omega arith) ∙
      stack_words W (tops b) (top (reg b numbers k)) (reg b numbers k).entries (g.facts.entries_written (get_or numbers k 0) (there k l))

  -- no region comes twice
  pub few_given : length rs ≤ length b.regions
  few_given =
      let c = count in
      let f = few (length b.regions) numbers (λ k l. g.covers.there k l)
      (λ i j li lj e. one_of i j (top (reg b numbers i)) (omega arith) (omega arith) (top_in i (omega arith))
      (subst (λ x. Has (top (reg b numbers i)) (span_of (region b x))) e (top_in i (omega arith)))) in
      omega arith
