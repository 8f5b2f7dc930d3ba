-- Regions that were found are followed one after another, and none is left in the end. Source: own.
use Rattle.std.proofs.Common.{◌≡◌, ℕ, zero, suc, ◌<◌, inl, inr, true, List, [], length, get_or, drop, map, refl, sym, ◌∙◌, ap, subst, arith}
use Rattle.std.specs.Prelude.{nat_lt, ◌==◌}
use Rattle.std.proofs.lemmas.Bool.{false≢true, cases_lt}
use Rattle.std.proofs.lemmas.Bool.Decides.{eqb_tells, nat_tests}
use Rattle.std.proofs.lemmas.List.{get_or-map}
use Rattle.cet_words.specs.Job.{ImageData}
use Rattle.cet_book.specs.declared.entries.Holder.TheVariants.{Left}
use Rattle.cet_book.specs.Book.{Book, top}
use Rattle.cet_book.specs.Facts.{is_left, one}
use Rattle.cet_book.specs.Stack.{tops, words_of}
use Rattle.cet_book.specs.View.{Span, no_span, span_of, region_words}
use Rattle.cet_book.specs.Marks.{Found, followed, words_by, follow, follow_all}
use Rattle.cet_book.specs.declared.marks.Mark.{Mark}
use Rattle.cet_book.specs.declared.marks.Mark.TheVariants.{Unseen, InView}
use Rattle.cet_book.proofs.Lists.{counted, counted_le}
use Rattle.cet_book.proofs.MarkSteps.{follow_past}
use Rattle.cet_book.proofs.Setting.{Setting, reg, at, list_is}
use Rattle.cet_book.proofs.InView.{is_seen, mark_at, Seen, followed_follows}
use Rattle.cet_book.proofs.Rights.{IsRight, MarkRight, Right, follow_right, follow_hits}

-- marks that agree, and miss nothing that was left for one of the first regions that were found
pub record State (b : Book) (numbers : List ℕ) (rs : List Span) (turn : ℕ) (ms : Found) : Type 0 where
  pub right : Right b numbers rs ms
  pub closed : (i j : ℕ) → i < turn → i < length ms.order → j < length rs → (reg b numbers j).holder ≡ Left (get_or numbers (get_or ms.order i 0) 0) → Seen ms j

module _ {image : ImageData} {W : List ℕ} {b : Book} {numbers : List ℕ} {rs : List Span} {ssps : List (ℕ × ℕ)} (g : Setting image W b numbers rs ssps) where
  pub copy_at : (k : ℕ) → k < length rs → get_or (map (region_words W) rs) k [] ≡ region_words W (span_of (reg b numbers k))
  copy_at k l = get_or-map (region_words W) rs k no_span [] l ∙ ap (region_words W) (at g k l)

  -- the words of a region's entries
  abbrev list_of : ℕ → List ℕ
  list_of k = words_of (tops b) (top (reg b numbers k)) (reg b numbers k).entries

  list_if : (k : ℕ) (ms : Found) → k < length rs → Right b numbers rs ms → (m : Mark) → mark_at ms k ≡ m → is_seen m ≡ true → words_by m (get_or (map (region_words W) rs) k []) ≡ list_of k
  list_if k ms l r Unseen e seen = absurd (false≢true seen)
  list_if k ms l r (InView s f) e seen =
      let is : IsRight b numbers k (counted is_seen ms.marks) s f = subst (MarkRight b numbers k (counted is_seen ms.marks)) e (r.each k l) in
      ap (λ x. drop f x) (copy_at k l) ∙ ap (λ n. drop n (region_words W (span_of (reg b numbers k)))) is.at ∙ list_is g k l

  turned : (k i : ℕ) (ms : Found) → k < length ms.order → get_or ms.order k 0 ≡ i → State b numbers rs k ms → State b numbers rs (suc k) (followed rs (list_of i) ms)
  turned k i ms l e st =
      let found = subst (λ n. (n < length rs) × Seen ms n) e (st.right.inside k l) in
      let fo = followed_follows rs (list_of i) ms in
      record {
        right = follow_right g i found.0 (reg b numbers i).entries (top (reg b numbers i)) ms (λ x n. n) (g.facts.returns (get_or numbers i 0)) st.right found.1;
        closed = λ h j lh lo lj left. elim (eqb_tells h k) [
          | inl u ↦
              let same : get_or (followed rs (list_of i) ms).order h 0 ≡ i = ap (λ n. get_or (followed rs (list_of i) ms).order n 0) u.1 ∙ fo.order k l ∙ e in
              let was : (reg b numbers j).holder ≡ Left (get_or numbers i 0) = left ∙ ap (λ n. Left (get_or numbers n 0)) same in
              follow_hits g (reg b numbers i).entries (top (reg b numbers i)) ms j st.right.size lj
              (λ none. (
              let links_is = g.facts.previous_left (get_or numbers i 0) (get_or numbers j 0) in
              let t : (get_or numbers i 0 == get_or numbers i 0) ≡ true = grind (arith, nat_tests) in
              let o : one (is_left (get_or numbers i 0) (reg b numbers j).holder) ≡ 1 = ap (λ h. one (is_left (get_or numbers i 0) h)) was ∙ ap one t in
              absurd (omega arith)))
          | inr u ↦
              let before : h < k = (let n = u.1 in omega arith) in
              let same = fo.order h (omega arith) in
              fo.seen j (st.closed h j before (omega arith) lj (left ∙ ap (λ n. Left (get_or numbers n 0)) same))
        ];
      }

  follow_state : (k : ℕ) (ms : Found) → State b numbers rs k ms → State b numbers rs (suc k) (follow rs (map (region_words W) rs) k ms)
  unfolding follow
  follow_state k ms st = elim (cases_lt k (length ms.order)) [
    | inl l ↦
        let t : nat_lt k (length ms.order) ≡ true = grind (arith, nat_tests) in
        let found = st.right.inside k l in
        let list = list_if (get_or ms.order k 0) ms found.0 st.right (mark_at ms (get_or ms.order k 0)) refl found.1 in
        rw (t, list) (turned k (get_or ms.order k 0) ms l refl st)
    | inr m ↦ subst (λ next. State b numbers rs (suc k) next) (follow_past rs (map (region_words W) rs) k ms m)
        (record { right = st.right; closed = λ h j lh lo lj left. st.closed h j (omega arith) lo lj left })
  ]

  pub all_state : (c : ℕ) (ms : Found) → Right b numbers rs ms → State b numbers rs c (follow_all rs (map (region_words W) rs) c ms)
  unfolding follow_all
  all_state zero ms r = record { right = r; closed = λ i j l. absurd (omega arith) }
  all_state (suc c) ms r = follow_state c (follow_all rs (map (region_words W) rs) c ms) (all_state c ms r)

  -- no more regions were found than there are turns, so nothing that was left for one of them is missed
  pub all_closed : (ms : Found) → State b numbers rs (length rs) ms → (k j : ℕ) → Seen ms k → j < length rs → (reg b numbers j).holder ≡ Left (get_or numbers k 0) → Seen ms j
  all_closed ms st k j seen l left =
      let o = st.right.listed k seen in
      let few = st.right.few in
      let size = st.right.size in
      let le = counted_le is_seen ms.marks in
      let m = o.1 in
      st.closed o.0 j (omega arith) m l (left ∙ ap (λ n. Left (get_or numbers n 0)) (sym o.2))
