-- Marks that agree with the book, and that following words keeps them so. Source: own.
use Rattle.std.proofs.Common.{◌≡◌, ◌≢◌, ℕ, suc, ◌+◌, ◌-◌, ◌^◌, ◌<◌, ◌≤◌, inl, inr, true, false, List, [], ◌∷◌, ◌++◌, length}
use Rattle.std.proofs.Common.{get_or, set, refl, sym, ◌∙◌, ap, subst, arith, length-set, get_or-set_same}
use Rattle.std.specs.Prelude.{◌==◌}
use Rattle.std.proofs.lemmas.Bool.{false≢true, cases_lt}
use Rattle.std.proofs.lemmas.List.{length-append, get_or_append_left}
use Rattle.std.proofs.Math.Seq.{get_or-append_seam}
use Rattle.std.proofs.lemmas.Bool.Decides.{eqb_tells, nat_tests}
use Rattle.cet_words.specs.Layout.{image_end}
use Rattle.cet_words.specs.Job.{ImageData}
use Rattle.cet_book.specs.declared.entries.Entry.{Entry}
use Rattle.cet_book.specs.declared.entries.Entry.TheVariants.{Call, Restorer, Frame, Previous, Blank}
use Rattle.cet_book.specs.declared.entries.Holder.{Holder}
use Rattle.cet_book.specs.declared.entries.Holder.TheVariants.{Maker, Current, Parked, Left, Lost}
use Rattle.cet_book.specs.Book.{Book, region, top}
use Rattle.cet_book.specs.Facts.{is_left, one, links, AllReturn}
use Rattle.cet_book.specs.Stack.{tops, words_of}
use Rattle.cet_book.specs.View.{Span, span_of, IsKept, in_view, shown_of}
use Rattle.cet_book.specs.Marks.{from_of, Found, marked, top_marked, followed}
use Rattle.cet_book.specs.declared.regions.Shown.{Shown}
use Rattle.cet_book.specs.declared.regions.Shown.TheVariants as shown
use Rattle.cet_book.specs.declared.marks.Mark.{Mark}
use Rattle.cet_book.specs.declared.marks.Mark.TheVariants.{Unseen, InView}
use Rattle.cet_book.proofs.Lists.{counted, counted_set}
use Rattle.cet_book.proofs.Setting.{Setting, reg, at, found, place_out, top_place}
use Rattle.cet_book.proofs.InView.{is_seen, mark_at, Seen, with_mark, not_seen, marked_by, set_all, marked_here, top_follows, top_out, followed_follows, view_more}

-- the mark agrees with the book, on a way no longer than there are marks
pub record IsRight (b : Book) (numbers : List ℕ) (k seen : ℕ) (s : Shown) (from : ℕ) : Type 0 where
  pub shows : s ≡ shown_of (reg b numbers k).holder
  pub view : in_view b seen (reg b numbers k).holder ≡ true
  pub at : from ≡ from_of (span_of (reg b numbers k)) (top (reg b numbers k))

abbrev pub MarkRight : Book → List ℕ → ℕ → ℕ → Mark → Type 0
MarkRight b numbers k seen Unseen = Unit {0}
MarkRight b numbers k seen (InView s from) = IsRight b numbers k seen s from

pub record Right (b : Book) (numbers : List ℕ) (rs : List Span) (ms : Found) : Type 0 where
  pub size : length ms.marks ≡ length rs
  pub each : (k : ℕ) → k < length rs → MarkRight b numbers k (counted is_seen ms.marks) (mark_at ms k)
  -- each region that has a mark was found, once, and no other
  pub few : length ms.order ≡ counted is_seen ms.marks
  pub inside : (j : ℕ) → j < length ms.order → (get_or ms.order j 0 < length rs) × Seen ms (get_or ms.order j 0)
  pub listed : (k : ℕ) → Seen ms k → (j : ℕ) × (j < length ms.order) × (get_or ms.order j 0 ≡ k)

right_more : (b : Book) (numbers : List ℕ) (k c : ℕ) (s : Shown) (f : ℕ) → IsRight b numbers k c s f → IsRight b numbers k (suc c) s f
right_more b numbers k c s f r = record { shows = r.shows; view = view_more b c (reg b numbers k).holder r.view; at = r.at }

mark_more : (b : Book) (numbers : List ℕ) (k c : ℕ) (m : Mark) → MarkRight b numbers k c m → MarkRight b numbers k (suc c) m
mark_more b numbers k c Unseen r = r
mark_more b numbers k c (InView s f) r = right_more b numbers k c s f r

mark_view : (b : Book) (numbers : List ℕ) (k c : ℕ) (m : Mark) → is_seen m ≡ true → MarkRight b numbers k c m → in_view b c (reg b numbers k).holder ≡ true
mark_view b numbers k c Unseen s r = absurd (false≢true s)
mark_view b numbers k c (InView s' f) s r = r.view

-- one more mark that agrees
with_right : {b : Book} {numbers : List ℕ} {rs : List Span} {ms : Found} (r : Right b numbers rs ms) (j : ℕ) (s : Shown) (f : ℕ) → j < length rs →
    IsRight b numbers j (suc (counted is_seen ms.marks)) s f → is_seen (mark_at ms j) ≡ false → Right b numbers rs (with_mark ms j s f)
with_right {b = b} {numbers = numbers} {rs = rs} {ms = ms} r j s f l is e =
    let inside : j < length ms.marks = (let z = r.size in omega arith) in
    let c = counted_set is_seen ms.marks j (InView s f) Unseen inside in
    let z : one (is_seen (mark_at ms j)) ≡ 0 = ap one e in
    let more : counted is_seen (set ms.marks j (InView s f)) ≡ suc (counted is_seen ms.marks) = omega arith in
    let long : length (ms.order ++ j ∷ []) ≡ length ms.order + 1 = length-append ms.order (j ∷ []) in
    let last : get_or (ms.order ++ j ∷ []) (length ms.order) 0 ≡ j = get_or-append_seam ms.order j [] 0 in
    let keeps : (k : ℕ) → Seen ms k → Seen (with_mark ms j s f) k = set_all ms j s f inside (λ k m. Seen ms k → is_seen m ≡ true) (λ _. refl) (λ k n x. x) in
    let here : Seen (with_mark ms j s f) j = ap is_seen (get_or-set_same ms.marks j (InView s f) Unseen inside) in
    record {
      size = length-set ms.marks j (InView s f) ∙ r.size;
      each = λ k m. subst (λ n. MarkRight b numbers k n (mark_at (with_mark ms j s f) k)) (sym more)
          (set_all ms j s f inside (λ i x. i < length rs → MarkRight b numbers i (suc (counted is_seen ms.marks)) x) (λ _. is)
          (λ i n x. mark_more b numbers i (counted is_seen ms.marks) (mark_at ms i) (r.each i x)) k m);
      few = long ∙ (let x = r.few in omega arith);
      inside = λ i m. elim (cases_lt i (length ms.order)) [
        | inl x ↦ subst (λ n. (n < length rs) × Seen (with_mark ms j s f) n) (sym (get_or_append_left ms.order (j ∷ []) 0 i x)) ((r.inside i x).0, keeps (get_or ms.order i 0) (r.inside i x).1)
        | inr x ↦
            let same : length ms.order ≡ i = omega arith in
            subst (λ n. (n < length rs) × Seen (with_mark ms j s f) n) (sym last ∙ ap (λ n. get_or (ms.order ++ j ∷ []) n 0) same) (l, here)
      ];
      listed = set_all ms j s f inside (λ k m. is_seen m ≡ true → (i : ℕ) × (i < length (ms.order ++ j ∷ [])) × (get_or (ms.order ++ j ∷ []) i 0 ≡ k))
          (λ _. (length ms.order, omega arith, last))
          (λ k n x. (
          let o = r.listed k x in
          (o.0, (let m = o.1 in omega arith), get_or_append_left ms.order (j ∷ []) 0 o.0 o.1 ∙ o.2)));
    }

pub marked_right : {b : Book} {numbers : List ℕ} {rs : List Span} {ms : Found} (r : Right b numbers rs ms) (j : ℕ) (s : Shown) (f : ℕ) → j < length rs →
    IsRight b numbers j (suc (counted is_seen ms.marks)) s f → Right b numbers rs (marked j s f ms)
marked_right {b = b} {numbers = numbers} {rs = rs} {ms = ms} r j s f l is =
    marked_by (λ next. Right b numbers rs next) ms j s f (let z = r.size in omega arith)
    (λ e. with_right r j s f l is (not_seen (mark_at ms j) e)) (λ _. r)

left_of : (q : ℕ) (h : Holder) (n : ℕ) → n ≡ one (is_left q h) → n ≢ 0 → h ≡ Left q
left_of q (Maker x) n e z = absurd (z e)
left_of q (Current x) n e z = absurd (z e)
left_of q Parked n e z = absurd (z e)
left_of q (Left x) n e z = elim (eqb_tells x q) [ inl u ↦ ap Left u.1 | inr u ↦ absurd (z (e ∙ ap one u.0)) ]
left_of q Lost n e z = absurd (z e)

module _ {image : ImageData} {W : List ℕ} {b : Book} {numbers : List ℕ} {rs : List Span} {ssps : List (ℕ × ℕ)} (g : Setting image W b numbers rs ssps) where
  -- by an address that is the top of a region
  pub top_right : {ms : Found} (r : Right b numbers rs ms) (j a : ℕ) (s : Shown) → j < length rs → a ≡ top (reg b numbers j) → s ≡ shown_of (reg b numbers j).holder →
      in_view b (suc (counted is_seen ms.marks)) (reg b numbers j).holder ≡ true → Right b numbers rs (top_marked rs a s ms)
  unfolding top_marked
  top_right r j a s l e sh v =
      rw (e, top_place g j l, at g j l) (marked_right r j s _ l (record { shows = sh; view = v; at = refl }))

  pub top_seen : (ms : Found) (j a : ℕ) (s : Shown) → length ms.marks ≡ length rs → j < length rs → a ≡ top (reg b numbers j) → Seen (top_marked rs a s ms) j
  unfolding top_marked
  top_seen ms j a s size l e = rw (e, top_place g j l) (marked_here ms j s _ (omega arith))

  link_left : (q s : ℕ) → links s (region b q).entries ≢ 0 → (region b s).holder ≡ Left q
  link_left q s n = left_of q (region b s).holder (links s (region b q).entries) (g.facts.previous_left q s) n

  -- by the words of a region in view: what they lead to was left for it
  pub follow_right : (k : ℕ) → k < length rs → (es : List Entry) (a : ℕ) (ms : Found) → ((s : ℕ) → links s es ≢ 0 → links s (reg b numbers k).entries ≢ 0) → AllReturn es → Right b numbers rs ms →
      Seen ms k → Right b numbers rs (followed rs (words_of (tops b) a es) ms)
  unfolding followed
  follow_right k l [] a ms sub ret r seen = r
  follow_right k l (Call x ∷ es) a ms sub ret r seen =
      let low : x ≤ image_end = ret.0.1 in
      rw (top_out rs (x - 3) shown.Left ms (place_out g (x - 3) (λ m h. absurd (omega arith))) r.size, followed)
      (follow_right k l es (a + 8) ms (λ s n. sub s (λ z. n (let q : links s (Call x ∷ es) ≡ links s es = omega arith in omega arith))) ret.1 r seen)
  follow_right k l (Restorer x ∷ es) a ms sub ret r seen =
      let low : x ≤ image_end = ret.0.1 in
      rw (top_out rs (x - 3) shown.Left ms (place_out g (x - 3) (λ m h. absurd (omega arith))) r.size, followed)
      (follow_right k l es (a + 8) ms (λ s n. sub s (λ z. n (let q : links s (Restorer x ∷ es) ≡ links s es = omega arith in omega arith))) ret.1 r seen)
  follow_right k l (Frame ∷ es) a ms sub ret r seen =
      rw (top_out rs (2 ^ 63 + a + 8 - 3) shown.Left ms (place_out g (2 ^ 63 + a + 8 - 3) (λ m h. absurd (omega arith))) r.size, followed)
      (follow_right k l es (a + 8) ms (λ s n. sub s (λ z. n (let q : links s (Frame ∷ es) ≡ links s es = omega arith in omega arith))) ret.1 r seen)
  follow_right k l (Blank ∷ es) a ms sub ret r seen =
      rw (top_out rs (0 - 3) shown.Left ms (place_out g (0 - 3) (λ m h. absurd (omega arith))) r.size, followed)
      (follow_right k l es (a + 8) ms (λ s n. sub s (λ z. n (let q : links s (Blank ∷ es) ≡ links s es = omega arith in omega arith))) ret.1 r seen)
  follow_right k l (Previous x ∷ es) a ms sub ret r seen =
      let here : links x (Previous x ∷ es) ≢ 0 = (λ z. let e : (x == x) ≡ true = grind (arith, nat_tests) in let o : one (x == x) ≡ 1 = ap one e in absurd (omega arith)) in
      let left : (region b x).holder ≡ Left (get_or numbers k 0) = link_left (get_or numbers k 0) x (sub x here) in
      let f = found g x (subst IsKept (sym left) tt) in
      let was : (reg b numbers f.0).holder ≡ Left (get_or numbers k 0) = ap (λ i. (region b i).holder) f.2 ∙ left in
      let top_is : tops b x + 3 - 3 ≡ top (reg b numbers f.0) = (let e : tops b (get_or numbers f.0 0) ≡ tops b x = ap (tops b) f.2 in omega arith) in
      let v : in_view b (counted is_seen ms.marks) (reg b numbers k).holder ≡ true = mark_view b numbers k (counted is_seen ms.marks) (mark_at ms k) seen (r.each k l) in
      let next : Right b numbers rs (top_marked rs (tops b x + 3 - 3) shown.Left ms) = top_right r f.0 (tops b x + 3 - 3) shown.Left f.1 top_is (ap shown_of (sym was)) (ap (in_view b (suc (counted is_seen ms.marks))) was ∙ v) in
      follow_right k l es (a + 8) (top_marked rs (tops b x + 3 - 3) shown.Left ms)
      (λ s n. sub s (λ z. n (omega arith))) ret.1 next ((top_follows rs (tops b x + 3 - 3) shown.Left ms).seen k seen)

  -- and nothing that was left for it is missed
  pub follow_hits : (es : List Entry) (a : ℕ) (ms : Found) (j : ℕ) → length ms.marks ≡ length rs → j < length rs → links (get_or numbers j 0) es ≢ 0 → Seen (followed rs (words_of (tops b) a es) ms) j
  unfolding followed
  follow_hits [] a ms j size l n = absurd (n refl)
  follow_hits (Call x ∷ es) a ms j size l n = follow_hits es (a + 8) (top_marked rs (x - 3) shown.Left ms) j ((top_follows rs (x - 3) shown.Left ms).size ∙ size) l (λ z. n (omega arith))
  follow_hits (Restorer x ∷ es) a ms j size l n = follow_hits es (a + 8) (top_marked rs (x - 3) shown.Left ms) j ((top_follows rs (x - 3) shown.Left ms).size ∙ size) l (λ z. n (omega arith))
  follow_hits (Frame ∷ es) a ms j size l n = follow_hits es (a + 8) (top_marked rs (2 ^ 63 + a + 8 - 3) shown.Left ms) j ((top_follows rs (2 ^ 63 + a + 8 - 3) shown.Left ms).size ∙ size) l (λ z. n (omega arith))
  follow_hits (Blank ∷ es) a ms j size l n = follow_hits es (a + 8) (top_marked rs (0 - 3) shown.Left ms) j ((top_follows rs (0 - 3) shown.Left ms).size ∙ size) l (λ z. n (omega arith))
  follow_hits (Previous x ∷ es) a ms j size l n = elim (eqb_tells x (get_or numbers j 0)) [
    | inl e ↦
        let here : tops b x + 3 - 3 ≡ top (reg b numbers j) = (let f : tops b x ≡ tops b (get_or numbers j 0) = ap (tops b) e.1 in omega arith) in
        (followed_follows rs (words_of (tops b) (a + 8) es) (top_marked rs (tops b x + 3 - 3) shown.Left ms)).seen j
        (top_seen ms j (tops b x + 3 - 3) shown.Left size l here)
    | inr e ↦
        follow_hits es (a + 8) (top_marked rs (tops b x + 3 - 3) shown.Left ms) j ((top_follows rs (tops b x + 3 - 3) shown.Left ms).size ∙ size) l
        (λ z. n (let o : one (x == get_or numbers j 0) ≡ 0 = ap one e.0 in omega arith))
  ]
