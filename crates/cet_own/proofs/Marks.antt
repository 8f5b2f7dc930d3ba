-- Tokens, zeros and the counter of draws after an access. Three kinds serve every class: a change of the book without a
-- write, a write that the marks don't see, and a write at an address of a region. Source: own.
use Rattle.std.proofs.Common.{◌≡◌, ◌≢◌, ℕ, ◌+◌, ◌-◌, ◌<◌, ◌≤◌, ◌⊎◌, inl, inr, List, length, refl, sym, ◌∙◌, ap, subst, arith, get_or-set_other}
use Rattle.std.specs.Prelude.{slice_set}
use Rattle.std.proofs.lemmas.Bool.Decides.{eqb_tells}
use Rattle.cet_words.specs.Layout.{first_kernel_word, first_shadow_word, word_count}
use Rattle.cet_book.specs.Facts.{IsParkedAt, In, Place}
use Rattle.cet_book.proofs.Acquire.{parked_fits}
use Rattle.cet_book.specs.declared.entries.Entry.{Entry}
use Rattle.cet_book.specs.declared.entries.Holder.TheVariants.{Current, Parked, Lost}
use Rattle.cet_book.specs.Book.{Region, Book, region, top, relist, unlink}
use Rattle.cet_book.proofs.Edits.{Owned, is_there, SameBounds}
use Rattle.cet_book.proofs.Hand.{hand, hand_all, hand_same, hand_other, ends}
use Rattle.cet_book.proofs.Relist.{relist_all, relist_same, relist_other}
use Rattle.cet_book.specs.Shape.{Shape}
use Rattle.cet_book.specs.Stack.{slot, slot_word}
use Rattle.cet_book.proofs.Unlink.{Linked, linked_left, unlink_all, unlink_same, unlink_other}
use Rattle.cet_own.specs.Past.{draw_word}
use Rattle.cet_own.specs.Holds.{IsMaker, Marks}
use Rattle.cet_own.proofs.Writes.{in_one, in_place, slot_same, slot_other, slot_out}

-- the token of a parked region stands in it
pub parked_place : (b : Book) (i : ℕ) → Shape b → (region b i).holder ≡ Parked → Place (top (region b i) - 8) × In (region b i) (top (region b i) - 8)
parked_place b i s e =
    let l = is_there b i (λ z. cc) in
    let fits = parked_fits (region b i) (s.fits i) e in
    let room = (s.fits i).room in
    let bounds = s.bounds i l in
    let low = bounds.low in
    let last = bounds.last in
    let inn : In (region b i) (top (region b i) - 8) = record { low = omega arith; high = omega arith } in
    (in_place b i (top (region b i) - 8) s inn (omega arith), inn)

in_same : (b next : Book) (i p : ℕ) → SameBounds b next → In (region b i) p → In (region next i) p
in_same b next i p s h =
    let e = s.start i in
    let f = s.end i in
    let low = h.low in
    let high = h.high in
    record { low = omega arith; high = omega arith }

-- ---- the book changes, and no word

-- parked regions are as they were, and no region is begun
pub record SameTokens (b next : Book) : Type 0 where
  pub same : SameBounds b next
  pub on : (i : ℕ) → (region b i).holder ≡ Parked → region next i ≡ region b i
  pub back : (i : ℕ) → (region next i).holder ≡ Parked → region next i ≡ region b i
  pub makers : (i : ℕ) → IsMaker (region next i).holder → IsMaker (region b i).holder

pub tokens_none : (b : Book) → SameTokens b b
tokens_none b = record { same = record { len = refl; start = λ i. refl; end = λ i. refl }; on = λ i e. refl; back = λ i e. refl; makers = λ i z. z }

pub other_holder : {t m : ℕ} {b : Book} → Owned t m b → (i : ℕ) → (region b i).holder ≡ Parked → i ≢ m
other_holder {b = b} o i e z = let c = o.current in let d = subst (λ j. (region b j).holder ≡ Parked) z e in cc

pub tokens_relist : {t m : ℕ} {b : Book} → Owned t m b → (es : List Entry) → SameTokens b (relist m es b)
tokens_relist {b = b} o es = record {
  same = relist_same o es;
  on = λ i e. relist_other o es i (other_holder o i e);
  back = relist_all o es (λ i r. r.holder ≡ Parked → r ≡ region b i) (λ e. (let c = o.current in cc)) (λ i n e. refl);
  makers = relist_all o es (λ i r. IsMaker r.holder → IsMaker (region b i).holder) (λ z. z) (λ i n z. z);
}

pub tokens_unlink : {t m s : ℕ} {es : List Entry} {b : Book} → Linked t m s es b → SameTokens b (unlink m s es Lost b)
tokens_unlink {m = m} {s = s} {b = b} l = record {
  same = unlink_same l Lost;
  on = λ i e. unlink_other l Lost i (λ z. (let c = linked_left l in let d = subst (λ j. (region b j).holder ≡ Parked) z e in cc)) (other_holder l.owned i e);
  back = unlink_all l Lost (λ i r. r.holder ≡ Parked → r ≡ region b i) (λ e. cc) (λ e. (let c = l.owned.current in cc)) (λ i n n' e. refl);
  makers = unlink_all l Lost (λ i r. IsMaker r.holder → IsMaker (region b i).holder) (λ z. absurd z) (λ z. z) (λ i n n' z. z);
}

pub tokens_end : {t m : ℕ} {b : Book} → Owned t m b → SameTokens b (hand m (region b m).entries Lost b)
tokens_end {b = b} o = record {
  same = hand_same (ends o);
  on = λ i e. hand_other (ends o) i (other_holder o i e);
  back = hand_all (ends o) (λ i r. r.holder ≡ Parked → r ≡ region b i) (λ e. cc) (λ i n e. refl);
  makers = hand_all (ends o) (λ i r. IsMaker r.holder → IsMaker (region b i).holder) (λ z. absurd z) (λ i n z. z);
}

pub marks_same : (words : List ℕ) {b next : Book} → SameTokens b next → Marks words b → Marks words next
marks_same words {b = b} {next = next} c h = record {
  parked = λ i e.
      let s = c.back i e in
      subst (λ (r : Region). slot_word words (top r - 8) ≡ top r + 1) (sym s) (h.parked i (subst (λ (r : Region). r.holder ≡ Parked) s e));
  token = λ p pp w. (let r = h.token p pp w in (r.0, subst (IsParkedAt p) (sym (c.on r.0 r.1.parked)) r.1));
  zeros = λ p pp n. (let r = h.zeros p pp n in (r.0, record { inside = in_same b next r.0 p c.same r.1.inside; made = λ z. r.1.made (c.makers r.0 z) }));
  drawn = λ i. (let e = c.same.end i in let d = h.drawn i in omega arith);
}

-- ---- a word is written elsewhere

pub marks_out : (words : List ℕ) (b : Book) (w x : ℕ) → (w < first_shadow_word) ⊎ (first_kernel_word ≤ w) → w ≢ draw_word → Shape b → Marks words b → Marks (slice_set words w x) b
marks_out words b w x out n s h = record {
  parked = λ i e. slot_out words w (top (region b i) - 8) x out (parked_place b i s e).0 ∙ h.parked i e;
  token = λ p pp e. h.token p pp (sym (slot_out words w p x out pp) ∙ e);
  zeros = λ p pp z. h.zeros p pp (λ e. z (slot_out words w p x out pp ∙ e));
  drawn = λ i.
      let other : draw_word ≢ w = λ z. n (sym z) in
      let e = get_or-set_other words w draw_word x 0 other in
      let d = h.drawn i in
      omega arith;
}

-- ---- a word is written in a region

-- x is written at p in region k, and the book becomes next
pub record WritesAt (p x k : ℕ) (b next : Book) : Type 0 where
  pub same : SameBounds b next
  pub place : Place p
  pub inside : In (region b k) p
  -- regions that are parked elsewhere stay so, and no other comes to be
  pub on : (i : ℕ) → (region b i).holder ≡ Parked → top (region b i) ≢ p + 8 → region next i ≡ region b i
  pub back : (i : ℕ) → i ≢ k → (region next i).holder ≡ Parked → region next i ≡ region b i
  -- region k is parked afterwards exactly where x is its token
  pub at_k : (region next k).holder ≡ Parked → (top (region next k) ≡ p + 8) × (x ≡ p + 9)
  pub token : x ≡ p + 9 → IsParkedAt p (region next k)
  pub not_maker : IsMaker (region next k).holder → ⊥
  pub makers : (i : ℕ) → IsMaker (region next i).holder → IsMaker (region b i).holder

pub marks_write : (words : List ℕ) {p x k : ℕ} {b next : Book} → WritesAt p x k b next → length words ≡ word_count → Shape b → Marks words b → Marks (slice_set words (slot p) x) next
marks_write words {p = p} {x = x} {k = k} {b = b} {next = next} m size s h = record {
  parked = λ i e. elim (eqb_tells i k) [
    | inl u ↦
        let f = m.at_k (subst (λ j. (region next j).holder ≡ Parked) u.1 e) in
        let at : top (region next i) ≡ p + 8 = subst (λ j. top (region next j) ≡ p + 8) (sym u.1) f.0 in
        let place : top (region next i) - 8 ≡ p = omega arith in
        let value : x ≡ p + 9 = f.1 in
        ap (slot_word (slice_set words (slot p) x)) place ∙ slot_same words p x size m.place ∙ omega arith
    | inr u ↦
        let same = m.back i u.1 e in
        let e' : (region b i).holder ≡ Parked = subst (λ (r : Region). r.holder ≡ Parked) same e in
        let q = parked_place b i s e' in
        let other : top (region b i) - 8 ≢ p = λ z. u.1 (in_one b i k p s (subst (In (region b i)) z q.1) m.inside) in
        subst (λ (r : Region). slot_word (slice_set words (slot p) x) (top r - 8) ≡ top r + 1) (sym same)
        (slot_other words p (top (region b i) - 8) x m.place q.0 other ∙ h.parked i e')
  ];
  token = λ a pa e. elim (eqb_tells a p) [
    | inl u ↦
        let w : x ≡ a + 9 = sym (subst (λ n. slot_word (slice_set words (slot p) x) n ≡ x) (sym u.1) (slot_same words p x size m.place)) ∙ e in
        (k, subst (λ n. IsParkedAt n (region next k)) (sym u.1) (m.token (w ∙ ap (λ n. n + 9) u.1)))
    | inr u ↦
        let r = h.token a pa (sym (slot_other words p a x m.place pa u.1) ∙ e) in
        let at = r.1.top_is in
        let n = u.1 in
        (r.0, subst (IsParkedAt a) (sym (m.on r.0 r.1.parked (λ z. n (omega arith)))) r.1)
  ];
  zeros = λ a pa n. elim (eqb_tells a p) [
    | inl u ↦ (k, record { inside = in_same b next k a m.same (subst (In (region b k)) (sym u.1) m.inside); made = m.not_maker })
    | inr u ↦
        let r = h.zeros a pa (λ z. n (slot_other words p a x m.place pa u.1 ∙ z)) in
        (r.0, record { inside = in_same b next r.0 a m.same r.1.inside; made = λ z. r.1.made (m.makers r.0 z) })
  ];
  drawn = λ i.
      let high = m.place.high in
      let other : draw_word ≢ slot p = omega arith in
      let e = get_or-set_other words (slot p) draw_word x 0 other in
      let f = m.same.end i in
      let d = h.drawn i in
      omega arith;
}

-- a thread writes into its own region, and no token
pub writes_own : {t m p x : ℕ} {b next : Book} → SameTokens b next → Owned t m b → (region next m).holder ≡ Current t → Place p → In (region b m) p → x ≢ p + 9 → WritesAt p x m b next
writes_own {t = t} c o now place inn n = record {
  same = c.same;
  place = place;
  inside = inn;
  on = λ i e _. c.on i e;
  back = λ i _ e. c.back i e;
  at_k = λ e. cc;
  token = λ e. absurd (n e);
  not_maker = λ z. subst IsMaker now z;
  makers = c.makers;
}
