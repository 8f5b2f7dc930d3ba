-- The first marks: pointers tell the current stacks, and restore tokens the parked ones. Source: own.
use Rattle.std.proofs.Common.{◌≡◌, ◌≢◌, ℕ, zero, suc, ◌+◌, ◌-◌, ◌*◌, ◌/◌, ◌<◌, ◌≤◌, inl, inr, Bool, true, false, List, []}
use Rattle.std.proofs.Common.{◌∷◌, length, get_or, map, replicate, refl, sym, ◌∙◌, ap, subst, cond, arith}
use Rattle.std.specs.Prelude.{◌==◌}
use Rattle.std.proofs.lemmas.Bool.{false≢true, cases_lt}
use Rattle.std.proofs.lemmas.Bool.Decides.{eqb_tells, nat_tests}
use Rattle.std.proofs.lemmas.List.{length-replicate}
use Rattle.cet_words.specs.Job.{ImageData}
use Rattle.cet_book.specs.declared.entries.Holder.TheVariants.{Current, Parked}
use Rattle.cet_book.specs.Book.{Book, region, top}
use Rattle.cet_book.specs.Stack.{slot_word}
use Rattle.cet_book.specs.View.{Span, span_of, Has, IsKept, shown_of, in_view, region_words}
use Rattle.cet_book.specs.Facts.{IsParkedAt}
use Rattle.cet_book.specs.Marks.{from_of, Found, marked, currents, token_from, park_if, park, parks}
use Rattle.cet_book.specs.declared.regions.Shown.TheVariants as shown
use Rattle.cet_book.specs.declared.marks.Mark.TheVariants.{Unseen}
use Rattle.cet_book.proofs.MarkSteps.{park_some, park_none}
use Rattle.cet_book.proofs.Lists.{counted, counted_none, words_length, words_at}
use Rattle.cet_book.proofs.Setting.{Setting, reg, at, is_place, one_of, found, top_in, top_even}
use Rattle.cet_book.proofs.InView.{is_seen, Seen, top_follows, park_follows, marked_here}
use Rattle.cet_book.proofs.Rights.{MarkRight, Right, marked_right, top_right, top_seen}
use Rattle.cet_book.proofs.Turns.{copy_at}

no_mark : (n k : ℕ) → get_or (replicate n Unseen) k Unseen ≡ Unseen
no_mark zero k = refl
no_mark (suc n) zero = refl
no_mark (suc n) (suc k) = no_mark n k

-- at the start nothing was found
abbrev pub nothing : List Span → Found
nothing rs = record { marks = replicate (length rs) Unseen; order = [] }

pub start_right : (b : Book) (numbers : List ℕ) (rs : List Span) → Right b numbers rs (nothing rs)
start_right b numbers rs = record {
  size = length-replicate (length rs) Unseen;
  each = λ k l. subst (MarkRight b numbers k (counted is_seen (replicate (length rs) Unseen))) (sym (no_mark (length rs) k)) tt;
  few = sym (counted_none is_seen Unseen (length rs) refl);
  inside = λ j l. absurd (omega arith);
  listed = λ k s. absurd (false≢true (sym (ap is_seen (no_mark (length rs) k)) ∙ s));
}

-- ---- the first token among words

token_if : (c : Bool) (start w n : ℕ) (ws : List ℕ) → (w == start + 1) ≡ c → (n < length ws → get_or ws n 0 ≡ start + 8 + 8 * n + 1) → cond c 0 (suc n) < suc (length ws) →
    get_or (w ∷ ws) (cond c 0 (suc n)) 0 ≡ start + 8 * cond c 0 (suc n) + 1
token_if true start w n ws e h l = grind (arith, nat_tests)
token_if false start w n ws e h l = h (omega arith) ∙ omega arith

pub token_found : (start : ℕ) (ws : List ℕ) → token_from start ws < length ws → get_or ws (token_from start ws) 0 ≡ start + 8 * token_from start ws + 1
unfolding token_from
token_found start [] l = absurd (omega arith)
token_found start (w ∷ ws) l = token_if (w == start + 1) start w (token_from (start + 8) ws) ws refl (token_found (start + 8) ws) l

least_if : (c : Bool) (n m : ℕ) → (c ≡ false → n ≤ m) → cond c 0 (suc n) ≤ suc m
least_if true n m h = omega arith
least_if false n m h = let l = h refl in omega arith

pub token_least : (start : ℕ) (ws : List ℕ) (m : ℕ) → m < length ws → get_or ws m 0 ≡ start + 8 * m + 1 → token_from start ws ≤ m
unfolding token_from
token_least start [] m l e = absurd (omega arith)
token_least start (w ∷ ws) zero l e = let t : (w == start + 1) ≡ true = grind (arith, nat_tests) in rw t (omega arith)
token_least start (w ∷ ws) (suc m) l e = least_if (w == start + 1) (token_from (start + 8) ws) m (λ _. token_least (start + 8) ws m (omega arith) (e ∙ omega arith))

module _ {image : ImageData} {W : List ℕ} {b : Book} {numbers : List ℕ} {rs : List Span} {ssps : List (ℕ × ℕ)} (g : Setting image W b numbers rs ssps) where
  -- only a parked region has a token among its words
  token_parked : (k : ℕ) → k < length rs → (m : ℕ) → m < length (region_words W (span_of (reg b numbers k))) →
      get_or (region_words W (span_of (reg b numbers k))) m 0 ≡ (reg b numbers k).start + 8 * m + 1 → ((reg b numbers k).holder ≡ Parked) × (top (reg b numbers k) ≡ (reg b numbers k).start + 8 * m)
  token_parked k l m inside e =
      let r = is_place g k l in
      let low = r.low in let order = r.order in let high = r.high in let first = r.first in let last = r.last in
      let long = words_length W ((reg b numbers k).start - 8) (((reg b numbers k).end - ((reg b numbers k).start - 8)) / 8) in
      let within : m < ((reg b numbers k).end - ((reg b numbers k).start - 8)) / 8 = omega arith in
      let word = words_at W ((reg b numbers k).start - 8) (((reg b numbers k).end - ((reg b numbers k).start - 8)) / 8) m within in
      let is : slot_word W ((reg b numbers k).start - 8 + 8 * m) ≡ (reg b numbers k).start - 8 + 8 * m + 9 = sym word ∙ e ∙ omega arith in
      let t = (g.facts.tokens ((reg b numbers k).start - 8 + 8 * m) (record { low = omega arith; high = omega arith; even = omega arith })).0 is in
      let parked = t.1.parked in
      let f = found g t.0 (subst IsKept (sym parked) tt) in
      let top_is : top (reg b numbers f.0) ≡ (reg b numbers k).start + 8 * m = ap (λ i. top (region b i)) f.2 ∙ (let a = t.1.top_is in omega arith) in
      let here : Has (top (reg b numbers f.0)) (span_of (reg b numbers k)) = record { low = omega arith; high = omega arith } in
      let same = one_of g f.0 k (top (reg b numbers f.0)) f.1 l (top_in g f.0 f.1) here in
      (subst (λ j. (reg b numbers j).holder ≡ Parked) same (ap (λ i. (region b i).holder) f.2 ∙ parked), subst (λ j. top (reg b numbers j) ≡ (reg b numbers k).start + 8 * m) same top_is)

  -- and it has one
  parked_token : (k : ℕ) → k < length rs → (reg b numbers k).holder ≡ Parked → token_from (reg b numbers k).start (region_words W (span_of (reg b numbers k))) < length (region_words W (span_of (reg b numbers k)))
  parked_token k l e =
      let r = is_place g k l in
      let low = r.low in let order = r.order in let high = r.high in let first = r.first in let last = r.last in
      let ti = top_in g k l in let tl = ti.low in let th = ti.high in let te = top_even g k l in
      let m : ℕ = (top (reg b numbers k) - (reg b numbers k).start) / 8 in
      let t : IsParkedAt (top (reg b numbers k) - 8) (reg b numbers k) = record { parked = e; top_is = omega arith } in
      let is = (g.facts.tokens (top (reg b numbers k) - 8) (record { low = omega arith; high = omega arith; even = omega arith })).1 (get_or numbers k 0, t) in
      let long = words_length W ((reg b numbers k).start - 8) (((reg b numbers k).end - ((reg b numbers k).start - 8)) / 8) in
      let within : m < ((reg b numbers k).end - ((reg b numbers k).start - 8)) / 8 = omega arith in
      let word = words_at W ((reg b numbers k).start - 8) (((reg b numbers k).end - ((reg b numbers k).start - 8)) / 8) m within in
      let addr : (reg b numbers k).start - 8 + 8 * m ≡ top (reg b numbers k) - 8 = omega arith in
      let least = token_least (reg b numbers k).start (region_words W (span_of (reg b numbers k))) m (omega arith) (word ∙ ap (slot_word W) addr ∙ is ∙ omega arith) in
      omega arith

  -- ---- current stacks

  pub currents_right : (c : ℕ) (ms : Found) → c ≤ length ssps → Right b numbers rs ms → Right b numbers rs (currents rs ssps c ms)
  unfolding currents
  currents_right zero ms l s = s
  currents_right (suc c) ms l s =
      let before = currents_right c ms (omega arith) s in
      let prev : Found = currents rs ssps c ms in
      let t = g.covers.tops c (omega arith) in
      let p = t.1 in
      let f = found g t.0 (subst IsKept (sym p.current) tt) in
      let was : (reg b numbers f.0).holder ≡ Current (get_or ssps c (0, 0)).0 = ap (λ i. (region b i).holder) f.2 ∙ p.current in
      let top_is : (get_or ssps c (0, 0)).1 ≡ top (reg b numbers f.0) = p.at ∙ ap (λ i. top (region b i)) (sym f.2) in
      top_right g before f.0 (get_or ssps c (0, 0)).1 (shown.Current (get_or ssps c (0, 0)).0) f.1 top_is (ap shown_of (sym was))
      (ap (in_view b (suc (counted is_seen prev.marks))) was)

  pub currents_hit : (c at_ k : ℕ) (ms : Found) → at_ < c → c ≤ length ssps → k < length rs → (get_or ssps at_ (0, 0)).1 ≡ top (reg b numbers k) → Right b numbers rs ms → Seen (currents rs ssps c ms) k
  unfolding currents
  currents_hit zero at_ k ms m l lk e s = absurd (omega arith)
  currents_hit (suc c) at_ k ms m l lk e s =
      let prev : Found = currents rs ssps c ms in
      elim (eqb_tells at_ c) [
        | inl u ↦ top_seen g prev k (get_or ssps c (0, 0)).1 (shown.Current (get_or ssps c (0, 0)).0) (currents_right c ms (omega arith) s).size lk
            (subst (λ i. (get_or ssps i (0, 0)).1 ≡ top (reg b numbers k)) u.1 e)
        | inr u ↦ (top_follows rs (get_or ssps c (0, 0)).1 (shown.Current (get_or ssps c (0, 0)).0) prev).seen k
            (currents_hit c at_ k ms (let v = u.1 in omega arith) (omega arith) lk e s)
      ]

  -- ---- parked stacks

  park_is : (k : ℕ) (ms : Found) → k < length rs → park rs (map (region_words W) rs) k ms ≡ park_if (token_from (reg b numbers k).start (region_words W (span_of (reg b numbers k)))) (region_words W (span_of (reg b numbers k))) k ms
  unfolding park
  park_is k ms l = rw (at g k l, copy_at g k l) refl

  park_by : (P : Found → Type 0) (k : ℕ) (ms : Found) → k < length rs → ((t : ℕ) → (reg b numbers k).holder ≡ Parked → t + 1 ≡ from_of (span_of (reg b numbers k)) (top (reg b numbers k)) →
      P (marked k shown.Parked (t + 1) ms)) → ((reg b numbers k).holder ≢ Parked → P ms) → P (park rs (map (region_words W) rs) k ms)
  park_by P k ms l new old =
      let words : List ℕ = region_words W (span_of (reg b numbers k)) in
      let t : ℕ = token_from (reg b numbers k).start (region_words W (span_of (reg b numbers k))) in
      rw (park_is k ms l) (elim (cases_lt (token_from (reg b numbers k).start (region_words W (span_of (reg b numbers k)))) (length (region_words W (span_of (reg b numbers k))))) [
        | inl m ↦
            let p = token_parked k l t m (token_found (reg b numbers k).start words m) in
            let top_is = p.1 in
            subst P (sym (park_some t words k ms m)) (new t p.0 (omega arith))
        | inr m ↦ subst P (sym (park_none t words k ms m)) (old (λ e. let n = parked_token k l e in absurd (omega arith)))
      ])

  pub parks_right : (c : ℕ) (ms : Found) → c ≤ length rs → Right b numbers rs ms → Right b numbers rs (parks rs (map (region_words W) rs) c ms)
  unfolding parks
  parks_right zero ms l s = s
  parks_right (suc c) ms l s =
      let before = parks_right c ms (omega arith) s in
      let prev : Found = parks rs (map (region_words W) rs) c ms in
      park_by (λ next. Right b numbers rs next) c prev (omega arith)
      (λ t e f. marked_right before c shown.Parked (t + 1) (omega arith)
      (record { shows = ap shown_of (sym e); view = ap (in_view b (suc (counted is_seen prev.marks))) e; at = f })) (λ _. before)

  pub parks_hit : (c k : ℕ) (ms : Found) → k < c → c ≤ length rs → (reg b numbers k).holder ≡ Parked → Right b numbers rs ms → Seen (parks rs (map (region_words W) rs) c ms) k
  unfolding parks
  parks_hit zero k ms m l e s = absurd (omega arith)
  parks_hit (suc c) k ms m l e s =
      let prev : Found = parks rs (map (region_words W) rs) c ms in
      let size = (parks_right c ms (omega arith) s).size in
      elim (eqb_tells k c) [
        | inl u ↦ subst (λ i. Seen (park rs (map (region_words W) rs) c prev) i) (sym u.1)
            (park_by (λ next. Seen next c) c prev (omega arith) (λ t p f. marked_here prev c shown.Parked (t + 1) (omega arith))
            (λ n. absurd (n (subst (λ i. (reg b numbers i).holder ≡ Parked) u.1 e))))
        | inr u ↦ (park_follows rs (map (region_words W) rs) c prev).seen k (parks_hit c k ms (let v = u.1 in omega arith) (omega arith) e s)
      ]
