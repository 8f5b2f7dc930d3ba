-- The table of pages, region by region. Source: own.
use Rattle.std.proofs.Common.{◌≡◌, ℕ, ◌+◌, ◌-◌, ◌*◌, ◌/◌, ◌<◌, ◌≤◌, ◌⊎◌, inl, inr, true, false, List, length, get_or, refl, sym, ◌∙◌, ap, subst, arith}
use Rattle.std.specs.Prelude.{All, ◌&&◌, nat_le, nat_lt}
use Rattle.std.proofs.lemmas.Bool.{false≢true, cases_lt}
use Rattle.std.proofs.lemmas.Bool.Decides.{eqb_tells, nat_tests}
use Rattle.std.proofs.lemmas.List.Elements.{recursion_from_All}
use Rattle.std.proofs.lemmas.List.Sums.{position_or_len_is}
use Rattle.cet_words.specs.Layout.{shadow_start}
use Rattle.cet_book.specs.View.{Span, no_span, Has, IsSpan}
use Rattle.cet_book.specs.Marks.{has, place}
use Rattle.cet_book.specs.Pages.{IsTable, listed}
use Rattle.cet_book.proofs.Cases.{and_true}
use Rattle.cet_book.proofs.Lists.{all_at}
use Rattle.cet_book.proofs.Setting.{has_true, has_false}

-- an address of a region is in the shadow area
listed_there : (table : List ℕ) (a none : ℕ) → shadow_start ≤ a → listed table a none ≡ get_or table ((a - shadow_start) / 4096) none
listed_there table a none l = let t : nat_le shadow_start a ≡ true = grind (arith, nat_tests) in rw t refl

abbrev Apart : List Span → Type 0
Apart rs = (i j a : ℕ) → i < length rs → j < length rs → Has a (get_or rs i no_span) → Has a (get_or rs j no_span) → i ≡ j

-- an address of one region isn't on a page of another
not_on : (r s : Span) (a : ℕ) → IsSpan r → IsSpan s → Has a r → ((b : ℕ) → Has b r → Has b s → ⊥) → (s.start - shadow_start) / 4096 ≤ (a - shadow_start) / 4096 →
    (a - shadow_start) / 4096 ≤ (s.end - shadow_start) / 4096 → ⊥
not_on r s a p q h none l m =
    let pl = p.low in let pf = p.first in let ql = q.low in let qo = q.order in let qf = q.first in let qe = q.last in
    let hl = h.low in let hh = h.high in
    none (shadow_start + 4096 * ((a - shadow_start) / 4096)) (record { low = omega arith; high = omega arith }) (record { low = omega arith; high = omega arith })

side : (a b c : ℕ) → (a ≤ c → c ≤ b → ⊥) → (c < a) ⊎ (b < c)
side a b c n = elim (cases_lt c a) [
  | inl l ↦ inl l
  | inr m ↦ elim (cases_lt b c) [ inl l ↦ inr l | inr k ↦ absurd (n (omega arith) (omega arith)) ]
]

-- one region more is in the table
pub table_more : (rs : List Span) (table next : List ℕ) (at first last : ℕ) → All IsSpan rs → Apart rs → at < length rs → first ≡ ((get_or rs at no_span).start - shadow_start) / 4096 →
    last ≡ ((get_or rs at no_span).end - shadow_start) / 4096 → ((page none : ℕ) → first ≤ page → page ≤ last → get_or next page none ≡ at) →
    ((page none : ℕ) → (page < first) ⊎ (last < page) → get_or next page none ≡ get_or table page none) → IsTable rs table at → IsTable rs next (at + 1)
table_more rs table next at first last each apart inside f e here others before k a none l h =
    let spans = recursion_from_All IsSpan rs each in
    let span_at = all_at IsSpan rs at no_span spans inside in
    let low = span_at.low in let first_is = span_at.first in let last_is = span_at.last in
    elim (eqb_tells k at) [
      | inl u ↦
          let h' : Has a (get_or rs at no_span) = subst (λ i. Has a (get_or rs i no_span)) u.1 h in
          let hl = h'.low in let hh = h'.high in
          listed_there next a none (omega arith) ∙ here ((a - shadow_start) / 4096) none (omega arith) (omega arith) ∙ sym u.1
      | inr u ↦
          let below : k < at = (let v = u.1 in omega arith) in
          let span_k = all_at IsSpan rs k no_span spans (omega arith) in
          let kl = span_k.low in let hl = h.low in
          let off = not_on (get_or rs k no_span) (get_or rs at no_span) a span_k span_at h (λ b x y. u.1 (apart k at b (omega arith) inside x y)) in
          listed_there next a none (omega arith) ∙
          others ((a - shadow_start) / 4096) none (side first last ((a - shadow_start) / 4096) (λ x y. off (omega arith) (omega arith))) ∙
          sym (listed_there table a none (omega arith)) ∙ before k a none below h
    ]

pub has_both : (rs : List Span) (a at : ℕ) → (nat_lt at (length rs) && has a (get_or rs at no_span)) ≡ true → (at < length rs) × Has a (get_or rs at no_span)
has_both rs a at e =
    let b = and_true (nat_lt at (length rs)) (has a (get_or rs at no_span)) e in
    let l = b.0 in
    let h = b.1 in
    (grind (arith, nat_tests), record { low = grind (arith, nat_tests); high = grind (arith, nat_tests) })

pub table_found : (rs : List Span) (table : List ℕ) (a none at : ℕ) → IsTable rs table (length rs) → at ≡ listed table a none → (nat_lt at (length rs) && has a (get_or rs at no_span)) ≡ true → at ≡ place a rs
unfolding place
table_found rs table a none at leads is e =
    let b = has_both rs a at e in
    let inside = b.0 in
    sym (position_or_len_is (has a) rs at no_span (omega arith)
    (λ i l. has_false a (get_or rs i no_span) (λ x. absurd (let e = leads i a none (omega arith) x in omega arith)) (has a (get_or rs i no_span)) refl)
    (λ _. has_true a (get_or rs at no_span) b.1))

pub table_none : (rs : List Span) (table : List ℕ) (a none at : ℕ) → IsTable rs table (length rs) → at ≡ listed table a none → (nat_lt at (length rs) && has a (get_or rs at no_span)) ≡ false → length rs ≡ place a rs
unfolding place
table_none rs table a none at leads is e =
    sym (position_or_len_is (has a) rs (length rs) no_span (omega arith)
    (λ i l. has_false a (get_or rs i no_span)
    (λ x. (
    let same : at ≡ i = is ∙ leads i a none l x in
    let here : nat_lt i (length rs) ≡ true = grind (arith, nat_tests) in
    false≢true (sym e ∙ ap (λ k. nat_lt k (length rs) && has a (get_or rs k no_span)) same ∙ rw (here, has_true a (get_or rs i no_span) x) refl))) (has a (get_or rs i no_span)) refl)
    (λ l. absurd (omega arith)))
