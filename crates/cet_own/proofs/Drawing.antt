-- What a row draws, change by change: each stack that is claimed is a region, no two that are told or claimed have one start, and
-- what is kept is told or drawn. It holds of any number of regions. Source: own.
use Rattle.std.proofs.Common.{◌≡◌, ℕ, ◌+◌, ◌*◌, ◌<◌, ◌≤◌, inl, inr, Bool, true, List, [], ◌∷◌, ◌++◌, length, Some, refl, sym, ◌∙◌, ap, subst, arith}
use Rattle.std.specs.Prelude.{◌==◌, All, sum_by}
use Rattle.std.proofs.lemmas.Bool.{cases_lt}
use Rattle.std.proofs.lemmas.Bool.Decides.{eqb_tells, nat_tests}
use Rattle.std.proofs.lemmas.List.Elements.{All-cons, All-head, All-tail}
use Rattle.std.proofs.lemmas.List.Sums.{sum_by-cons}
use Rattle.cet_words.specs.Change.{Change, Claimed, Seeded, Born}
use Rattle.cet_book.specs.Book.{Region, Book, region, claim, can_claim, book_after, books_after}
use Rattle.cet_book.specs.Facts.{one}
use Rattle.cet_book.specs.Shape.{IsBook}
use Rattle.cet_book.specs.View.{Span, IsKept}
use Rattle.cet_book.proofs.Append.{Appends, append, append_length, append_new}
use Rattle.cet_book.proofs.Cases.{if_some}
use Rattle.cet_book.proofs.Changes.{same_book, then_by}
use Rattle.cet_book.proofs.Comes.{Lasts, change_lasts}
use Rattle.cet_book.proofs.Kept.{book_kept, claims}
use Rattle.cet_own.proofs.Drawn.{Drawn, claimed_span, draw, draws}
use Rattle.cet_own.proofs.Views.{Keeps, was_kept, kept_there}

-- ---- how often a start occurs

abbrev pub times : (start : ℕ) → List Span → ℕ
times x [] = 0
times x (s ∷ ss) = one (s.start == x) + times x ss

abbrev pub occurs : (start : ℕ) → List ℕ → ℕ
occurs x [] = 0
occurs x (y ∷ ys) = one (y == x) + occurs x ys

pub times-append : (x : ℕ) (ss rs : List Span) → times x (ss ++ rs) ≡ times x ss + times x rs
times-append x [] rs = omega arith
times-append x (s ∷ ss) rs = let h = times-append x ss rs in omega arith

pub times_found : (P : Span → Type 0) (x : ℕ) (ss : List Span) → 1 ≤ times x ss → All P ss → (s : Span) × P s × (s.start ≡ x)
times_found P x [] l a = absurd (omega arith)
times_found P x (s ∷ ss) l a = elim (eqb_tells s.start x) [
  | inl e ↦ (s, All-head P s ss a, e.1)
  | inr e ↦ times_found P x ss (let z : one (s.start == x) ≡ 0 = ap one e.0 in omega arith) (All-tail P s ss a)
]

pub sum_found : {X : Type 0} (P : X → Type 0) (f : X → ℕ) (xs : List X) → 1 ≤ sum_by f xs → All P xs → (x : X) × P x × (1 ≤ f x)
sum_found P f [] l a = absurd (omega arith)
sum_found P f (x ∷ xs) l a =
    let cons = sum_by-cons f x xs in
    elim (cases_lt 0 (f x)) [
      | inl here ↦ (x, All-head P x xs a, omega arith)
      | inr none ↦ sum_found P f xs (omega arith) (All-tail P x xs a)
    ]

-- the start is there
pub once_here : (x y : ℕ) → y ≡ x → one (y == x) ≡ 1
once_here x y e = let same : (y == x) ≡ true = grind (arith, nat_tests) in ap one same

-- ---- regions

-- the stack is that of a region
pub record HasSpan (b : Book) (s : Span) : Type 0 where
  pub number : ℕ
  pub inside : number < length b.regions
  pub first : (region b number).start ≡ s.start
  pub last : (region b number).end ≡ s.end

-- some region starts there
pub record HasStart (b : Book) (start : ℕ) : Type 0 where
  pub number : ℕ
  pub inside : number < length b.regions
  pub first : (region b number).start ≡ start

pub span_starts : {b : Book} {s : Span} → HasSpan b s → HasStart b s.start
span_starts h = record { number = h.number; inside = h.inside; first = h.first }

pub span_lasts : {b next : Book} → Lasts b next → (s : Span) → HasSpan b s → HasSpan next s
span_lasts l s h = record {
  number = h.number;
  inside = let grows = l.grows in let inside = h.inside in omega arith;
  first = l.start h.number h.inside ∙ h.first;
  last = l.end h.number h.inside ∙ h.last;
}

start_lasts : {b next : Book} {x : ℕ} → Lasts b next → HasStart b x → HasStart next x
start_lasts l h = record {
  number = h.number;
  inside = let grows = l.grows in let inside = h.inside in omega arith;
  first = l.start h.number h.inside ∙ h.first;
}

spans_last : {b next : Book} → Lasts b next → (ss : List Span) → All (HasSpan b) ss → All (HasSpan next) ss
spans_last l ss a = λ k d i. span_lasts l _ (a k d i)

-- ---- one change

-- What a row has drawn, beside all else that is told and claimed, or told and kept: `rest` and `shown` say how often a start
-- is there.
pub record Drawing (b : Book) (rest shown : ℕ → ℕ) (d : Drawn) : Type 0 where
  pub there : (x : ℕ) → 1 ≤ rest x → HasStart b x
  pub claimed : All (HasSpan b) d.claimed
  pub once : (x : ℕ) → rest x + times x d.claimed ≤ 1
  pub all : (i : ℕ) → IsKept (region b i).holder → 1 ≤ shown (region b i).start + occurs (region b i).start d.kept

occurs_more : (x : ℕ) (c : Change) (d : Drawn) → occurs x d.kept ≤ occurs x (draw c d).kept
occurs_more x (Seeded start blanks) d = omega arith
occurs_more x (Born child start) d = omega arith
occurs_more x c d = omega arith

keeps_occurs : (x : ℕ) (c : Change) (d : Drawn) → Keeps c x → 1 ≤ occurs x (draw c d).kept
keeps_occurs x (Seeded start blanks) d k = let e = once_here x start k in omega arith
keeps_occurs x (Born child start) d k = let e = once_here x start k in omega arith
keeps_occurs x c d k = absurd k

module _ {b next : Book} {rest shown : ℕ → ℕ} {d : Drawn} (t : ℕ) (book : IsBook b) (h : Drawing b rest shown d) where
  all_kept : (c : Change) → book_after t b c ≡ Some next → (i : ℕ) → IsKept (region next i).holder → 1 ≤ shown (region next i).start + occurs (region next i).start (draw c d).kept
  all_kept c e i k = elim (was_kept t c b next book e i k) [
    | inl was ↦
        let same = (change_lasts t c b next book e).start i (kept_there b i was) in
        let old = h.all i was in
        let more = occurs_more (region b i).start c d in
        subst (λ x. 1 ≤ shown x + occurs x (draw c d).kept) (sym same) (omega arith)
    | inr names ↦
        let same = (change_lasts t c b next book e).start i names.0 in
        let here = keeps_occurs (region b i).start c d names.1 in
        subst (λ x. 1 ≤ shown x + occurs x (draw c d).kept) (sym same) (omega arith)
  ]

  -- a change that claims nothing
  drawing_same : (c : Change) → (draw c d).claimed ≡ d.claimed → book_after t b c ≡ Some next → Drawing next rest shown (draw c d)
  drawing_same c same e =
      let lasts = change_lasts t c b next book e in
      record {
        there = λ x l. start_lasts lasts (h.there x l);
        claimed = subst (All (HasSpan next)) (sym same) (spans_last lasts d.claimed h.claimed);
        once = λ x. subst (λ l. rest x + times x l ≤ 1) (sym same) (h.once x);
        all = all_kept c e;
      }

  -- a claim's region lies above all others
  drawing_claimed : (start pages : ℕ) (maker : Bool) → IsBook next → book_after t b (Claimed start pages maker) ≡ Some next → Drawing next rest shown (draw (Claimed start pages maker) d)
  drawing_claimed start pages maker sound e =
      let lasts = change_lasts t (Claimed start pages maker) b next book e in
      let r = claim t start pages maker in
      let test = if_some (can_claim start pages b) (Some (append r b)) next e in
      let a : Appends r b = claims t start pages maker b book.shape in
      let is : append r b ≡ next = (let d = test.1 in cc) in
      let more : length next.regions ≡ length b.regions + 1 = subst (λ (n : Book). length n.regions ≡ length b.regions + 1) is (append_length a) in
      let new : region next (length b.regions) ≡ r = subst (λ n. region n (length b.regions) ≡ r) is (append_new a) in
      let at : (region next (length b.regions)).start ≡ start = ap (λ (x : Region). x.start) new in
      let to : (region next (length b.regions)).end ≡ start + 4096 * pages = ap (λ (x : Region). x.end) new in
      let fresh : HasStart b start → ⊥ = λ s.
      let inside = s.inside in
      let first = s.first in
      let same = lasts.start s.number inside in
      let apart = sound.shape.apart s.number (length b.regions) inside (omega arith) in
      let full = (sound.shape.bounds s.number (omega arith)).full in
      omega arith in
      record {
        there = λ x l. start_lasts lasts (h.there x l);
        claimed = All-cons (HasSpan next) (claimed_span start pages) d.claimed (record { number = length b.regions; inside = omega arith; first = at; last = to }) (spans_last lasts d.claimed h.claimed);
        once = λ x. elim (eqb_tells start x) [
          | inl u ↦
              let none : rest x ≡ 0 = (elim (cases_lt 0 (rest x)) [ inl l ↦ absurd (fresh (subst (HasStart b) (sym u.1) (h.there x (omega arith)))) | inr g ↦ omega arith ]) in
              let none' : times x d.claimed ≡ 0 = (elim (cases_lt 0 (times x d.claimed)) [
                | inl l ↦ absurd (
                    let found = times_found (HasSpan b) x d.claimed (omega arith) h.claimed in
                    fresh (subst (HasStart b) (found.2 ∙ sym u.1) (span_starts found.1)))
                | inr g ↦ omega arith
              ]) in
              let here : one (start == x) ≡ 1 = ap one u.0 in
              omega arith
          | inr u ↦
              let old = h.once x in
              let here : one (start == x) ≡ 0 = ap one u.0 in
              omega arith
        ];
        all = all_kept (Claimed start pages maker) e;
      }

drawing_change : {rest shown : ℕ → ℕ} {d : Drawn} (t : ℕ) (c : Change) (b next : Book) → IsBook b → book_after t b c ≡ Some next → Drawing b rest shown d → Drawing next rest shown (draw c d)
drawing_change t (Claimed start pages maker) b next book e h = drawing_claimed t book h start pages maker (book_kept t (Claimed start pages maker) b next book e).book e
drawing_change t c b next book e h = drawing_same t book h c refl e

-- all changes of an access
pub drawing_all : {rest shown : ℕ → ℕ} (t : ℕ) (cs : List Change) (d : Drawn) (b next : Book) → IsBook b → books_after t b cs ≡ Some next → Drawing b rest shown d → Drawing next rest shown (draws cs d)
drawing_all {rest = rest} {shown = shown} t [] d b next book e h = subst (λ n. Drawing n rest shown d) (same_book t b next [] refl e) h
drawing_all t (c ∷ cs) d b next book e h =
    let s = then_by t (book_after t b c) next cs e in
    drawing_all t cs (draw c d) s.0 next (book_kept t c b s.0 book s.1).book s.2 (drawing_change t c b s.0 book s.1 h)
