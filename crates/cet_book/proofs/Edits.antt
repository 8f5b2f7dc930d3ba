-- One or two regions of a book are replaced. Source: own.
use Rattle.std.proofs.Common.{◌≡◌, ◌≢◌, ℕ, ◌<◌, inl, inr, Bool, true, false, length, get_or, set, refl, sym, ◌∙◌, ap, subst, eqb, cond, arith, length-set, get_or-set_same, get_or-set_other}
use Rattle.std.proofs.lemmas.List.{get_or_past}
use Rattle.std.proofs.lemmas.List.Folds.{position_or_len-set}
use Rattle.std.proofs.lemmas.List.Sums.{position_or_len_is, passes_at_first}
use Rattle.std.proofs.lemmas.Bool.{cases_lt, false≢true}
use Rattle.std.proofs.lemmas.Bool.Decides.{eqb_tells, nat_tests}
use Rattle.cet_book.specs.declared.entries.Holder.{Holder}
use Rattle.cet_book.specs.declared.entries.Holder.TheVariants.{Maker, Current, Parked, Left, Lost}
use Rattle.cet_book.specs.Book.{Region, Book, nowhere, region, put, is_current, current_of}
use Rattle.cet_book.specs.Facts.{Bounds}
use Rattle.cet_book.specs.Shape.{Shape}

pub region-put : (b : Book) (k i : ℕ) (r : Region) → k < length b.regions → region (put b k r) i ≡ cond (eqb i k) r (region b i)
region-put b k i r inside = elim (eqb_tells i k) [
  | inl e ↦ rw e.0 (subst (λ n. get_or (set b.regions k r) n nowhere ≡ r) (sym e.1) (get_or-set_same b.regions k r nowhere inside))
  | inr e ↦ rw e.0 (get_or-set_other b.regions k i r nowhere e.1)
]

-- a region that isn't lost is one of the book's
pub is_there : (b : Book) (i : ℕ) → (region b i).holder ≢ Lost → i < length b.regions
is_there b i held = elim (cases_lt i (length b.regions)) [
  | inl l ↦ l
  | inr g ↦ absurd (held (ap (λ (r : Region). r.holder) (get_or_past b.regions i nowhere g)))
]

-- what holds of the new region, and of each other one as it was, holds of all
pub put_all : (b : Book) (k : ℕ) (r : Region) → k < length b.regions → (P : ℕ → Region → Type 0) → P k r → ((i : ℕ) → i ≢ k → P i (region b i)) → (i : ℕ) → P i (region (put b k r) i)
put_all b k r inside P here others i = subst (P i) (sym (region-put b k i r inside)) (elim (eqb_tells i k) [
  | inl e ↦ rw e.0 (subst (λ n. P n r) (sym e.1) here)
  | inr e ↦ rw e.0 (others i e.1)
])

pub put2_all : (b : Book) (m k : ℕ) (rm rk : Region) → m < length b.regions → k < length b.regions → (P : ℕ → Region → Type 0) → P k rk → P m rm → ((i : ℕ) → i ≢ k → i ≢ m → P i (region b i)) →
    (i : ℕ) → P i (region (put (put b m rm) k rk) i)
put2_all b m k rm rk in_m in_k P at_k at_m others i =
    let inside : k < length (put b m rm).regions = omega (arith, length-set b.regions m rm) in
    subst (P i) (sym (region-put (put b m rm) k i rk inside)) (elim (eqb_tells i k) [
      | inl e ↦ rw e.0 (subst (λ n. P n rk) (sym e.1) at_k)
      | inr e ↦ rw e.0 (put_all b m rm in_m (λ j r. j ≢ k → P j r) (λ _. at_m) (λ j n n'. others j n' n) i e.1)
    ])

-- no region starts or ends elsewhere
pub record SameBounds (b next : Book) : Type 0 where
  pub len : length next.regions ≡ length b.regions
  pub start : (i : ℕ) → (region next i).start ≡ (region b i).start
  pub end : (i : ℕ) → (region next i).end ≡ (region b i).end

pub same-put : (b : Book) (k : ℕ) (r : Region) → k < length b.regions → r.start ≡ (region b k).start → r.end ≡ (region b k).end → SameBounds b (put b k r)
same-put b k r inside s e = record {
  len = length-set b.regions k r;
  start = put_all b k r inside (λ i q. q.start ≡ (region b i).start) s (λ i n. refl);
  end = put_all b k r inside (λ i q. q.end ≡ (region b i).end) e (λ i n. refl);
}

pub same-put2 : (b : Book) (m k : ℕ) (rm rk : Region) → m < length b.regions → k < length b.regions → rm.start ≡ (region b m).start → rm.end ≡ (region b m).end → rk.start ≡ (region b k).start →
    rk.end ≡ (region b k).end → SameBounds b (put (put b m rm) k rk)
same-put2 b m k rm rk in_m in_k sm em sk ek = record {
  len = length-set (set b.regions m rm) k rk ∙ length-set b.regions m rm;
  start = put2_all b m k rm rk in_m in_k (λ i q. q.start ≡ (region b i).start) sk sm (λ i n n'. refl);
  end = put2_all b m k rm rk in_m in_k (λ i q. q.end ≡ (region b i).end) ek em (λ i n n'. refl);
}

pub bounds_same : {b next : Book} → SameBounds b next → Shape b → (i : ℕ) → i < length next.regions → Bounds (region next i).start (region next i).end
bounds_same {b = b} s h i inside =
    let old : i < length b.regions = (let e = s.len in omega arith) in
    let bounds = h.bounds i old in
    rw (s.start i, s.end i) bounds

pub apart_same : {b next : Book} → SameBounds b next → Shape b → (i j : ℕ) → i < j → j < length next.regions → (region next i).end < (region next j).start
apart_same {b = b} s h i j order inside =
    let old : j < length b.regions = (let e = s.len in omega arith) in
    let apart = h.apart i j order old in
    let e = s.end i in
    let f = s.start j in
    omega arith

-- which region is current on a thread
pub current_true : (t : ℕ) (h : Holder) → is_current t h ≡ true → h ≡ Current t
current_true t (Maker x) e = absurd (false≢true e)
current_true t (Current x) e = ap Current (grind (arith, nat_tests))
current_true t Parked e = absurd (false≢true e)
current_true t (Left x) e = absurd (false≢true e)
current_true t Lost e = absurd (false≢true e)

pub is_current-true : (t : ℕ) (h : Holder) → h ≡ Current t → is_current t h ≡ true
is_current-true t h e = ap (is_current t) e ∙ grind (arith, nat_tests)

pub current_of-put : (t : ℕ) (b : Book) (k : ℕ) (r : Region) → is_current t r.holder ≡ is_current t (region b k).holder → current_of t (put b k r) ≡ current_of t b
unfolding current_of
current_of-put t b k r e = position_or_len-set (λ q. is_current t q.holder) b.regions k r nowhere e

pub current_of_is : (t : ℕ) (b : Book) (k : ℕ) → (region b k).holder ≡ Current t → ((i : ℕ) → (region b i).holder ≡ Current t → i ≡ k) → current_of t b ≡ k
unfolding current_of
current_of_is t b k e only =
    let inside : k < length b.regions = is_there b k (λ q. cc) in
    position_or_len_is (λ q. is_current t q.holder) b.regions k nowhere (omega arith)
    (λ i before. elim (is_current t (region b i).holder) as (λ (c : Bool). is_current t (region b i).holder ≡ c → c ≡ false) [
      | true ↦ λ y. absurd (let q = only i (current_true t (region b i).holder y) in omega arith)
      | false ↦ λ y. refl
    ] refl)
    (λ _. is_current-true t (region b k).holder e)

-- the region that was found is current
pub current_holds : (t : ℕ) (b : Book) → current_of t b < length b.regions → (region b (current_of t b)).holder ≡ Current t
unfolding current_of
current_holds t b inside = current_true t (region b (current_of t b)).holder (passes_at_first (λ q. is_current t q.holder) b.regions nowhere inside)

-- region m is current on t
pub record Owned (t m : ℕ) (b : Book) : Type 0 where
  pub shape : Shape b
  pub current : (region b m).holder ≡ Current t

pub owned_there : {t m : ℕ} {b : Book} → Owned t m b → m < length b.regions
owned_there {m = m} {b = b} o = is_there b m (λ e. let c = o.current in cc)

-- and no other region is
pub owned_only : {t m : ℕ} {b : Book} → Owned t m b → (i : ℕ) → (region b i).holder ≡ Current t → i ≡ m
owned_only {t = t} {m = m} o i e = sym (o.shape.alone t i e) ∙ o.shape.alone t m o.current

-- the region that was found
pub owned : (t : ℕ) (b : Book) → Shape b → current_of t b < length b.regions → Owned t (current_of t b) b
owned t b h inside = record { shape = h; current = current_holds t b inside }
