-- The list of stacks that are told: each is a region, no two have one start, and each start that is told is there. And the list
-- of pointers: one of each thread that keeps its stack. Source: own.
use Rattle.std.proofs.Common.{◌≡◌, ℕ, zero, suc, ◌+◌, ◌<◌, ◌≤◌, inl, inr, Bool, true, false, cond, List, [], ◌∷◌, ◌++◌, length, map, get_or, Some, refl, sym, ◌∙◌, ap, subst, arith, length-append}
use Rattle.std.specs.Prelude.{◌==◌, All, nat_le, slice_get, sum_by}
use Rattle.std.specs.List.{flat_map}
use Rattle.std.proofs.lemmas.Bool.Decides.{eqb_tells}
use Rattle.std.proofs.lemmas.List.{get_or-append-add}
use Rattle.std.proofs.lemmas.List.Elements.{All-nil, All-cons, All-head, All-tail, All-append}
use Rattle.std.proofs.lemmas.List.Sums.{sum_by-cons}
use Rattle.cet_book.specs.Facts.{one}
use Rattle.cet_book.specs.View.{Span, no_span}
use Rattle.cet_own.specs.Told.{put_in, in_order}
use Rattle.cet_own.proofs.Drawing.{times, times-append, once_here}

-- ---- the order

put_if_times : (x : ℕ) (s r : Span) (rs : List Span) (c : Bool) → times x (put_in s rs) ≡ one (s.start == x) + times x rs → times x (cond c (s ∷ r ∷ rs) (r ∷ put_in s rs)) ≡ one (s.start == x) + times x (r ∷ rs)
put_if_times x s r rs true h = refl
put_if_times x s r rs false h = omega arith

put_times : (x : ℕ) (s : Span) (rs : List Span) → times x (put_in s rs) ≡ one (s.start == x) + times x rs
put_times x s [] = refl
put_times x s (r ∷ rs) = put_if_times x s r rs (nat_le s.start r.start) (put_times x s rs)

pub order_times : (x : ℕ) (ss : List Span) → times x (in_order ss) ≡ times x ss
order_times x [] = refl
order_times x (s ∷ ss) = put_times x s (in_order ss) ∙ ap (λ n. one (s.start == x) + n) (order_times x ss)

put_if_all : (P : Span → Type 0) (s r : Span) (rs : List Span) (c : Bool) → P s → P r → All P rs → All P (put_in s rs) → All P (cond c (s ∷ r ∷ rs) (r ∷ put_in s rs))
put_if_all P s r rs true p q a h = All-cons P s (r ∷ rs) p (All-cons P r rs q a)
put_if_all P s r rs false p q a h = All-cons P r (put_in s rs) q h

put_all_in : (P : Span → Type 0) (s : Span) (rs : List Span) → P s → All P rs → All P (put_in s rs)
put_all_in P s [] p a = All-cons P s [] p a
put_all_in P s (r ∷ rs) p a = put_if_all P s r rs (nat_le s.start r.start) p (All-head P r rs a) (All-tail P r rs a) (put_all_in P s rs p (All-tail P r rs a))

pub order_all : (P : Span → Type 0) (ss : List Span) → All P ss → All P (in_order ss)
order_all P [] a = a
order_all P (s ∷ ss) a = put_all_in P s (in_order ss) (All-head P s ss a) (order_all P ss (All-tail P s ss a))

-- ---- pieces of a list

pub flat_times : {X : Type 0} (f : X → List Span) (x : ℕ) (xs : List X) → times x (flat_map f xs) ≡ sum_by (λ y. times x (f y)) xs
flat_times f x [] = refl
flat_times f x (y ∷ xs) =
    let more = flat_times f x xs in
    let cons = sum_by-cons (λ z. times x (f z)) y xs in
    times-append x (f y) (flat_map f xs) ∙ omega arith

pub flat_all : {X Y : Type 0} (P : Y → Type 0) (f : X → List Y) (xs : List X) → All (λ x. All P (f x)) xs → All P (flat_map f xs)
flat_all P f [] a = All-nil P
flat_all P f (x ∷ xs) a =
    All-append P (f x) (flat_map f xs) (All-head (λ y. All P (f y)) x xs a) (flat_all P f xs (All-tail (λ y. All P (f y)) x xs a))

pub same_sums : {X : Type 0} (f g : X → ℕ) (xs : List X) → All (λ x. f x ≡ g x) xs → sum_by f xs ≡ sum_by g xs
same_sums f g [] a = refl
same_sums f g (x ∷ xs) a =
    let here = All-head (λ y. f y ≡ g y) x xs a in
    let more = same_sums f g xs (All-tail (λ y. f y ≡ g y) x xs a) in
    let left = sum_by-cons f x xs in
    let right = sum_by-cons g x xs in
    omega arith

-- where an element stands
pub record StandsAt {Y : Type 0} (ys : List Y) (y d : Y) : Type 0 where
  pub place : ℕ
  pub inside : place < length ys
  pub is : get_or ys place d ≡ y

-- what is the one element of a piece is in the whole
pub flat_has : {X Y : Type 0} (f : X → List Y) (xs : List X) (t : ℕ) (x : X) (y d : Y) → slice_get xs t ≡ Some x → f x ≡ y ∷ [] → StandsAt (flat_map f xs) y d
flat_has f [] t x y d e one = cc
flat_has f (z ∷ xs) zero x y d e one =
    let same : z ≡ x = cc in
    let here : f z ≡ y ∷ [] = ap f same ∙ one in
    let all : flat_map f (z ∷ xs) ≡ y ∷ flat_map f xs = ap (λ l. l ++ flat_map f xs) here in
    record {
      place = 0;
      inside = subst (λ l. 0 < length l) (sym all) (omega arith);
      is = ap (λ l. get_or l 0 d) all;
    }
flat_has f (z ∷ xs) (suc t) x y d e one =
    let rest = flat_has f xs t x y d e one in
    let more = length-append (f z) (flat_map f xs) in
    record {
      place = length (f z) + rest.place;
      inside = let l = rest.inside in omega arith;
      is = get_or-append-add (f z) (flat_map f xs) rest.place d ∙ rest.is;
    }

-- ---- starts

-- a start that is there stands somewhere
pub record StartsAt (ss : List Span) (start : ℕ) : Type 0 where
  pub place : ℕ
  pub inside : place < length ss
  pub is : (get_or ss place no_span).start ≡ start

pub times_place : (x : ℕ) (ss : List Span) → 1 ≤ times x ss → StartsAt ss x
times_place x [] l = absurd (omega arith)
times_place x (s ∷ ss) l = elim (eqb_tells s.start x) [
  | inl u ↦ record { place = 0; inside = omega arith; is = u.1 }
  | inr u ↦
      let none : one (s.start == x) ≡ 0 = ap one u.0 in
      let rest = times_place x ss (omega arith) in
      record { place = suc rest.place; inside = let l = rest.inside in omega arith; is = rest.is }
]

place_times : (ss : List Span) (k : ℕ) → k < length ss → 1 ≤ times (get_or ss k no_span).start ss
place_times [] k l = absurd (omega arith)
place_times (s ∷ ss) zero l = let here = once_here s.start s.start refl in omega arith
place_times (s ∷ ss) (suc k) l = let more = place_times ss k (omega arith) in omega arith

-- where no start stands twice, places with one start are one place
pub one_place : (ss : List Span) (i j : ℕ) → ((x : ℕ) → times x ss ≤ 1) → i < length ss → j < length ss → (get_or ss i no_span).start ≡ (get_or ss j no_span).start → i ≡ j
one_place [] i j h l m e = absurd (omega arith)
one_place (s ∷ ss) zero zero h l m e = refl
one_place (s ∷ ss) zero (suc j) h l m e =
    let there = place_times ss j (omega arith) in
    let most = h (get_or ss j no_span).start in
    let here = once_here (get_or ss j no_span).start s.start e in
    absurd (omega arith)
one_place (s ∷ ss) (suc i) zero h l m e =
    let there = place_times ss i (omega arith) in
    let most = h (get_or ss i no_span).start in
    let here = once_here (get_or ss i no_span).start s.start (sym e) in
    absurd (omega arith)
one_place (s ∷ ss) (suc i) (suc j) h l m e = ap suc (one_place ss i j (λ x. let most = h x in omega arith) (omega arith) (omega arith) e)

-- ---- there and back

pub map_back : {X Y : Type 0} (f : Y → X) (g : X → Y) (xs : List X) → All (λ x. f (g x) ≡ x) xs → map f (map g xs) ≡ xs
map_back f g [] a = refl
map_back f g (x ∷ xs) a =
    ap (λ y. y ∷ map f (map g xs)) (All-head (λ y. f (g y) ≡ y) x xs a) ∙ ap (λ l. x ∷ l) (map_back f g xs (All-tail (λ y. f (g y) ≡ y) x xs a))
