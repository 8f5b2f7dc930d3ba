-- Which parts of a line have an option.
use Rattle.std.proofs.Common.{ℕ, zero, suc, ◌+◌, ◌<◌, ◌≡◌, ◌≢◌, Bool, true, false, List, [], ◌∷◌, Some, refl, sym, ap, ◌∙◌, subst, inl, inr, arith}
use Rattle.std.specs.Prelude.{not, ◌⊎◌, nat_lt, replicate, slice_get, slice_set, unwrap_or}
use Rattle.std.specs.List.{list_all}
use Rattle.std.proofs.lemmas.Bool.{and_parts}
use Rattle.std.proofs.lemmas.Bool.Decides.{Decides-ltb, eqb_tells}
use Rattle.cet_cli.specs.Grammar.{AreApart, Given, HasAll, NoneOf, OneOf}
use Rattle.cet_cli.specs.Reader.{is_filled, is_open, none_filled}

-- ---- one part

get_other : (filled : List Bool) (p q : ℕ) → q ≢ p → slice_get (slice_set filled p true) q ≡ slice_get filled q
get_other [] p q n = refl
get_other (b ∷ bs) zero zero n = absurd (n refl)
get_other (b ∷ bs) zero (suc q) n = refl
get_other (b ∷ bs) (suc p) zero n = refl
get_other (b ∷ bs) (suc p) (suc q) n = get_other bs p q (λ e. n (ap suc e))

pub open_other : (filled : List Bool) (p q : ℕ) → q ≢ p → is_open (slice_set filled p true) q ≡ is_open filled q
open_other filled p q n = ap (λ o. not (unwrap_or o true)) (get_other filled p q n)

-- a part with an option is free no more
pub open_differs : (filled : List Bool) (p q : ℕ) → is_open (slice_set filled p true) q ≡ true → q ≢ p
open_differs [] p q o = cc
open_differs (b ∷ bs) zero zero o = cc
open_differs (b ∷ bs) zero (suc q) o = λ e. cc
open_differs (b ∷ bs) (suc p) zero o = λ e. cc
open_differs (b ∷ bs) (suc p) (suc q) o = λ e. open_differs bs p q o (omega arith)

pub filled_here : (filled : List Bool) (p : ℕ) → is_open filled p ≡ true → is_filled (slice_set filled p true) p ≡ true
filled_here [] p o = cc
filled_here (b ∷ bs) zero o = refl
filled_here (b ∷ bs) (suc p) o = filled_here bs p o

pub filled_still : (filled : List Bool) (p q : ℕ) → is_filled filled q ≡ true → is_filled (slice_set filled p true) q ≡ true
filled_still [] p q h = h
filled_still (b ∷ bs) zero zero h = refl
filled_still (b ∷ bs) zero (suc q) h = h
filled_still (b ∷ bs) (suc p) zero h = h
filled_still (b ∷ bs) (suc p) (suc q) h = filled_still bs p q h

pub filled_before : (filled : List Bool) (p q : ℕ) → is_filled (slice_set filled p true) q ≡ true → (is_filled filled q ≡ true) ⊎ (p ≡ q)
filled_before filled p q h = elim (eqb_tells q p) [
  | inl u ↦ inr (sym u.1)
  | inr u ↦ inl (sym (ap (λ o. unwrap_or o false) (get_other filled p q u.1)) ∙ h)
]

get_none : (n p : ℕ) → p < n → slice_get (replicate n false) p ≡ Some false
get_none zero p l = absurd (omega arith)
get_none (suc n) zero l = refl
get_none (suc n) (suc p) l = get_none n p (omega arith)

pub open_first : (p : ℕ) → nat_lt p 8 ≡ true → is_open none_filled p ≡ true
open_first p l = ap (λ o. not (unwrap_or o true)) (get_none 8 p ((Decides-ltb p 8).0 l))

none_in : (n p : ℕ) → is_filled (replicate n false) p ≡ false
none_in zero p = refl
none_in (suc n) zero = refl
none_in (suc n) (suc p) = none_in n p

pub none_first : (p : ℕ) → is_filled none_filled p ≡ true → ⊥
none_first p h = let e = none_in 8 p in cc

-- each of the eight is free or has an option
abbrev pub Room : List Bool → Type 0
Room filled = (p : ℕ) → nat_lt p 8 ≡ true → (is_open filled p ≡ true) ⊎ (is_filled filled p ≡ true)

pub room_first : Room none_filled
room_first p l = inl (open_first p l)

pub room_more : (filled : List Bool) (q : ℕ) → Room filled → Room (slice_set filled q true)
room_more filled q r p l = elim (r p l) [
  | inr f ↦ inr (filled_still filled q p f)
  | inl o ↦ elim (eqb_tells p q) [
    | inl u ↦ inr (subst (λ n. is_filled (slice_set filled n true) p ≡ true) u.1 (filled_here filled p o))
    | inr u ↦ inl (open_other filled q p u.1 ∙ o)
  ]
]

-- ---- how many are free

abbrev pub opens : List Bool → ℕ
opens [] = 0
opens (true ∷ bs) = opens bs
opens (false ∷ bs) = opens bs + 1

pub opens_less : (filled : List Bool) (p : ℕ) → is_open filled p ≡ true → opens (slice_set filled p true) + 1 ≡ opens filled
opens_less [] p o = cc
opens_less (true ∷ bs) zero o = cc
opens_less (false ∷ bs) zero o = refl
opens_less (true ∷ bs) (suc p) o = opens_less bs p o
opens_less (false ∷ bs) (suc p) o = let e = opens_less bs p o in omega arith

-- ---- the parts of options that are given

module _ {O : Type 0} where
  abbrev pub fill : List Bool → List (Given O) → List Bool
  fill filled [] = filled
  fill filled (g ∷ gs) = fill (slice_set filled g.option.part true) gs

  abbrev pub AllOpen : List Bool → List (Given O) → Type 0
  AllOpen filled [] = Unit {0}
  AllOpen filled (g ∷ gs) = (is_open filled g.option.part ≡ true) × AllOpen filled gs

  pub still_open : (filled : List Bool) (p : ℕ) (gs : List (Given O)) → NoneOf p gs → AllOpen filled gs → AllOpen (slice_set filled p true) gs
  still_open filled p [] n a = tt
  still_open filled p (g ∷ gs) n a = (open_other filled p g.option.part n.0 ∙ a.0, still_open filled p gs n.1 a.1)

  pub open_before : (filled : List Bool) (p : ℕ) (gs : List (Given O)) → AllOpen (slice_set filled p true) gs → NoneOf p gs × AllOpen filled gs
  open_before filled p [] a = (tt, tt)
  open_before filled p (g ∷ gs) a =
      let n = open_differs filled p g.option.part a.0 in
      let more = open_before filled p gs a.1 in
      ((n, more.0), (sym (open_other filled p g.option.part n) ∙ a.0, more.1))

  fill_keeps : (filled : List Bool) (gs : List (Given O)) (p : ℕ) → is_filled filled p ≡ true → is_filled (fill filled gs) p ≡ true
  fill_keeps filled [] p h = h
  fill_keeps filled (g ∷ gs) p h = fill_keeps (slice_set filled g.option.part true) gs p (filled_still filled g.option.part p h)

  fill_has : (filled : List Bool) (gs : List (Given O)) (p : ℕ) → AllOpen filled gs → AreApart gs → OneOf p gs → is_filled (fill filled gs) p ≡ true
  fill_has filled [] p a d h = absurd h
  fill_has filled (g ∷ gs) p a d h = elim h [
    | inl e ↦ fill_keeps (slice_set filled g.option.part true) gs p (subst (λ q. is_filled (slice_set filled g.option.part true) q ≡ true) e (filled_here filled g.option.part a.0))
    | inr more ↦ fill_has (slice_set filled g.option.part true) gs p (still_open filled g.option.part gs d.0 a.1) d.1 more
  ]

  pub fill_all : (filled : List Bool) (gs : List (Given O)) (ps : List ℕ) → AllOpen filled gs → AreApart gs → HasAll ps gs → list_all (is_filled (fill filled gs)) ps ≡ true
  fill_all filled gs [] a d h = refl
  fill_all filled gs (p ∷ ps) a d h = rw (fill_has filled gs p a d h.0) (fill_all filled gs ps a d h.1)

  -- each of these parts has an option, before or by those given
  abbrev pub HasEach : List Bool → (parts : List ℕ) → List (Given O) → Type 0
  HasEach filled [] gs = Unit {0}
  HasEach filled (p ∷ ps) gs = ((is_filled filled p ≡ true) ⊎ OneOf p gs) × HasEach filled ps gs

  pub has_now : (none : List (Given O)) (filled : List Bool) (ps : List ℕ) → list_all (is_filled filled) ps ≡ true → HasEach filled ps none
  has_now none filled [] h = tt
  has_now none filled (p ∷ ps) h = let q = and_parts (is_filled filled p) (list_all (is_filled filled) ps) h in (inl q.0, has_now none filled ps q.1)

  pub has_more : (filled : List Bool) (g : Given O) (gs : List (Given O)) (ps : List ℕ) → HasEach (slice_set filled g.option.part true) ps gs → HasEach filled ps (g ∷ gs)
  has_more filled g gs [] h = tt
  has_more filled g gs (p ∷ ps) h = (
    elim h.0 [
      | inl f ↦ elim (filled_before filled g.option.part p f) [ inl b ↦ inl b | inr e ↦ inr (inl e) ]
      | inr o ↦ inr (inr o)
    ],
    has_more filled g gs ps h.1,
  )

  pub has_all : (gs : List (Given O)) (ps : List ℕ) → HasEach none_filled ps gs → HasAll ps gs
  has_all gs [] h = tt
  has_all gs (p ∷ ps) h = (elim h.0 [ inl f ↦ absurd (none_first p f) | inr o ↦ o ], has_all gs ps h.1)
