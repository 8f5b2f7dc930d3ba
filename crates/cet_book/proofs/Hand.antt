-- A region that was left for no other gets another holder: it is seeded, a thread is born onto it, or its thread ends. Source: own.
use Rattle.std.proofs.Common.{◌≡◌, ◌≢◌, ℕ, zero, suc, ◌+◌, ◌*◌, ◌<◌, ◌≤◌, inl, inr, false, List, [], length, replicate, refl, sym, ◌∙◌, ap, subst, arith}
use Rattle.std.proofs.lemmas.List.{length-replicate}
use Rattle.std.proofs.lemmas.Bool.Decides.{eqb_tells, nat_tests}
use Rattle.cet_book.specs.declared.entries.Entry.{Entry}
use Rattle.cet_book.specs.declared.entries.Entry.TheVariants.{Blank}
use Rattle.cet_book.specs.declared.entries.Holder.{Holder}
use Rattle.cet_book.specs.declared.entries.Holder.TheVariants.{Maker, Current, Parked, Lost}
use Rattle.cet_book.specs.Book.{Region, Book, region, put, is_current, current_of}
use Rattle.cet_book.specs.Shape.{HolderFits, Fits, Shape}
use Rattle.cet_book.specs.Facts.{is_left, one, links}
use Rattle.cet_book.proofs.Edits.{Owned, owned_there, owned_only, is_there, put_all, SameBounds, same-put, bounds_same, apart_same, current_of-put, current_of_is}

-- region s has the list es and the holder g
abbrev pub hand : ℕ → List Entry → Holder → Book → Book
hand s es g b = put b s (record (region b s) { entries = es; holder = g })

-- region s isn't left for another before or after, and has as many Previous entries as before
pub record Hands (s : ℕ) (es : List Entry) (g : Holder) (b : Book) : Type 0 where
  pub shape : Shape b
  pub there : s < length b.regions
  pub old : (q : ℕ) → is_left q (region b s).holder ≡ false
  pub new : (q : ℕ) → is_left q g ≡ false
  pub same : (z : ℕ) → links z es ≡ links z (region b s).entries

module _ {s : ℕ} {es : List Entry} {g : Holder} {b : Book} (h : Hands s es g b) where
  abbrev pub now : Region
  now = record (region b s) { entries = es; holder = g }

  pub hand_all : (P : ℕ → Region → Type 0) → P s now → ((i : ℕ) → i ≢ s → P i (region b i)) → (i : ℕ) → P i (region (hand s es g b) i)
  hand_all = put_all b s now h.there

  pub hand_same : SameBounds b (hand s es g b)
  hand_same = same-put b s now h.there refl refl

  pub hand_other : (i : ℕ) → i ≢ s → region (hand s es g b) i ≡ region b i
  hand_other = hand_all (λ i r. i ≢ s → r ≡ region b i) (λ n. absurd (n refl)) (λ i n _. refl)

  pub hand_here : region (hand s es g b) s ≡ now
  hand_here = hand_all (λ i r. i ≡ s → r ≡ now) (λ _. refl) (λ i n e. absurd (n e)) s refl

  hand_left : (q i : ℕ) → is_left q (region (hand s es g b) i).holder ≡ is_left q (region b i).holder
  hand_left q = hand_all (λ i r. is_left q r.holder ≡ is_left q (region b i).holder) (h.new q ∙ sym (h.old q)) (λ i n. refl)

  pub hand_shape : Fits now → ((y i : ℕ) → (region (hand s es g b) i).holder ≡ Current y → current_of y (hand s es g b) ≡ i) → Shape (hand s es g b)
  hand_shape fits alone = record {
    bounds = bounds_same hand_same h.shape;
    fits = hand_all (λ i r. Fits r) fits (λ i n. h.shape.fits i);
    apart = apart_same hand_same h.shape;
    alone = alone;
    chain = λ q z.
        rw (hand_left q z)
        (hand_all (λ q r. links z r.entries ≡ one (is_left q (region b z).holder)) (h.same z ∙ h.shape.chain s z)
        (λ q n. h.shape.chain q z) q);
  }

  -- a thread that the region is not current on, before or after
  pub hand_current : (y : ℕ) → is_current y (region b s).holder ≡ false → is_current y g ≡ false → current_of y (hand s es g b) ≡ current_of y b
  hand_current y was is = current_of-put y b s now (is ∙ sym was)

  pub hand_alone : (y : ℕ) → is_current y (region b s).holder ≡ false → is_current y g ≡ false → g ≢ Current y → (i : ℕ) → (region (hand s es g b) i).holder ≡ Current y → current_of y (hand s es g b) ≡ i
  hand_alone y was is n =
      hand_all (λ i r. r.holder ≡ Current y → current_of y (hand s es g b) ≡ i) (λ e. absurd (n e))
      (λ i n' e. hand_current y was is ∙ h.shape.alone y i e)

pub links-replicate_blank : (z n : ℕ) → links z (replicate n Blank) ≡ 0
links-replicate_blank z zero = refl
links-replicate_blank z (suc n) = let e = links-replicate_blank z n in omega arith

maker_fits : (r : Region) (t : ℕ) → Fits r → r.holder ≡ Maker t → r.entries ≡ []
maker_fits r t f e = subst (HolderFits r) e f.held

-- region s is being made by t
pub record Made (t s : ℕ) (b : Book) : Type 0 where
  pub shape : Shape b
  pub maker : (region b s).holder ≡ Maker t

module _ {t s : ℕ} {b : Book} (m : Made t s b) where
  pub made_there : s < length b.regions
  made_there = is_there b s (λ e. let c = m.maker in cc)

  pub made_empty : (region b s).entries ≡ []
  made_empty = maker_fits (region b s) t (m.shape.fits s) m.maker

  made_left : (q : ℕ) → is_left q (region b s).holder ≡ false
  made_left q = ap (is_left q) m.maker

  made_current : (y : ℕ) → is_current y (region b s).holder ≡ false
  made_current y = ap (is_current y) m.maker

  pub seeds : (n : ℕ) → Hands s (replicate n Blank) Parked b
  seeds n = record {
    shape = m.shape;
    there = made_there;
    old = made_left;
    new = λ q. refl;
    same = λ z. links-replicate_blank z n ∙ sym (ap (links z) made_empty);
  }

  pub seed_shape : (n : ℕ) → (region b s).start + 8 * n + 8 ≤ (region b s).end → Shape (hand s (replicate n Blank) Parked b)
  seed_shape n room =
      let len = length-replicate n Blank in
      hand_shape (seeds n) (record { room = omega arith; held = omega arith })
      (λ y. hand_alone (seeds n) y (made_current y) refl (λ e. cc))

  pub bears : (child : ℕ) → Hands s (region b s).entries (Current child) b
  bears child = record { shape = m.shape; there = made_there; old = made_left; new = λ q. refl; same = λ z. refl }

  pub born_current : (child : ℕ) → length b.regions ≤ current_of child b → current_of child (hand s (region b s).entries (Current child) b) ≡ s
  born_current child none = current_of_is child (hand s (region b s).entries (Current child) b) s (ap (λ (r : Region). r.holder) (hand_here (bears child)))
      (hand_all (bears child) (λ i r. r.holder ≡ Current child → i ≡ s) (λ _. refl)
      (λ i n e. absurd (let a = m.shape.alone child i e in let l = is_there b i (λ z. cc) in omega arith)))

  pub born_others : (child y : ℕ) → child ≢ y → current_of y (hand s (region b s).entries (Current child) b) ≡ current_of y b
  born_others child y n = hand_current (bears child) y (made_current y) (grind (arith, nat_tests))

  pub born_shape : (child : ℕ) → length b.regions ≤ current_of child b → Shape (hand s (region b s).entries (Current child) b)
  born_shape child none = hand_shape (bears child) (record { room = (m.shape.fits s).room; held = tt }) (λ y. elim (eqb_tells child y) [
    | inl e ↦
        subst (λ z. (i : ℕ) → (region (hand s (region b s).entries (Current child) b) i).holder ≡ Current z → current_of z (hand s (region b s).entries (Current child) b) ≡ i) e.1
        (hand_all (bears child) (λ i r. r.holder ≡ Current child → current_of child (hand s (region b s).entries (Current child) b) ≡ i)
        (λ _. born_current child none)
        (λ i n e. absurd (let a = m.shape.alone child i e in let l = is_there b i (λ z. cc) in omega arith)))
    | inr e ↦ let n = e.1 in hand_alone (bears child) y (made_current y) (grind (arith, nat_tests)) (λ z. n (let c : Current child ≡ Current y = z in cc))
  ])

-- the thread on which region m is current ends
module _ {t m : ℕ} {b : Book} (o : Owned t m b) where
  pub ends : Hands m (region b m).entries Lost b
  ends = record { shape = o.shape; there = owned_there o; old = λ q. ap (is_left q) o.current; new = λ q. refl; same = λ z. refl }

  pub end_others : (y : ℕ) → t ≢ y → current_of y (hand m (region b m).entries Lost b) ≡ current_of y b
  end_others y n = hand_current ends y (ap (is_current y) o.current ∙ grind (arith, nat_tests)) refl

  pub end_none : (i : ℕ) → (region (hand m (region b m).entries Lost b) i).holder ≢ Current t
  end_none = hand_all ends (λ i r. r.holder ≢ Current t) (λ e. cc) (λ i n e. n (owned_only o i e))

  pub end_shape : Shape (hand m (region b m).entries Lost b)
  end_shape = hand_shape ends (record { room = (o.shape.fits m).room; held = tt }) (λ y i e. elim (eqb_tells t y) [
    | inl u ↦ absurd (end_none i (let v = u.1 in cc))
    | inr u ↦ let n = u.1 in hand_alone ends y (ap (is_current y) o.current ∙ grind (arith, nat_tests)) refl (λ z. cc) i e
  ])
