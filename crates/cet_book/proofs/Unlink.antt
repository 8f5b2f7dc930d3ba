-- The newest entry Previous(s) of the region that is current on a thread goes, and region s is parked or lost. Source: own.
use Rattle.std.proofs.Common.{◌≡◌, ◌≢◌, ℕ, ◌+◌, ◌*◌, ◌<◌, ◌≤◌, inl, inr, Bool, true, false, List, ◌∷◌, length, refl, sym, ◌∙◌, ap, subst, eqb, arith}
use Rattle.std.proofs.lemmas.Bool.{false≢true}
use Rattle.std.proofs.lemmas.Bool.Decides.{eqb_tells, nat_tests}
use Rattle.cet_book.specs.declared.entries.Entry.{Entry}
use Rattle.cet_book.specs.declared.entries.Entry.TheVariants.{Previous}
use Rattle.cet_book.specs.declared.entries.Holder.{Holder}
use Rattle.cet_book.specs.declared.entries.Holder.TheVariants.{Maker, Current, Parked, Left, Lost}
use Rattle.cet_book.specs.Book.{Region, Book, region, top, is_current, current_of, relist, unlink}
use Rattle.cet_book.specs.Shape.{HolderFits, Fits, Shape}
use Rattle.cet_book.specs.Facts.{is_left, one, links}
use Rattle.cet_book.proofs.Edits.{Owned, owned_there, is_there, put_all, put2_all, SameBounds, same-put2, bounds_same, apart_same, current_of-put}

pub left_true : (q : ℕ) (h : Holder) → is_left q h ≡ true → h ≡ Left q
left_true q (Maker x) e = absurd (false≢true e)
left_true q (Current x) e = absurd (false≢true e)
left_true q Parked e = absurd (false≢true e)
left_true q (Left x) e = ap Left (grind (arith, nat_tests))
left_true q Lost e = absurd (false≢true e)

one_more : (c : Bool) (n : ℕ) → 1 + n ≡ one c → (c ≡ true) × (n ≡ 0)
one_more true n e = (refl, omega arith)
one_more false n e = absurd (omega arith)

-- the holder of a region that nobody goes back to
pub data Gone (h : Holder) : Type 0 where
  lost : h ≡ Lost → Gone h
  parked : h ≡ Parked → Gone h

gone_left : (h : Holder) (q : ℕ) → Gone h → is_left q h ≡ false
gone_left h q (lost e) = ap (is_left q) e
gone_left h q (parked e) = ap (is_left q) e

gone_current : (h : Holder) (q : ℕ) → Gone h → is_current q h ≡ false
gone_current h q (lost e) = ap (is_current q) e
gone_current h q (parked e) = ap (is_current q) e

pub gone_not : (h : Holder) (y : ℕ) → Gone h → h ≡ Current y → ⊥
gone_not h y (lost e) z = cc
gone_not h y (parked e) z = cc

gone_fits : (r : Region) (g : Holder) → Gone g → HolderFits r g → HolderFits (record r { holder = g }) g
gone_fits r g (lost e) f = subst (HolderFits (record r { holder = g })) (sym e) tt
gone_fits r g (parked e) f = subst (HolderFits (record r { holder = g })) (sym e) (subst (HolderFits r) e f)

-- region m is current on t, and its newest entry is Previous(s), above es
pub record Linked (t m s : ℕ) (es : List Entry) (b : Book) : Type 0 where
  pub owned : Owned t m b
  pub entries : (region b m).entries ≡ Previous s ∷ es

module _ {t m s : ℕ} {es : List Entry} {b : Book} (l : Linked t m s es b) where
  chained : (is_left m (region b s).holder ≡ true) × (links s es ≡ 0)
  chained =
      let counted : links s (Previous s ∷ es) ≡ one (is_left m (region b s).holder) = ap (links s) (sym l.entries) ∙ l.owned.shape.chain m s in
      let same : eqb s s ≡ true = grind (arith, nat_tests) in
      one_more (is_left m (region b s).holder) (links s es) (rw same at counted)

  pub linked_left : (region b s).holder ≡ Left m
  linked_left = left_true m (region b s).holder chained.0

  pub left_there : s < length b.regions
  left_there = is_there b s (λ e. let c = linked_left in cc)

  pub linked_apart : m ≢ s
  linked_apart e = let c = l.owned.current in let d : (region b m).holder ≡ Left m = subst (λ n. (region b n).holder ≡ Left m) (sym e) linked_left in cc

module _ {t m s : ℕ} {es : List Entry} {b : Book} (l : Linked t m s es b) (g : Holder) where
  abbrev pub now : Region
  now = record (region b m) { entries = es }

  abbrev pub gone : Region
  gone = record (region b s) { holder = g }

  pub unlink_all : (P : ℕ → Region → Type 0) → P s gone → P m now → ((i : ℕ) → i ≢ s → i ≢ m → P i (region b i)) → (i : ℕ) → P i (region (unlink m s es g b) i)
  unlink_all = put2_all b m s now gone (owned_there l.owned) (left_there l)

  pub unlink_same : SameBounds b (unlink m s es g b)
  unlink_same = same-put2 b m s now gone (owned_there l.owned) (left_there l) refl refl refl refl

  pub unlink_gone : region (unlink m s es g b) s ≡ gone
  unlink_gone = unlink_all (λ i r. i ≡ s → r ≡ gone) (λ _. refl) (λ e. absurd (linked_apart l e)) (λ i n n' e. absurd (n e)) s refl

  pub unlink_here : region (unlink m s es g b) m ≡ now
  unlink_here = unlink_all (λ i r. i ≡ m → r ≡ now) (λ e. absurd (linked_apart l (sym e))) (λ _. refl) (λ i n n' e. absurd (n' e)) m refl

  pub unlink_other : (i : ℕ) → i ≢ s → i ≢ m → region (unlink m s es g b) i ≡ region b i
  unlink_other = unlink_all (λ i r. i ≢ s → i ≢ m → r ≡ region b i) (λ a c. absurd (a refl)) (λ a c. absurd (c refl)) (λ i n n' _ _. refl)

  pub unlink_top : (i : ℕ) → i ≢ m → top (region (unlink m s es g b) i) ≡ top (region b i)
  unlink_top = unlink_all (λ i r. i ≢ m → top r ≡ top (region b i)) (λ _. refl) (λ n. absurd (n refl)) (λ i n n' _. refl)

  still_left : (region (relist m es b) s).holder ≡ Left m
  still_left = put_all b m now (owned_there l.owned) (λ i r. r.holder ≡ (region b i).holder) refl (λ i n. refl) s ∙ linked_left l

  unlink_left : (q z : ℕ) → z ≢ s → is_left q (region (unlink m s es g b) z).holder ≡ is_left q (region b z).holder
  unlink_left q = unlink_all (λ i r. i ≢ s → is_left q r.holder ≡ is_left q (region b i).holder) (λ n. absurd (n refl)) (λ _. refl) (λ i n n' _. refl)

module _ {t m s : ℕ} {es : List Entry} {b : Book} (l : Linked t m s es b) {g : Holder} (d : Gone g) where
  pub unlink_current : (y : ℕ) → current_of y (unlink m s es g b) ≡ current_of y b
  unlink_current y =
      let was : is_current y (region (relist m es b) s).holder ≡ false = ap (is_current y) (still_left l g) in
      current_of-put y (relist m es b) s (gone l g) (gone_current g y d ∙ sym was) ∙ current_of-put y b m (now l g) refl

  gone_now : (q : ℕ) → is_left q (region (unlink m s es g b) s).holder ≡ false
  gone_now q = ap (λ (r : Region). is_left q r.holder) (unlink_gone l g) ∙ gone_left g q d

  chain_here : (z : ℕ) → links z es ≡ one (is_left m (region (unlink m s es g b) z).holder)
  chain_here z = elim (eqb_tells z s) [
    | inl e ↦
        subst (λ n. links n es ≡ one (is_left m (region (unlink m s es g b) n).holder)) (sym e.1)
        (rw (gone_now m) (chained l).1)
    | inr e ↦
        let n = e.1 in
        let other : eqb s z ≡ false = grind (arith, nat_tests) in
        let counted : links z (Previous s ∷ es) ≡ one (is_left m (region b z).holder) = ap (links z) (sym l.entries) ∙ l.owned.shape.chain m z in
        let rest : links z es ≡ one (is_left m (region b z).holder) = (let q = rw other at counted in omega arith) in
        rw (unlink_left l g m z n) rest
  ]

  chain_other : (q z : ℕ) → q ≢ m → links z (region b q).entries ≡ one (is_left q (region (unlink m s es g b) z).holder)
  chain_other q z n = elim (eqb_tells z s) [
    | inl e ↦
        let other : eqb m q ≡ false = grind (arith, nat_tests) in
        let none : is_left q (region b s).holder ≡ false = ap (is_left q) (linked_left l) ∙ other in
        subst (λ n. links n (region b q).entries ≡ one (is_left q (region (unlink m s es g b) n).holder)) (sym e.1)
        (rw (gone_now q) (l.owned.shape.chain q s ∙ rw none refl))
    | inr e ↦ rw (unlink_left l g q z e.1) (l.owned.shape.chain q z)
  ]

  pub unlink_shape : HolderFits (region b s) g → Shape (unlink m s es g b)
  unlink_shape held = record {
    bounds = bounds_same (unlink_same l g) l.owned.shape;
    fits = unlink_all l g (λ i r. Fits r)
        (record { room = (l.owned.shape.fits s).room; held = gone_fits (region b s) g d held })
        (let room : (region b m).start + 8 * length (Previous s ∷ es) ≤ (region b m).end
        = subst (λ l. (region b m).start + 8 * length l ≤ (region b m).end) l.entries (l.owned.shape.fits m).room in
        record { room = omega arith; held = subst (HolderFits (now l g)) (sym l.owned.current) tt })
        (λ i n n'. l.owned.shape.fits i);
    apart = apart_same (unlink_same l g) l.owned.shape;
    alone = λ y. unlink_all l g (λ i r. r.holder ≡ Current y → current_of y (unlink m s es g b) ≡ i)
        (λ e. absurd (gone_not g y d e)) (λ e. unlink_current y ∙ l.owned.shape.alone y m e)
        (λ i n n' e. unlink_current y ∙ l.owned.shape.alone y i e);
    chain = unlink_all l g (λ q r. (z : ℕ) → links z r.entries ≡ one (is_left q (region (unlink m s es g b) z).holder))
        (λ z. chain_other s z (λ e. linked_apart l (sym e))) chain_here (λ q n n' z. chain_other q z n');
  }
