-- The list of the region that is current on a thread changes, but for its Previous entries. Source: own.
use Rattle.std.proofs.Common.{◌≡◌, ◌≢◌, ℕ, ◌+◌, ◌*◌, ◌≤◌, List, length, refl, sym, ◌∙◌, subst}
use Rattle.cet_book.specs.declared.entries.Entry.{Entry}
use Rattle.cet_book.specs.Book.{Region, Book, region, current_of, relist}
use Rattle.cet_book.specs.Shape.{HolderFits, Fits, Shape}
use Rattle.cet_book.specs.Facts.{is_left, one, links}
use Rattle.cet_book.proofs.Edits.{Owned, owned_there, put_all, SameBounds, same-put, bounds_same, apart_same, current_of-put}

module _ {t m : ℕ} {b : Book} (o : Owned t m b) (es : List Entry) where
  abbrev pub now : Region
  now = record (region b m) { entries = es }

  pub relist_all : (P : ℕ → Region → Type 0) → P m now → ((i : ℕ) → i ≢ m → P i (region b i)) → (i : ℕ) → P i (region (relist m es b) i)
  relist_all = put_all b m now (owned_there o)

  pub relist_same : SameBounds b (relist m es b)
  relist_same = same-put b m now (owned_there o) refl refl

  pub relist_other : (i : ℕ) → i ≢ m → region (relist m es b) i ≡ region b i
  relist_other = relist_all (λ i r. i ≢ m → r ≡ region b i) (λ n. absurd (n refl)) (λ i n _. refl)

  pub relist_here : region (relist m es b) m ≡ now
  relist_here = relist_all (λ i r. i ≡ m → r ≡ now) (λ _. refl) (λ i n e. absurd (n e)) m refl

  pub relist_holder : (i : ℕ) → (region (relist m es b) i).holder ≡ (region b i).holder
  relist_holder = relist_all (λ i r. r.holder ≡ (region b i).holder) refl (λ i n. refl)

  pub relist_current : (y : ℕ) → current_of y (relist m es b) ≡ current_of y b
  relist_current y = current_of-put y b m now refl

  pub relist_shape : (region b m).start + 8 * length es ≤ (region b m).end → ((s : ℕ) → links s es ≡ links s (region b m).entries) → Shape (relist m es b)
  relist_shape room same = record {
    bounds = bounds_same relist_same o.shape;
    fits = relist_all (λ i r. Fits r)
        (record { room = room; held = subst (HolderFits now) (sym o.current) tt }) (λ i n. o.shape.fits i);
    apart = apart_same relist_same o.shape;
    alone = λ y i e. relist_current y ∙ o.shape.alone y i (sym (relist_holder i) ∙ e);
    chain = λ q s.
        rw (relist_holder s)
        (relist_all (λ q r. links s r.entries ≡ one (is_left q (region b s).holder)) (same s ∙ o.shape.chain m s)
        (λ q n. o.shape.chain q s) q);
  }

  pub relist_owned : Shape (relist m es b) → Owned t m (relist m es b)
  relist_owned h = record { shape = h; current = relist_holder m ∙ o.current }
