-- The newest entries of the region that is current on a thread go, one after another. Source: own.
use Rattle.std.proofs.Common.{◌≡◌, ℕ, zero, suc, ◌+◌, ◌<◌, ◌≤◌, false, List, [], ◌∷◌, length, Option, Some, None, refl, sym, ◌∙◌, ap, subst, arith}
use Rattle.std.specs.Prelude.{option_and_then}
use Rattle.cet_book.specs.declared.entries.Entry.{Entry}
use Rattle.cet_book.specs.declared.entries.Entry.TheVariants.{Call, Restorer, Frame, Previous, Blank}
use Rattle.cet_book.specs.declared.entries.Holder.TheVariants.{Lost}
use Rattle.cet_book.specs.Book.{Region, Book, region, current_of, relist, unlink, returned, remove_entry, raised}
use Rattle.cet_book.specs.Facts.{is_previous, links}
use Rattle.cet_book.specs.Shape.{Shape}
use Rattle.cet_book.proofs.Edits.{Owned, SameBounds}
use Rattle.cet_book.proofs.Relist.{relist_shape, relist_owned, relist_current, relist_same, relist_here}
use Rattle.cet_book.proofs.Unlink.{Gone, lost, Linked, unlink_shape, unlink_current, unlink_same, unlink_here}

-- one entry of region m went: none that leads to another region, or Previous(s), and s is lost
pub data Removal (t m : ℕ) (b next : Book) : Type 0 where
  plain : (e : Entry) (es : List Entry) → (region b m).entries ≡ e ∷ es → ((s : ℕ) → is_previous s e ≡ false) → relist m es b ≡ next → Removal t m b next
  linked : (s : ℕ) (es : List Entry) → Linked t m s es b → unlink m s es Lost b ≡ next → Removal t m b next

pub remove_is : {t m : ℕ} {b : Book} (next : Book) (l : List Entry) → Owned t m b → (region b m).entries ≡ l → remove_entry m l b ≡ Some next → Removal t m b next
remove_is next [] o list e = cc
remove_is next (Call x ∷ es) o list e = plain (Call x) es list (λ s. refl) (cc)
remove_is next (Restorer x ∷ es) o list e = plain (Restorer x) es list (λ s. refl) (cc)
remove_is next (Frame ∷ es) o list e = plain Frame es list (λ s. refl) (cc)
remove_is next (Previous s ∷ es) o list e = linked s es (record { owned = o; entries = list }) (cc)
remove_is next (Blank ∷ es) o list e = plain Blank es list (λ s. refl) (cc)

pub returned_is : {t m : ℕ} {b : Book} (next : Book) (l : List Entry) → Owned t m b → (region b m).entries ≡ l → returned m l b ≡ Some next → Removal t m b next
returned_is next [] o list e = cc
returned_is next (Call x ∷ es) o list e = plain (Call x) es list (λ s. refl) (cc)
returned_is next (Restorer x ∷ es) o list e = plain (Restorer x) es list (λ s. refl) (cc)
returned_is next (Frame ∷ es) o list e = cc
returned_is next (Previous s ∷ es) o list e = linked s es (record { owned = o; entries = list }) (cc)
returned_is next (Blank ∷ es) o list e = plain Blank es list (λ s. refl) (cc)

plain_shape : {t m : ℕ} {b : Book} (o : Owned t m b) (e : Entry) (es : List Entry) → (region b m).entries ≡ e ∷ es → ((s : ℕ) → is_previous s e ≡ false) → Shape (relist m es b)
plain_shape {m = m} {b = b} o e es list not_link =
    let room = (o.shape.fits m).room in
    let longer : length (region b m).entries ≡ suc (length es) = ap (λ (l : List Entry). length l) list in
    relist_shape o es (omega arith) (λ z. sym (ap (links z) list ∙ rw (not_link z) (omega arith)))

-- what is as before after one or more entries went
pub record Shortened (t m n : ℕ) (b next : Book) : Type 0 where
  pub owned : Owned t m next
  pub current : (y : ℕ) → current_of y next ≡ current_of y b
  pub same : SameBounds b next
  pub stacks : next.stacks ≡ b.stacks
  pub fewer : length (region next m).entries + n ≡ length (region b m).entries

plain_shortened : {t m : ℕ} {b : Book} (o : Owned t m b) (e : Entry) (es : List Entry) → (region b m).entries ≡ e ∷ es → ((s : ℕ) → is_previous s e ≡ false) → Shortened t m 1 b (relist m es b)
plain_shortened {m = m} {b = b} o e es list not_link =
    let longer : length (region b m).entries ≡ suc (length es) = ap (λ (l : List Entry). length l) list in
    let now : length (region (relist m es b) m).entries ≡ length es = ap (λ (r : Region). length r.entries) (relist_here o es) in
    record {
      owned = relist_owned o es (plain_shape o e es list not_link);
      current = relist_current o es;
      same = relist_same o es;
      stacks = refl;
      fewer = omega arith;
    }

linked_shortened : {t m s : ℕ} {es : List Entry} {b : Book} → Linked t m s es b → Shortened t m 1 b (unlink m s es Lost b)
linked_shortened {m = m} {s = s} {es = es} {b = b} l =
    let gone : Gone Lost = lost refl in
    let longer : length (region b m).entries ≡ suc (length es) = ap (λ (l : List Entry). length l) l.entries in
    let now : length (region (unlink m s es Lost b) m).entries ≡ length es = ap (λ (r : Region). length r.entries) (unlink_here l Lost) in
    record {
      owned = record { shape = unlink_shape l gone tt; current = ap (λ (r : Region). r.holder) (unlink_here l Lost) ∙ l.owned.current };
      current = unlink_current l gone;
      same = unlink_same l Lost;
      stacks = refl;
      fewer = omega arith;
    }

pub shortened : {t m : ℕ} {b next : Book} → Owned t m b → Removal t m b next → Shortened t m 1 b next
shortened {t = t} {m = m} {b = b} o (plain e es list not_link is) = subst (Shortened t m 1 b) is (plain_shortened o e es list not_link)
shortened {t = t} {m = m} {b = b} o (linked s es l is) = subst (Shortened t m 1 b) is (linked_shortened l)

then_raised : (m n : ℕ) (next : Book) (o : Option Book) → option_and_then (raised m n) o ≡ Some next → (mid : Book) × (o ≡ Some mid) × (raised m n mid ≡ Some next)
then_raised m n next None e = cc
then_raised m n next (Some mid) e = (mid, refl, e)

-- What holds where no entry goes, and is kept by each that does, holds of all that do.
pub raised_all : (t m : ℕ) (P : ℕ → Book → Book → Type 0) → ((b : Book) → Owned t m b → P 0 b b) → ((n : ℕ) (b mid next : Book) → Owned t m b → Removal t m b mid → P n mid next → P (suc n) b next) →
    (n : ℕ) (b next : Book) → Owned t m b → raised m n b ≡ Some next → P n b next
raised_all t m P none more zero b next o e = let same : b ≡ next = cc in subst (P 0 b) same (none b o)
raised_all t m P none more (suc n) b next o e =
    let step = then_raised m n next (remove_entry m (region b m).entries b) e in
    let removal : Removal t m b step.0 = remove_is step.0 (region b m).entries o refl step.1 in
    more n b step.0 next o removal (raised_all t m P none more n step.0 next (shortened o removal).owned step.2)

same_none : (b : Book) → SameBounds b b
same_none b = record { len = refl; start = λ i. refl; end = λ i. refl }

pub raised_shortened : (t m n : ℕ) (b next : Book) → Owned t m b → raised m n b ≡ Some next → Shortened t m n b next
raised_shortened t m = raised_all t m (λ n b next. Shortened t m n b next)
    (λ b o. record { owned = o; current = λ y. refl; same = same_none b; stacks = refl; fewer = omega arith })
    (λ n b mid next o removal rest.
    let first = shortened o removal in
    let a = first.same in
    let c = rest.same in
    record {
      owned = rest.owned;
      current = λ y. rest.current y ∙ first.current y;
      same = record { len = c.len ∙ a.len; start = λ i. c.start i ∙ a.start i; end = λ i. c.end i ∙ a.end i };
      stacks = rest.stacks ∙ first.stacks;
      fewer = let x = first.fewer in let y = rest.fewer in omega arith;
    })

some_removed : (m : ℕ) (b : Book) (l : List Entry) → 0 < length l → (next : Book) × (remove_entry m l b ≡ Some next)
some_removed m b [] l = absurd (omega arith)
some_removed m b (Call x ∷ es) l = (relist m es b, refl)
some_removed m b (Restorer x ∷ es) l = (relist m es b, refl)
some_removed m b (Frame ∷ es) l = (relist m es b, refl)
some_removed m b (Previous s ∷ es) l = (unlink m s es Lost b, refl)
some_removed m b (Blank ∷ es) l = (relist m es b, refl)

raised_from : (m n : ℕ) (b mid next : Book) → remove_entry m (region b m).entries b ≡ Some mid → raised m n mid ≡ Some next → raised m (suc n) b ≡ Some next
raised_from m n b mid next first rest = ap (λ (q : Option Book). option_and_then (raised m n) q) first ∙ rest

-- as many entries can go as there are
pub raised_some : (t m n : ℕ) (b : Book) → Owned t m b → n ≤ length (region b m).entries → (next : Book) × (raised m n b ≡ Some next)
raised_some t m zero b o l = (b, refl)
raised_some t m (suc n) b o l =
    let first = some_removed m b (region b m).entries (omega arith) in
    let short = shortened o (remove_is first.0 (region b m).entries o refl first.1) in
    let fewer = short.fewer in
    let rest = raised_some t m n first.0 short.owned (omega arith) in
    (rest.0, raised_from m n b first.0 rest.0 first.1 rest.1)
