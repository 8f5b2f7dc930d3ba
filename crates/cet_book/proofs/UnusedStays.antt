-- A region that is lost, or that a thread is making, stays as it is, until its maker parks it or brings a thread onto it. Source: own.
use Rattle.std.proofs.Common.{◌≡◌, ◌≢◌, ℕ, ◌<◌, List, length, Some, refl, sym, ◌∙◌, ap, subst, arith}
use Rattle.cet_words.specs.Change.{Change, Called, Returned, Raised, Acquired, Released, Claimed, Seeded, Born, Pushed, Popped, Ended, Busied, Freed}
use Rattle.cet_book.specs.declared.entries.Entry.{Entry}
use Rattle.cet_book.specs.declared.entries.Holder.TheVariants.{Maker, Current, Parked, Left, Lost}
use Rattle.cet_book.specs.declared.entries.Holder.{Holder}
use Rattle.cet_book.specs.Book.{Region, Book, region, relist, unlink, book_after}
use Rattle.cet_book.specs.Shape.{IsBook}
use Rattle.cet_book.proofs.Edits.{Owned}
use Rattle.cet_book.proofs.Relist.{relist_other}
use Rattle.cet_book.proofs.Unlink.{Linked, linked_left, unlink_other}
use Rattle.cet_book.proofs.Acquire.{acquire_other}
use Rattle.cet_book.proofs.Hand.{hand_other, seeds, bears, ends}
use Rattle.cet_book.proofs.Append.{append_old}
use Rattle.cet_book.proofs.Removes.{Removal, plain, linked, raised_all}
use Rattle.cet_book.proofs.Edited.{Edited, relists, unlinks, raises, acquires, appends, seeds_region, bears_child, ends_region, busies, frees, edited}

-- no thread is on the region or has left it, and it has no token
abbrev pub IsUnused : Holder → Type 0
IsUnused (Maker t) = Unit {0}
IsUnused (Current t) = ⊥
IsUnused Parked = ⊥
IsUnused (Left q) = ⊥
IsUnused Lost = Unit {0}

-- by this change a thread uses the region that it has made
abbrev pub UsesMade : Change → Type 0
UsesMade (Called back) = ⊥
UsesMade Returned = ⊥
UsesMade (Raised count) = ⊥
UsesMade (Acquired p) = ⊥
UsesMade Released = ⊥
UsesMade (Claimed start pages maker) = ⊥
UsesMade (Seeded start blanks) = Unit {0}
UsesMade (Born child start) = Unit {0}
UsesMade (Pushed restorer) = ⊥
UsesMade Popped = ⊥
UsesMade Ended = ⊥
UsesMade (Busied k) = ⊥
UsesMade (Freed k) = ⊥

-- region i is unused
module _ (b : Book) (i : ℕ) (unused : IsUnused (region b i).holder) where
  other_than : (m : ℕ) (h : Holder) → (region b m).holder ≡ h → (IsUnused h → ⊥) → i ≢ m
  other_than m h e n z = n (subst IsUnused e (subst (λ j. IsUnused (region b j).holder) z unused))

  other_own : {t m : ℕ} → Owned t m b → i ≢ m
  other_own {t = t} {m = m} o = other_than m (Current t) o.current (λ z. z)

  unused_relist : {t m : ℕ} → Owned t m b → (es : List Entry) → region (relist m es b) i ≡ region b i
  unused_relist o es = relist_other o es i (other_own o)

  unused_unlink : {t m s : ℕ} {es : List Entry} → Linked t m s es b → (g : Holder) → region (unlink m s es g b) i ≡ region b i
  unused_unlink {m = m} {s = s} l g = unlink_other l g i (other_than s (Left m) (linked_left l) (λ z. z)) (other_own l.owned)

  unused_removal : {t m : ℕ} {next : Book} → Owned t m b → Removal t m b next → region next i ≡ region b i
  unused_removal o (plain e es list not_link is) = subst (λ n. region n i ≡ region b i) is (unused_relist o es)
  unused_removal o (linked s es l is) = subst (λ n. region n i ≡ region b i) is (unused_unlink l Lost)

made_other : (t s i : ℕ) (b : Book) → (region b s).holder ≡ Maker t → (region b i).holder ≢ Maker t → i ≢ s
made_other t s i b e n z = n (ap (λ j. (region b j).holder) z ∙ e)

edit_keeps : (t i : ℕ) (c : Change) (b next : Book) → i < length b.regions → IsUnused (region b i).holder → (UsesMade c → (region b i).holder ≢ Maker t) → Edited t c b next → region next i ≡ region b i
edit_keeps t i c b next l f n (relists m es o is) = subst (λ n. region n i ≡ region b i) is (unused_relist b i f o es)
edit_keeps t i c b next l f n (unlinks m s es g link gone is) = subst (λ n. region n i ≡ region b i) is (unused_unlink b i f link g)
edit_keeps t i c b next l f n (raises m k o is) =
    raised_all t m (λ _ b next. IsUnused (region b i).holder → region next i ≡ region b i) (λ b _ _. refl)
    (λ _ b mid next o removal rest f'.
    let first = unused_removal b i f' o removal in
    rest (subst (λ (r : Region). IsUnused r.holder) (sym first) f') ∙ first) k b next o is f
edit_keeps t i c b next l f n (acquires m p q e k is) =
    subst (λ n. region n i ≡ region b i) is (acquire_other k i (other_than b i f q Parked k.parked (λ z. z)) (other_own b i f k.owned))
edit_keeps t i c b next l f n (appends r a is) = subst (λ n. region n i ≡ region b i) is (append_old a i (omega arith))
edit_keeps t i c b next l f n (seeds_region s k start e at m is) = subst (λ n. region n i ≡ region b i) is (hand_other (seeds m k) i (made_other t s i b m.maker (n (subst UsesMade (sym e) tt))))
edit_keeps t i c b next l f n (bears_child s child start e at m few is) = subst (λ n. region n i ≡ region b i) is (hand_other (bears m child) i (made_other t s i b m.maker (n (subst UsesMade (sym e) tt))))
edit_keeps t i c b next l f n (ends_region m o is) = subst (λ n. region n i ≡ region b i) is (hand_other (ends o) i (other_own b i f o))
edit_keeps t i c b next l f n (busies k e inside free is) = subst (λ n. region n i ≡ region b i) is refl
edit_keeps t i c b next l f n (frees k e held is) = subst (λ n. region n i ≡ region b i) is refl

pub unused_stays : (t : ℕ) (c : Change) (b next : Book) → IsBook b → book_after t b c ≡ Some next → (i : ℕ) → i < length b.regions → IsUnused (region b i).holder →
    (UsesMade c → (region b i).holder ≢ Maker t) → region next i ≡ region b i
unused_stays t c b next h e i l f n = edit_keeps t i c b next l f n (edited t c b next h e)
