-- What comes to a thread by a change: nothing, but by its own Acquired or Busied, or by a birth of it. Source: own.
use Rattle.std.proofs.Common.{◌≡◌, ◌≢◌, ℕ, ◌+◌, ◌<◌, ◌≤◌, ◌⊎◌, inl, inr, List, [], ◌∷◌, length, Option, Some, None, refl, sym, ◌∙◌, ap, subst, arith, get_or}
use Rattle.std.proofs.lemmas.Bool.Decides.{eqb_tells}
use Rattle.cet_words.specs.Change.{Change, Called, Returned, Raised, Acquired, Released, Claimed, Seeded, Born, Pushed, Popped, Ended, Busied, Freed}
use Rattle.cet_book.specs.declared.entries.Entry.{Entry}
use Rattle.cet_book.specs.declared.entries.Holder.{Holder}
use Rattle.cet_book.specs.declared.entries.Holder.TheVariants.{Lost}
use Rattle.cet_book.specs.Book.{Region, Book, region, stack_of, put_stack, relist, unlink, acquire, book_after, books_after}
use Rattle.cet_book.specs.Shape.{IsBook}
use Rattle.cet_book.proofs.Edits.{Owned, SameBounds}
use Rattle.cet_book.proofs.Relist.{relist_same, relist_holder}
use Rattle.cet_book.proofs.Unlink.{Gone, lost, parked, Linked, unlink_same, unlink_all}
use Rattle.cet_book.proofs.Acquire.{Takes, acquire_same, acquire_all}
use Rattle.cet_book.proofs.Hand.{hand, Hands, hand_same, hand_all, seeds, bears, ends}
use Rattle.cet_book.proofs.Append.{append, Appends, append_length, append_old}
use Rattle.cet_book.proofs.Removes.{Removal, plain, linked, raised_all}
use Rattle.cet_book.specs.Facts.{Owns}
use Rattle.cet_book.proofs.Changes.{same_book, then_by}
use Rattle.cet_book.proofs.Kept.{NotBorn, NoneBorn, book_kept}
use Rattle.cet_book.proofs.Edited.{Edited, relists, unlinks, raises, acquires, appends, seeds_region, bears_child, ends_region, busies, frees, edited}
use Rattle.cet_book.proofs.Supervisor.{stack_there, stack_of-put_stack}

-- regions stay where they lie, and what is thread y's was so before
pub record Comes (y : ℕ) (b next : Book) : Type 0 where
  pub grows : length b.regions ≤ length next.regions
  pub start : (i : ℕ) → i < length b.regions → (region next i).start ≡ (region b i).start
  pub end : (i : ℕ) → i < length b.regions → (region next i).end ≡ (region b i).end
  pub owns : (i : ℕ) → i < length b.regions → Owns y (region next i).holder → Owns y (region b i).holder
  pub holds : (k : ℕ) → stack_of next k ≡ Some y → stack_of b k ≡ Some y

pub comes_none : (y : ℕ) (b : Book) → Comes y b b
comes_none y b = record { grows = omega arith; start = λ i l. refl; end = λ i l. refl; owns = λ i l o. o; holds = λ k e. e }

pub comes_then : {y : ℕ} {a b c : Book} → Comes y a b → Comes y b c → Comes y a c
comes_then {a = a} {b = b} first second =
    let grows = first.grows in
    let further = second.grows in
    let there : (i : ℕ) → i < length a.regions → i < length b.regions = λ i l. omega arith in
    record {
      grows = omega arith;
      start = λ i l. second.start i (there i l) ∙ first.start i l;
      end = λ i l. second.end i (there i l) ∙ first.end i l;
      owns = λ i l o. first.owns i l (second.owns i (there i l) o);
      holds = λ k e. first.holds k (second.holds k e);
    }

-- ---- one edit

by_bounds : {y : ℕ} {b next : Book} → SameBounds b next → next.stacks ≡ b.stacks → ((i : ℕ) → Owns y (region next i).holder → Owns y (region b i).holder) → Comes y b next
by_bounds same holders owns = record {
  grows = let e = same.len in omega arith;
  start = λ i l. same.start i;
  end = λ i l. same.end i;
  owns = λ i l. owns i;
  holds = λ k e. ap (λ (l : List (Option ℕ)). get_or l k None) (sym holders) ∙ e;
}

relist_comes : {t m : ℕ} {b : Book} (o : Owned t m b) (es : List Entry) (y : ℕ) → Comes y b (relist m es b)
relist_comes o es y = by_bounds (relist_same o es) refl (λ i x. subst (Owns y) (relist_holder o es i) x)

gone_owns : (y : ℕ) (g : Holder) → Gone g → Owns y g → ⊥
gone_owns y g (lost e) x = subst (Owns y) e x
gone_owns y g (parked e) x = subst (Owns y) e x

unlink_comes : {t m s : ℕ} {es : List Entry} {b : Book} (l : Linked t m s es b) {g : Holder} → Gone g → (y : ℕ) → Comes y b (unlink m s es g b)
unlink_comes {b = b} l {g = g} gone y =
    by_bounds (unlink_same l g) refl
    (unlink_all l g (λ i r. Owns y r.holder → Owns y (region b i).holder) (λ x. absurd (gone_owns y g gone x)) (λ x. x) (λ i n n' x. x))

removal_comes : {t m : ℕ} {b next : Book} (o : Owned t m b) → Removal t m b next → (y : ℕ) → Comes y b next
removal_comes {b = b} o (plain e es list not_link is) y = subst (Comes y b) is (relist_comes o es y)
removal_comes {b = b} o (linked s es l is) y = let gone : Gone Lost = lost refl in subst (Comes y b) is (unlink_comes l gone y)

acquire_comes : {t m q : ℕ} {b : Book} (k : Takes t m q b) (y : ℕ) → t ≢ y → Comes y b (acquire t m q b)
acquire_comes {b = b} k y other =
    by_bounds (acquire_same k) refl
    (acquire_all k (λ i r. Owns y r.holder → Owns y (region b i).holder) (λ x. absurd (other x)) (λ x. absurd x) (λ i n n' x. x))

hand_comes : {s : ℕ} {es : List Entry} {g : Holder} {b : Book} (h : Hands s es g b) (y : ℕ) → (Owns y g → ⊥) → Comes y b (hand s es g b)
hand_comes {b = b} h y not_own =
    by_bounds (hand_same h) refl (hand_all h (λ i r. Owns y r.holder → Owns y (region b i).holder) (λ x. absurd (not_own x)) (λ i n x. x))

append_comes : {r : Region} {b : Book} (a : Appends r b) (y : ℕ) → Comes y b (append r b)
append_comes a y = record {
  grows = let e = append_length a in omega arith;
  start = λ i l. ap (λ (x : Region). x.start) (append_old a i (omega arith));
  end = λ i l. ap (λ (x : Region). x.end) (append_old a i (omega arith));
  owns = λ i l. subst (λ (x : Region). Owns y x.holder) (append_old a i (omega arith));
  holds = λ k e. e;
}

put_comes : (y k : ℕ) (o : Option ℕ) (b : Book) → k < length b.stacks → o ≢ Some y → Comes y b (put_stack b k o)
put_comes y k o b inside other = record {
  grows = omega arith;
  start = λ i l. refl;
  end = λ i l. refl;
  owns = λ i l x. x;
  holds = λ j e.
      let at = stack_of-put_stack b k j o inside in
      elim (eqb_tells j k) [
        | inl u ↦ absurd (other (sym (rw u.0 at at) ∙ e))
        | inr u ↦ sym (rw u.0 at at) ∙ e
      ];
}

-- ---- a change, and several

-- neither a region nor a supervisor stack comes to the thread that makes the change
abbrev pub TakesNothing : Change → Type 0
TakesNothing (Called back) = Unit {0}
TakesNothing Returned = Unit {0}
TakesNothing (Raised n) = Unit {0}
TakesNothing (Acquired p) = ⊥
TakesNothing Released = Unit {0}
TakesNothing (Claimed start pages maker) = Unit {0}
TakesNothing (Seeded start n) = Unit {0}
TakesNothing (Born child start) = Unit {0}
TakesNothing (Pushed x) = Unit {0}
TakesNothing Popped = Unit {0}
TakesNothing Ended = Unit {0}
TakesNothing (Busied k) = ⊥
TakesNothing (Freed k) = Unit {0}

-- the change is another thread's, or takes nothing
abbrev pub Apart : (t y : ℕ) → Change → Type 0
Apart t y c = (t ≢ y) ⊎ TakesNothing c

apart_other : {t y : ℕ} (c : Change) → Apart t y c → (TakesNothing c → ⊥) → t ≢ y
apart_other c (inl n) takes = n
apart_other c (inr nothing) takes = absurd (takes nothing)

edit_comes : (t y : ℕ) (c : Change) (b next : Book) → Edited t c b next → NotBorn c y → Apart t y c → Comes y b next
edit_comes t y c b next (relists m es o is) none apart = subst (Comes y b) is (relist_comes o es y)
edit_comes t y c b next (unlinks m s es g l gone is) none apart = subst (Comes y b) is (unlink_comes l gone y)
edit_comes t y c b next (raises m n o is) none apart =
    raised_all t m (λ _ b next. Comes y b next) (λ b _. comes_none y b)
    (λ _ b mid next o removal rest. comes_then (removal_comes o removal y) rest) n b next o is
edit_comes t y c b next (acquires m p q e k is) none apart =
    subst (Comes y b) is (acquire_comes k y (apart_other c apart (λ z. subst TakesNothing e z)))
edit_comes t y c b next (appends r a is) none apart = subst (Comes y b) is (append_comes a y)
edit_comes t y c b next (seeds_region s n start e at m is) none apart = subst (Comes y b) is (hand_comes (seeds m n) y (λ z. z))
edit_comes t y c b next (bears_child s child start e at m few is) none apart =
    subst (Comes y b) is (hand_comes (bears m child) y (subst (λ x. NotBorn x y) e none))
edit_comes t y c b next (ends_region m o is) none apart = subst (Comes y b) is (hand_comes (ends o) y (λ z. z))
edit_comes t y c b next (busies k e inside free is) none apart =
    let other : t ≢ y = apart_other c apart (λ z. subst TakesNothing e z) in
    subst (Comes y b) is (put_comes y k (Some t) b inside (λ z. other (cc)))
edit_comes t y c b next (frees k e held is) none apart = subst (Comes y b) is (put_comes y k None b (stack_there t k b held) (λ z. cc))

pub change_comes : (t y : ℕ) (c : Change) (b next : Book) → IsBook b → book_after t b c ≡ Some next → NotBorn c y → Apart t y c → Comes y b next
change_comes t y c b next h e none apart = edit_comes t y c b next (edited t c b next h e) none apart

abbrev pub AllApart : (t y : ℕ) → List Change → Type 0
AllApart t y [] = Unit {0}
AllApart t y (c ∷ cs) = Apart t y c × AllApart t y cs

pub other_apart : (t y : ℕ) (cs : List Change) → t ≢ y → AllApart t y cs
other_apart t y [] n = tt
other_apart t y (c ∷ cs) n = (inl n, other_apart t y cs n)

pub changes_come : (t y : ℕ) (cs : List Change) (b next : Book) → IsBook b → books_after t b cs ≡ Some next → NoneBorn cs y → AllApart t y cs → Comes y b next
changes_come t y [] b next h e none apart = subst (Comes y b) (same_book t b next [] refl e) (comes_none y b)
changes_come t y (c ∷ cs) b next h e none apart =
    let d = then_by t (book_after t b c) next cs e in
    comes_then (change_comes t y c b d.0 h d.1 none.0 apart.0) (changes_come t y cs d.0 next (book_kept t c b d.0 h d.1).book d.2 none.1 apart.1)

-- ---- regions stay in the list

abbrev child_of : Change → ℕ
child_of (Born child start) = child
child_of c = 0

-- a thread that neither makes the change nor is born by it
bystander : (t : ℕ) (c : Change) → NotBorn c (t + child_of c + 1)
bystander t (Born child start) = λ z. omega arith
bystander t c = tt

-- every region stays in the list, and where it lies
pub record Lasts (b next : Book) : Type 0 where
  pub grows : length b.regions ≤ length next.regions
  pub start : (i : ℕ) → i < length b.regions → (region next i).start ≡ (region b i).start
  pub end : (i : ℕ) → i < length b.regions → (region next i).end ≡ (region b i).end

pub change_lasts : (t : ℕ) (c : Change) (b next : Book) → IsBook b → book_after t b c ≡ Some next → Lasts b next
change_lasts t c b next h e =
    let others = change_comes t (t + child_of c + 1) c b next h e (bystander t c) (inl (λ z. omega arith)) in
    record { grows = others.grows; start = others.start; end = others.end }

lasts_then : {a b c : Book} → Lasts a b → Lasts b c → Lasts a c
lasts_then {a = a} {b = b} first second =
    let grows = first.grows in
    let further = second.grows in
    let there : (i : ℕ) → i < length a.regions → i < length b.regions = λ i l. omega arith in
    record {
      grows = omega arith;
      start = λ i l. second.start i (there i l) ∙ first.start i l;
      end = λ i l. second.end i (there i l) ∙ first.end i l;
    }

pub changes_last : (t : ℕ) (cs : List Change) (b next : Book) → IsBook b → books_after t b cs ≡ Some next → Lasts b next
changes_last t [] b next h e = subst (Lasts b) (same_book t b next [] refl e) (record { grows = omega arith; start = λ i l. refl; end = λ i l. refl })
changes_last t (c ∷ cs) b next h e =
    let d = then_by t (book_after t b c) next cs e in
    lasts_then (change_lasts t c b d.0 h d.1) (changes_last t cs d.0 next (book_kept t c b d.0 h d.1).book d.2)
