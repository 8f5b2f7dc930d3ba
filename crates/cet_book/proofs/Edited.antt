-- What a change makes of a book: one of ten edits, by which every later law on changes goes. Source: own.
use Rattle.std.proofs.Common.{◌≡◌, ℕ, ◌+◌, ◌<◌, ◌≤◌, Bool, true, ◌&&◌, List, [], ◌∷◌, length, replicate, Option, Some, None, refl, arith}
use Rattle.std.specs.Prelude.{◌==◌, nat_lt, nat_le, if◌then◌else◌}
use Rattle.std.proofs.lemmas.Bool.{eqb-true}
use Rattle.std.proofs.lemmas.Bool.Decides.{nat_tests}
use Rattle.std.proofs.lemmas.List.Sums.{passes_at_first}
use Rattle.cet_words.specs.Change.{Change, Called, Returned, Raised, Acquired, Released, Claimed, Seeded, Born, Pushed, Popped, Ended, Busied, Freed}
use Rattle.cet_book.specs.declared.entries.Entry.{Entry}
use Rattle.cet_book.specs.declared.entries.Entry.TheVariants.{Call, Restorer, Frame, Previous, Blank}
use Rattle.cet_book.specs.declared.entries.Holder.{Holder}
use Rattle.cet_book.specs.declared.entries.Holder.TheVariants.{Current, Parked, Lost}
use Rattle.cet_book.specs.Book.{Region, Book, nowhere, region, capacity, is_maker, current_of, parked_at, starting_at, held_by, stack_of, put_stack, holds_stack, is_free}
use Rattle.cet_book.specs.Book.{with_current, relist, unlink, acquire, called, returned, raised, acquired, released, claim, can_claim, pushed, popped, ended, book_after}
use Rattle.cet_book.specs.Shape.{Shape, IsBook}
use Rattle.cet_book.proofs.Edits.{Owned, owned}
use Rattle.cet_book.proofs.Unlink.{Gone, lost, parked, Linked}
use Rattle.cet_book.proofs.Acquire.{parked_at_holds, Takes}
use Rattle.cet_book.proofs.Hand.{hand, Made, made_there}
use Rattle.cet_book.proofs.Append.{append, Appends}
use Rattle.cet_book.proofs.Removes.{Removal, plain, linked, returned_is}
use Rattle.cet_book.proofs.Kept.{claims}
use Rattle.cet_book.proofs.Cases.{if_some, and_true, with_current_some, maker_true}
use Rattle.cet_book.proofs.Supervisor.{holds_true, none_held}

pub data Edited (t : ℕ) (c : Change) (b next : Book) : Type 0 where
  -- the thread's region gets another list
  relists : (m : ℕ) (es : List Entry) → Owned t m b → relist m es b ≡ next → Edited t c b next
  -- the newest entry led to a region, which is lost or parked now
  unlinks : (m s : ℕ) (es : List Entry) (g : Holder) → Linked t m s es b → Gone g → unlink m s es g b ≡ next → Edited t c b next
  -- the newest entries go, one after another
  raises : (m n : ℕ) → Owned t m b → raised m n b ≡ Some next → Edited t c b next
  -- a parked region comes to the thread
  acquires : (m p q : ℕ) → c ≡ Acquired p → Takes t m q b → acquire t m q b ≡ next → Edited t c b next
  -- there is one region more
  appends : (r : Region) → Appends r b → append r b ≡ next → Edited t c b next
  -- a region that was being made is parked
  seeds_region : (s n start : ℕ) → c ≡ Seeded start n → (region b s).start ≡ start → Made t s b → hand s (replicate n Blank) Parked b ≡ next → Edited t c b next
  -- or it comes to a child, which had none
  bears_child : (s child start : ℕ) → c ≡ Born child start → (region b s).start ≡ start → Made t s b → length b.regions ≤ current_of child b → hand s (region b s).entries (Current child) b ≡ next → Edited t c b next
  -- the thread's region is lost
  ends_region : (m : ℕ) → Owned t m b → hand m (region b m).entries Lost b ≡ next → Edited t c b next
  -- a supervisor stack gets a holder that had none, or loses its holder
  busies : (k : ℕ) → c ≡ Busied k → k < length b.stacks → ((j : ℕ) → stack_of b j ≡ Some t → ⊥) → put_stack b k (Some t) ≡ next → Edited t c b next
  frees : (k : ℕ) → c ≡ Freed k → stack_of b k ≡ Some t → put_stack b k None ≡ next → Edited t c b next

removal_edited : {t m : ℕ} {c : Change} {b next : Book} → Owned t m b → Removal t m b next → Edited t c b next
removal_edited {m = m} o (plain e es list not_link is) = relists m es o is
removal_edited {m = m} o (linked s es l is) = let gone : Gone Lost = lost refl in unlinks m s es Lost l gone is

popped_edited : {t m : ℕ} {c : Change} {b next : Book} (l : List Entry) → Owned t m b → popped m l b ≡ Some next → Edited t c b next
popped_edited [] o e = cc
popped_edited (Call x ∷ es) o e = cc
popped_edited (Restorer x ∷ es) o e = cc
popped_edited {m = m} (Frame ∷ es) o e = relists m es o (cc)
popped_edited (Previous s ∷ es) o e = cc
popped_edited (Blank ∷ es) o e = cc

released_edited : {t m : ℕ} {c : Change} {b next : Book} (l : List Entry) → Owned t m b → (region b m).entries ≡ l → released m l b ≡ Some next → Edited t c b next
released_edited [] o list e = cc
released_edited (Call x ∷ es) o list e = cc
released_edited (Restorer x ∷ es) o list e = cc
released_edited (Frame ∷ es) o list e = cc
released_edited {m = m} {b = b} {next = next} (Previous s ∷ es) o list e =
    let test = if_some (nat_lt (length (region b s).entries) (capacity (region b s))) _ next e in
    let gone : Gone Parked = parked refl in
    unlinks m s es Parked (record { owned = o; entries = list }) gone (let d = test.1 in cc)
released_edited (Blank ∷ es) o list e = cc

-- the region that was found starts there
started : (start : ℕ) (b : Book) → starting_at start b < length b.regions → (region b (starting_at start b)).start ≡ start
unfolding starting_at
started start b inside = eqb-true _ start (passes_at_first (λ (r : Region). r.start == start) b.regions nowhere inside)

-- the region that thread t is making
pub made_by : (t s : ℕ) (b next : Book) (test : Bool) (o : Option Book) → Shape b → (if is_maker t (region b s).holder && test then o else None) ≡ Some next → Made t s b × (test ≡ true) × (o ≡ Some next)
made_by t s b next test o h e =
    let passed = if_some (is_maker t (region b s).holder && test) o next e in
    let both = and_true (is_maker t (region b s).holder) test passed.0 in
    (record { shape = h; maker = maker_true t (region b s).holder both.0 }, both.1, passed.1)

module _ (t : ℕ) (b next : Book) (h : IsBook b) where
  -- the region that is current on thread t, and what is done with it
  with_own : {c : Change} (f : ℕ → Region → Option Book) → with_current t b f ≡ Some next →
      ((o : Owned t (current_of t b) b) → f (current_of t b) (region b (current_of t b)) ≡ Some next → Edited t c b next) → Edited t c b next
  with_own f e k = let w = with_current_some t b next f e in k (owned t b h.shape w.0) w.1

  called_edited : (back : ℕ) → book_after t b (Called back) ≡ Some next → Edited t (Called back) b next
  called_edited back e = with_own (λ m r. called back m r b) e (λ o f.
      let m = current_of t b in
      let test = if_some (nat_lt (length (region b m).entries) (capacity (region b m))) _ next f in
      relists m (Call back ∷ (region b m).entries) o (let d = test.1 in cc))

  pushed_edited : (x : ℕ) → book_after t b (Pushed x) ≡ Some next → Edited t (Pushed x) b next
  pushed_edited x e = with_own (λ m r. pushed x m r b) e (λ o f.
      let m = current_of t b in
      let test = if_some (nat_le (length (region b m).entries + 2) (capacity (region b m))) _ next f in
      relists m (Restorer x ∷ Frame ∷ (region b m).entries) o (let d = test.1 in cc))

  acquired_edited : (p : ℕ) → book_after t b (Acquired p) ≡ Some next → Edited t (Acquired p) b next
  acquired_edited p e = with_own (λ m r. acquired t p m b) e (λ o f.
      let test = if_some (nat_lt (parked_at p b) (length b.regions)) _ next f in
      let passed : nat_lt (parked_at p b) (length b.regions) ≡ true = test.0 in
      let inside : parked_at p b < length b.regions = grind (arith, nat_tests) in
      acquires (current_of t b) p (parked_at p b) refl (record { owned = o; parked = (parked_at_holds p b inside).parked }) (let d = test.1 in cc))

  claimed_edited : (start pages : ℕ) (maker : Bool) → book_after t b (Claimed start pages maker) ≡ Some next → Edited t (Claimed start pages maker) b next
  claimed_edited start pages maker e =
      let test = if_some (can_claim start pages b) _ next e in
      appends (claim t start pages maker) (claims t start pages maker b h.shape) (let d = test.1 in cc)

  seeded_edited : (start n : ℕ) → book_after t b (Seeded start n) ≡ Some next → Edited t (Seeded start n) b next
  seeded_edited start n e =
      let s = starting_at start b in
      let made = made_by t s b next (nat_lt n (capacity (region b s))) _ h.shape e in
      seeds_region s n start refl (started start b (made_there made.0)) made.0 (let d = made.2 in cc)

  born_edited : (child start : ℕ) → book_after t b (Born child start) ≡ Some next → Edited t (Born child start) b next
  born_edited child start e =
      let s = starting_at start b in
      let made = made_by t s b next (nat_le (length b.regions) (current_of child b)) _ h.shape e in
      let passed : nat_le (length b.regions) (current_of child b) ≡ true = made.1 in
      bears_child s child start refl (started start b (made_there made.0)) made.0 (grind (arith, nat_tests)) (let d = made.2 in cc)

  pub busied_is : (k : ℕ) → book_after t b (Busied k) ≡ Some next → (k < length b.stacks) × ((j : ℕ) → stack_of b j ≡ Some t → ⊥) × (put_stack b k (Some t) ≡ next)
  busied_is k e =
      let test = if_some (nat_lt k 8 && is_free (stack_of b k) && nat_le (length b.stacks) (held_by t b)) _ next e in
      let all = and_true (nat_lt k 8 && is_free (stack_of b k)) (nat_le (length b.stacks) (held_by t b)) test.0 in
      let below : nat_lt k 8 ≡ true = (and_true (nat_lt k 8) (is_free (stack_of b k)) all.0).0 in
      let none : nat_le (length b.stacks) (held_by t b) ≡ true = all.1 in
      let low : k < 8 = grind (arith, nat_tests) in
      let past : length b.stacks ≤ held_by t b = grind (arith, nat_tests) in
      let eight = h.stacks.eight in
      (omega arith, none_held t b past, let d = test.1 in cc)

pub freed_is : (t k : ℕ) (b next : Book) → book_after t b (Freed k) ≡ Some next → (stack_of b k ≡ Some t) × (put_stack b k None ≡ next)
freed_is t k b next e =
    let test = if_some (holds_stack t (stack_of b k)) _ next e in
    (holds_true t (stack_of b k) test.0, let d = test.1 in cc)

pub edited : (t : ℕ) (c : Change) (b next : Book) → IsBook b → book_after t b c ≡ Some next → Edited t c b next
edited t (Called back) b next h e = called_edited t b next h back e
edited t Returned b next h e = with_own t b next h (λ m r. returned m r.entries b) e (λ o f. removal_edited o (returned_is next (region b (current_of t b)).entries o refl f))
edited t (Raised n) b next h e = with_own t b next h (λ m r. raised m n b) e (λ o f. raises (current_of t b) n o f)
edited t (Acquired p) b next h e = acquired_edited t b next h p e
edited t Released b next h e = with_own t b next h (λ m r. released m r.entries b) e (λ o f. released_edited (region b (current_of t b)).entries o refl f)
edited t (Claimed start pages maker) b next h e = claimed_edited t b next h start pages maker e
edited t (Seeded start n) b next h e = seeded_edited t b next h start n e
edited t (Born child start) b next h e = born_edited t b next h child start e
edited t (Pushed x) b next h e = pushed_edited t b next h x e
edited t Popped b next h e = with_own t b next h (λ m r. popped m r.entries b) e (λ o f. popped_edited (region b (current_of t b)).entries o f)
edited t Ended b next h e = with_own t b next h (λ m r. ended m r b) e (λ o f. ends_region (current_of t b) o (let d = f in cc))
edited t (Busied k) b next h e = let is = busied_is t b next h k e in busies k refl is.0 is.1 is.2
edited t (Freed k) b next h e = let is = freed_is t k b next e in frees k refl is.0 is.1
