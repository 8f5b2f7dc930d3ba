-- Every change keeps what holds of a book. Source: own.
use Rattle.std.proofs.Common.{◌≡◌, ◌≢◌, ℕ, suc, ◌+◌, ◌*◌, ◌<◌, ◌≤◌, ◌⊎◌, inl, inr, Bool, true, false, ◌&&◌, List, [], ◌∷◌, length, Option, Some, None, refl, sym, ◌∙◌, ap, subst, arith}
use Rattle.std.specs.Prelude.{nat_lt, nat_le}
use Rattle.std.proofs.lemmas.Bool.Decides.{nat_tests}
use Rattle.cet_words.specs.Change.{Change, Called, Returned, Raised, Acquired, Released, Claimed, Seeded, Born, Pushed, Popped, Ended, Busied, Freed}
use Rattle.cet_book.specs.declared.entries.Entry.{Entry}
use Rattle.cet_book.specs.declared.entries.Entry.TheVariants.{Call, Restorer, Frame, Previous, Blank}
use Rattle.cet_book.specs.declared.entries.Holder.TheVariants.{Maker, Parked, Lost}
use Rattle.cet_book.specs.Book.{Region, Book, region, capacity, is_maker, current_of, parked_at, starting_at, held_by, stack_of, holds_stack, is_free, with_current, relist, unlink, called}
use Rattle.cet_book.specs.Book.{returned, raised, acquired, released, claim, can_claim, claimed, seeded, born, pushed, popped, ended, busied, freed, book_after, books_after}
use Rattle.cet_book.proofs.Changes.{then_by}
use Rattle.cet_book.specs.Facts.{Bounds, links, Returns}
use Rattle.cet_book.specs.Shape.{Shape, StackShape, IsBook}
use Rattle.cet_book.proofs.Edits.{Owned, owned, owned_there}
use Rattle.cet_book.proofs.Relist.{relist_shape}
use Rattle.cet_book.proofs.Unlink.{Gone, parked, Linked, left_there, unlink_shape}
use Rattle.cet_book.proofs.Acquire.{parked_at_holds, Takes, acquire_shape}
use Rattle.cet_book.proofs.Hand.{Made, made_there, seeds, seed_shape, bears, born_shape, ends, end_shape}
use Rattle.cet_book.proofs.Append.{Appends, append_shape, end_le_last, last_end_low}
use Rattle.cet_book.proofs.Removes.{returned_is, shortened, raised_shortened}
use Rattle.cet_book.specs.Relied.{Relies, relies_same, relies_then}
use Rattle.cet_book.proofs.Relies.{relist_relies, unlink_relies, acquire_relies, seed_relies, born_relies, end_relies, append_relies, removal_relies, raised_relies, stack_relies}
use Rattle.cet_book.proofs.Addresses.{ChangeReturns, older_return, relist_returns, unlink_returns, acquire_returns, hand_returns, append_returns, blanks_return, removal_returns, raised_returns}
use Rattle.cet_book.proofs.Cases.{if_some, and_true, with_current_some, room_for, maker_true, CanClaim, can_claim_true}
use Rattle.cet_book.proofs.Supervisor.{holds_true, free_true, stack_there, none_held, busied_stacks, freed_stacks, put_stack_shape}

-- the change is no birth of the thread
abbrev pub NotBorn : Change → ℕ → Type 0
NotBorn (Called back) y = Unit {0}
NotBorn Returned y = Unit {0}
NotBorn (Raised n) y = Unit {0}
NotBorn (Acquired p) y = Unit {0}
NotBorn Released y = Unit {0}
NotBorn (Claimed start pages maker) y = Unit {0}
NotBorn (Seeded start n) y = Unit {0}
NotBorn (Born child start) y = child ≢ y
NotBorn (Pushed x) y = Unit {0}
NotBorn Popped y = Unit {0}
NotBorn Ended y = Unit {0}
NotBorn (Busied k) y = Unit {0}
NotBorn (Freed k) y = Unit {0}

-- a change other than a gate's leaves the holders of supervisor stacks
abbrev pub SameHolders : Change → (old new : List (Option ℕ)) → Type 0
SameHolders (Busied k) old new = Unit {0}
SameHolders (Freed k) old new = Unit {0}
SameHolders c old new = new ≡ old

same_holders : (c : Change) (old new : List (Option ℕ)) → new ≡ old → SameHolders c old new
same_holders (Busied k) old new e = tt
same_holders (Freed k) old new e = tt
same_holders c old new e = e

-- a change by t leads from one book to the next, and other threads can rely on what was theirs
pub record Kept (t : ℕ) (c : Change) (b next : Book) : Type 0 where
  pub book : IsBook next
  pub holders : SameHolders c b.stacks next.stacks
  pub others : (y : ℕ) → t ≢ y → NotBorn c y → Relies y b next
  pub returns : ChangeReturns c → Returns b → Returns next

-- the same of a change of regions alone
pub record Keeps (t : ℕ) (c : Change) (b next : Book) : Type 0 where
  pub shape : Shape next
  pub stacks : next.stacks ≡ b.stacks
  pub others : (y : ℕ) → t ≢ y → NotBorn c y → Relies y b next
  pub returns : ChangeReturns c → Returns b → Returns next

kept : {t : ℕ} {c : Change} {b x next : Book} → x ≡ next → Shape x → x.stacks ≡ b.stacks → ((y : ℕ) → t ≢ y → NotBorn c y → Relies y b x) → (ChangeReturns c → Returns b → Returns x) → Keeps t c b next
kept {t = t} {c = c} {b = b} is shape stacks others returns =
    subst (Keeps t c b) is (record { shape = shape; stacks = stacks; others = others; returns = returns })

pub called_kept : (t m back : ℕ) (b next : Book) → Owned t m b → called back m (region b m) b ≡ Some next → Keeps t (Called back) b next
called_kept t m back b next o e =
    let c = if_some (nat_lt (length (region b m).entries) (capacity (region b m))) _ next e in
    let passed : nat_lt (length (region b m).entries) (capacity (region b m)) ≡ true = c.0 in
    let few : length (region b m).entries < capacity (region b m) = grind (arith, nat_tests) in
    let room = room_for (region b m) (length (region b m).entries) (o.shape.bounds m (owned_there o)) few in
    let is : relist m (Call back ∷ (region b m).entries) b ≡ next = cc in
    kept is (relist_shape o (Call back ∷ (region b m).entries) (omega arith) (λ s. omega arith)) refl
    (λ y n _. relist_relies o (Call back ∷ (region b m).entries) y n)
    (λ new old. relist_returns o (Call back ∷ (region b m).entries) (new, old m) old)

pub pushed_kept : (t m x : ℕ) (b next : Book) → Owned t m b → pushed x m (region b m) b ≡ Some next → Keeps t (Pushed x) b next
pushed_kept t m x b next o e =
    let c = if_some (nat_le (length (region b m).entries + 2) (capacity (region b m))) _ next e in
    let passed : nat_le (length (region b m).entries + 2) (capacity (region b m)) ≡ true = c.0 in
    let few : length (region b m).entries + 2 ≤ capacity (region b m) = grind (arith, nat_tests) in
    let room = room_for (region b m) (length (region b m).entries + 1) (o.shape.bounds m (owned_there o)) (omega arith) in
    let is : relist m (Restorer x ∷ Frame ∷ (region b m).entries) b ≡ next = cc in
    kept is (relist_shape o (Restorer x ∷ Frame ∷ (region b m).entries) (omega arith) (λ s. omega arith)) refl
    (λ y n _. relist_relies o (Restorer x ∷ Frame ∷ (region b m).entries) y n)
    (λ new old. relist_returns o (Restorer x ∷ Frame ∷ (region b m).entries) (new, (tt, old m)) old)

pub popped_kept : (t m : ℕ) (b next : Book) (l : List Entry) → Owned t m b → (region b m).entries ≡ l → popped m l b ≡ Some next → Keeps t Popped b next
popped_kept t m b next [] o list e = cc
popped_kept t m b next (Call x ∷ es) o list e = cc
popped_kept t m b next (Restorer x ∷ es) o list e = cc
popped_kept t m b next (Frame ∷ es) o list e =
    let is : relist m es b ≡ next = cc in
    let longer : length (region b m).entries ≡ suc (length es) = ap (λ (l : List Entry). length l) list in
    let room = (o.shape.fits m).room in
    kept is (relist_shape o es (omega arith) (λ s. sym (ap (links s) list ∙ omega arith))) refl (λ y n _. relist_relies o es y n)
    (λ _ old. relist_returns o es (older_return b m Frame es list old) old)
popped_kept t m b next (Previous s ∷ es) o list e = cc
popped_kept t m b next (Blank ∷ es) o list e = cc

pub released_kept : (t m : ℕ) (b next : Book) (l : List Entry) → Owned t m b → (region b m).entries ≡ l → released m l b ≡ Some next → Keeps t Released b next
released_kept t m b next [] o list e = cc
released_kept t m b next (Call x ∷ es) o list e = cc
released_kept t m b next (Restorer x ∷ es) o list e = cc
released_kept t m b next (Frame ∷ es) o list e = cc
released_kept t m b next (Previous s ∷ es) o list e =
    let c = if_some (nat_lt (length (region b s).entries) (capacity (region b s))) _ next e in
    let passed : nat_lt (length (region b s).entries) (capacity (region b s)) ≡ true = c.0 in
    let few : length (region b s).entries < capacity (region b s) = grind (arith, nat_tests) in
    let l : Linked t m s es b = record { owned = o; entries = list } in
    let room = room_for (region b s) (length (region b s).entries) (o.shape.bounds s (left_there l)) few in
    let is : unlink m s es Parked b ≡ next = cc in
    let gone : Gone Parked = parked refl in
    kept is (unlink_shape l gone (omega arith)) refl (λ y n _. unlink_relies l gone y n) (λ _. unlink_returns l Parked)
released_kept t m b next (Blank ∷ es) o list e = cc

pub acquired_kept : (t m p : ℕ) (b next : Book) → Owned t m b → acquired t p m b ≡ Some next → Keeps t (Acquired p) b next
acquired_kept t m p b next o e =
    let c = if_some (nat_lt (parked_at p b) (length b.regions)) _ next e in
    let passed : nat_lt (parked_at p b) (length b.regions) ≡ true = c.0 in
    let inside : parked_at p b < length b.regions = grind (arith, nat_tests) in
    let k : Takes t m (parked_at p b) b = record { owned = o; parked = (parked_at_holds p b inside).parked } in
    kept (let s = c.1 in cc) (acquire_shape k) refl (λ y n _. acquire_relies k y n) (λ _. acquire_returns k)

pub ended_kept : (t m : ℕ) (b next : Book) → Owned t m b → ended m (region b m) b ≡ Some next → Keeps t Ended b next
ended_kept t m b next o e = kept (cc) (end_shape o) refl (λ y n _. end_relies o y n) (λ _ old. hand_returns (ends o) (old m) old)

pub seeded_kept : (t s n start : ℕ) (b next : Book) → Shape b → seeded t s n b ≡ Some next → Keeps t (Seeded start n) b next
seeded_kept t s n start b next h e =
    let c = if_some (is_maker t (region b s).holder && nat_lt n (capacity (region b s))) _ next e in
    let d = and_true (is_maker t (region b s).holder) (nat_lt n (capacity (region b s))) c.0 in
    let m : Made t s b = record { shape = h; maker = maker_true t (region b s).holder d.0 } in
    let passed : nat_lt n (capacity (region b s)) ≡ true = d.1 in
    let few : n < capacity (region b s) = grind (arith, nat_tests) in
    let room = room_for (region b s) n (h.bounds s (made_there m)) few in
    kept (let s = c.1 in cc) (seed_shape m n room) refl (λ y ne _. seed_relies m n y ne)
    (λ _. hand_returns (seeds m n) (blanks_return n))

pub born_kept : (t child s start : ℕ) (b next : Book) → Shape b → born t child s b ≡ Some next → Keeps t (Born child start) b next
born_kept t child s start b next h e =
    let c = if_some (is_maker t (region b s).holder && nat_le (length b.regions) (current_of child b)) _ next e in
    let d = and_true (is_maker t (region b s).holder) (nat_le (length b.regions) (current_of child b)) c.0 in
    let m : Made t s b = record { shape = h; maker = maker_true t (region b s).holder d.0 } in
    let passed : nat_le (length b.regions) (current_of child b) ≡ true = d.1 in
    let none : length b.regions ≤ current_of child b = grind (arith, nat_tests) in
    kept (let s = c.1 in cc) (born_shape m child none) refl (λ y n other. born_relies m child y n other)
    (λ _ old. hand_returns (bears m child) (old s) old)

claim_holder : (t start pages : ℕ) (maker : Bool) → ((x : ℕ) × ((claim t start pages maker).holder ≡ Maker x)) ⊎ ((claim t start pages maker).holder ≡ Lost)
claim_holder t start pages true = inl (t, refl)
claim_holder t start pages false = inr refl

pub claims : (t start pages : ℕ) (maker : Bool) (b : Book) → Shape b → Appends (claim t start pages maker) b
claims t start pages maker b h = record { shape = h; empty = refl; holder = claim_holder t start pages maker }

pub claim_bounds : (start pages : ℕ) (b : Book) → Shape b → CanClaim start pages b → Bounds start (start + 4096 * pages)
claim_bounds start pages b h c =
    let least = last_end_low b h in
    let above = c.above in
    record { low = omega arith; full = omega arith; high = c.high; first = c.aligned; last = (let a = c.aligned in omega arith) }

pub claimed_kept : (t start pages : ℕ) (maker : Bool) (b next : Book) → Shape b → claimed t start pages maker b ≡ Some next → Keeps t (Claimed start pages maker) b next
claimed_kept t start pages maker b next h e =
    let c = if_some (can_claim start pages b) _ next e in
    let can = can_claim_true start pages b c.0 in
    kept (let s = c.1 in cc)
    (append_shape (claims t start pages maker b h) (claim_bounds start pages b h can)
    (λ i. let l = end_le_last b h i in let a = can.above in omega arith)) refl
    (λ y n _. append_relies (claims t start pages maker b h) y) (λ _. append_returns (claims t start pages maker b h))

pub returned_kept : (t m : ℕ) (b next : Book) → Owned t m b → returned m (region b m).entries b ≡ Some next → Keeps t Returned b next
returned_kept t m b next o e =
    let removal = returned_is next (region b m).entries o refl e in
    let s = shortened o removal in
    record { shape = s.owned.shape; stacks = s.stacks; others = λ y ne _. removal_relies o removal y ne; returns = λ _. removal_returns o removal }

pub raised_kept : (t m n : ℕ) (b next : Book) → Owned t m b → raised m n b ≡ Some next → Keeps t (Raised n) b next
raised_kept t m n b next o e =
    let s = raised_shortened t m n b next o e in
    record { shape = s.owned.shape; stacks = s.stacks; others = λ y ne _. raised_relies t m n b next o e y ne; returns = λ _. raised_returns t m n b next o e }

-- the book with the region of a thread
owned_by : (t : ℕ) (c : Change) (b next : Book) (f : ℕ → Region → Option Book) → Shape b → with_current t b f ≡ Some next → ((m : ℕ) → Owned t m b → f m (region b m) ≡ Some next → Keeps t c b next) →
    Keeps t c b next
owned_by t change b next f h e keeps =
    let c = with_current_some t b next f e in
    keeps (current_of t b) (owned t b h c.0) c.1

by_regions : (t : ℕ) (c : Change) (b next : Book) → IsBook b → Keeps t c b next → Kept t c b next
by_regions t c b next h k = record {
  book = record { shape = k.shape; stacks = subst StackShape (sym k.stacks) h.stacks };
  holders = same_holders c b.stacks next.stacks k.stacks;
  others = k.others;
  returns = k.returns;
}

busied_kept : (t k : ℕ) (b next : Book) → IsBook b → busied t k b ≡ Some next → Kept t (Busied k) b next
busied_kept t k b next h e =
    let c = if_some (nat_lt k 8 && is_free (stack_of b k) && nat_le (length b.stacks) (held_by t b)) _ next e in
    let d = and_true (nat_lt k 8 && is_free (stack_of b k)) (nat_le (length b.stacks) (held_by t b)) c.0 in
    let f = and_true (nat_lt k 8) (is_free (stack_of b k)) d.0 in
    let below : nat_lt k 8 ≡ true = f.0 in
    let none : nat_le (length b.stacks) (held_by t b) ≡ true = d.1 in
    let inside : k < 8 = grind (arith, nat_tests) in
    let there : k < length b.stacks = (let n = h.stacks.eight in omega arith) in
    let was : stack_of b k ≡ None = free_true (stack_of b k) f.1 in
    let past : length b.stacks ≤ held_by t b = grind (arith, nat_tests) in
    subst (Kept t (Busied k) b) (let s = c.1 in cc) (record {
      book = record { shape = put_stack_shape k (Some t) b h.shape; stacks = busied_stacks t k b h.stacks inside (none_held t b past) };
      holders = tt;
      others = λ y n _. stack_relies y k (Some t) b there (λ z. cc) (λ z. n (cc));
      returns = λ _ old. old;
    })

freed_kept : (t k : ℕ) (b next : Book) → IsBook b → freed t k b ≡ Some next → Kept t (Freed k) b next
freed_kept t k b next h e =
    let c = if_some (holds_stack t (stack_of b k)) _ next e in
    let held = holds_true t (stack_of b k) c.0 in
    subst (Kept t (Freed k) b) (let s = c.1 in cc) (record {
      book = record { shape = put_stack_shape k None b h.shape; stacks = freed_stacks t k b h.stacks held };
      holders = tt;
      others = λ y n _. stack_relies y k None b (stack_there t k b held) (λ z. n (cc)) (λ z. cc);
      returns = λ _ old. old;
    })

pub book_kept : (t : ℕ) (c : Change) (b next : Book) → IsBook b → book_after t b c ≡ Some next → Kept t c b next
book_kept t (Called back) b next h e = by_regions t (Called back) b next h (owned_by t (Called back) b next (λ m r. called back m r b) h.shape e (λ m o f. called_kept t m back b next o f))
book_kept t Returned b next h e = by_regions t Returned b next h (owned_by t Returned b next (λ m r. returned m r.entries b) h.shape e (λ m o f. returned_kept t m b next o f))
book_kept t (Raised n) b next h e = by_regions t (Raised n) b next h (owned_by t (Raised n) b next (λ m r. raised m n b) h.shape e (λ m o f. raised_kept t m n b next o f))
book_kept t (Acquired p) b next h e = by_regions t (Acquired p) b next h (owned_by t (Acquired p) b next (λ m r. acquired t p m b) h.shape e (λ m o f. acquired_kept t m p b next o f))
book_kept t Released b next h e = by_regions t Released b next h (owned_by t Released b next (λ m r. released m r.entries b) h.shape e (λ m o f. released_kept t m b next (region b m).entries o refl f))
book_kept t (Claimed start pages maker) b next h e = by_regions t (Claimed start pages maker) b next h (claimed_kept t start pages maker b next h.shape e)
book_kept t (Seeded start n) b next h e = by_regions t (Seeded start n) b next h (seeded_kept t (starting_at start b) n start b next h.shape e)
book_kept t (Born child start) b next h e = by_regions t (Born child start) b next h (born_kept t child (starting_at start b) start b next h.shape e)
book_kept t (Pushed x) b next h e = by_regions t (Pushed x) b next h (owned_by t (Pushed x) b next (λ m r. pushed x m r b) h.shape e (λ m o f. pushed_kept t m x b next o f))
book_kept t Popped b next h e = by_regions t Popped b next h (owned_by t Popped b next (λ m r. popped m r.entries b) h.shape e (λ m o f. popped_kept t m b next (region b m).entries o refl f))
book_kept t Ended b next h e = by_regions t Ended b next h (owned_by t Ended b next (λ m r. ended m r b) h.shape e (λ m o f. ended_kept t m b next o f))
book_kept t (Busied k) b next h e = busied_kept t k b next h e
book_kept t (Freed k) b next h e = freed_kept t k b next h e

pub books_kept : (t : ℕ) (cs : List Change) (b next : Book) → IsBook b → books_after t b cs ≡ Some next → IsBook next
books_kept t [] b next h e = subst IsBook (cc) h
books_kept t (c ∷ cs) b next h e =
    let step = then_by t (book_after t b c) next cs e in
    books_kept t cs step.0 next (book_kept t c b step.0 h step.1).book step.2

abbrev pub NoneBorn : List Change → ℕ → Type 0
NoneBorn [] y = Unit {0}
NoneBorn (c ∷ cs) y = NotBorn c y × NoneBorn cs y

pub others_rely : (t y : ℕ) (cs : List Change) (b next : Book) → IsBook b → books_after t b cs ≡ Some next → t ≢ y → NoneBorn cs y → Relies y b next
others_rely t y [] b next h e n none = subst (Relies y b) (cc) (relies_same y b)
others_rely t y (c ∷ cs) b next h e n none =
    let step = then_by t (book_after t b c) next cs e in
    let first = book_kept t c b step.0 h step.1 in
    relies_then (first.others y n none.0) (others_rely t y cs step.0 next first.book step.2 n none.1)
