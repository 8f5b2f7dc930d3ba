-- Where a change has a book after it, and which. Source: own.
use Rattle.std.proofs.Common.{◌≡◌, ◌≢◌, ℕ, ◌+◌, ◌*◌, ◌<◌, ◌≤◌, Bool, true, false, List, ◌∷◌, length, replicate, Option, Some, None, refl, sym, ◌∙◌, ap, cond, eqb, arith}
use Rattle.std.specs.Prelude.{nat_lt, nat_le}
use Rattle.std.proofs.lemmas.Bool.{false≢true}
use Rattle.std.proofs.lemmas.Bool.Decides.{nat_tests}
use Rattle.std.proofs.lemmas.List.Sums.{position_or_len_is}
use Rattle.cet_words.specs.Change.{Called, Returned, Raised, Acquired, Released, Claimed, Seeded, Born, Pushed, Popped, Ended, Busied, Freed}
use Rattle.cet_book.specs.declared.entries.Entry.{Entry}
use Rattle.cet_book.specs.declared.entries.Entry.TheVariants.{Call, Restorer, Frame, Previous, Blank}
use Rattle.cet_book.specs.declared.entries.Holder.{Holder}
use Rattle.cet_book.specs.declared.entries.Holder.TheVariants.{Maker, Current, Parked, Lost}
use Rattle.cet_book.specs.Book.{Region, Book, nowhere, region, capacity, top, is_maker, has_token, current_of, called, pushed, ended, popped, returned, acquired, parked_at}
use Rattle.cet_book.specs.Book.{starting_at, held_by, stack_of, put_stack, is_free, with_current, relist, unlink, acquire, raised, released, claim, book_after}
use Rattle.cet_book.specs.Facts.{is_previous, IsParkedAt}
use Rattle.cet_book.specs.Shape.{Shape}
use Rattle.cet_book.proofs.Edits.{Owned, owned_there, is_there}
use Rattle.cet_book.proofs.Unlink.{Linked}
use Rattle.cet_book.proofs.Acquire.{has_token_true, has_token-true, parked_fits, Takes, taken_there}
use Rattle.cet_book.proofs.Hand.{hand, Made, made_there}
use Rattle.cet_book.proofs.Append.{append}
use Rattle.cet_book.proofs.Removes.{raised_some}
use Rattle.cet_book.proofs.Supervisor.{holds_stack-true, held_none}
use Rattle.cet_book.proofs.Cases.{CanClaim}

-- the region that is current on a thread is the one that is found
pub with_current_at : {t m : ℕ} {b : Book} → Owned t m b → (f : ℕ → Region → Option Book) → with_current t b f ≡ f m (region b m)
with_current_at {t = t} {m = m} {b = b} o f =
    let found : current_of t b ≡ m = o.shape.alone t m o.current in
    let inside = owned_there o in
    let passed : nat_lt m (length b.regions) ≡ true = grind (arith, nat_tests) in
    rw (found, passed)

-- room for n entries and one more
pub has_room : (r : Region) (n : ℕ) → r.start + 8 * n + 8 ≤ r.end → nat_lt n (capacity r) ≡ true
has_room r n l = let few : n < capacity r = omega arith in grind (arith, nat_tests)

if_true : (c : Bool) (next : Book) → c ≡ true → cond c (Some next) None ≡ Some next
if_true c next e = rw e

pub called_way : {t m : ℕ} {b : Book} → Owned t m b → (back : ℕ) → (region b m).start + 8 * length (region b m).entries + 8 ≤ (region b m).end →
    book_after t b (Called back) ≡ Some (relist m (Call back ∷ (region b m).entries) b)
called_way {m = m} {b = b} o back room =
    with_current_at o (λ m r. called back m r b) ∙ if_true _ _ (has_room (region b m) (length (region b m).entries) room)

pub pushed_way : {t m : ℕ} {b : Book} → Owned t m b → (x : ℕ) → (region b m).start + 8 * length (region b m).entries + 16 ≤ (region b m).end →
    book_after t b (Pushed x) ≡ Some (relist m (Restorer x ∷ Frame ∷ (region b m).entries) b)
pushed_way {m = m} {b = b} o x room =
    let few : length (region b m).entries + 2 ≤ capacity (region b m) = omega arith in
    let passed : nat_le (length (region b m).entries + 2) (capacity (region b m)) ≡ true = grind (arith, nat_tests) in
    with_current_at o (λ m r. pushed x m r b) ∙ if_true _ _ passed

pub raised_way : {t m : ℕ} {b : Book} → Owned t m b → (n : ℕ) → n ≤ length (region b m).entries → (next : Book) × (book_after t b (Raised n) ≡ Some next) × (raised m n b ≡ Some next)
raised_way {t = t} {m = m} {b = b} o n few =
    let some = raised_some t m n b o few in
    (some.0, with_current_at o (λ m r. raised m n b) ∙ some.1, some.1)

pub ended_way : {t m : ℕ} {b : Book} → Owned t m b → book_after t b Ended ≡ Some (hand m (region b m).entries Lost b)
ended_way {b = b} o = with_current_at o (λ m r. ended m r b)

pub released_way : {t m s : ℕ} {es : List Entry} {b : Book} → Linked t m s es b → (region b s).start + 8 * length (region b s).entries + 8 ≤ (region b s).end → book_after t b Released ≡ Some (unlink m s es Parked b)
released_way {m = m} {s = s} {es = es} {b = b} l room =
    with_current_at l.owned (λ m r. released m r.entries b) ∙ ap (λ es. released m es b) l.entries ∙
    if_true _ _ (has_room (region b s) (length (region b s).entries) room)

pub popped_way : {t m : ℕ} {b : Book} → Owned t m b → (es : List Entry) → (region b m).entries ≡ Frame ∷ es → book_after t b Popped ≡ Some (relist m es b)
popped_way {m = m} {b = b} o es list = with_current_at o (λ m r. popped m r.entries b) ∙ ap (λ es. popped m es b) list

-- a return removes the newest entry, unless it is a frame's
pub returned_linked : {t m s : ℕ} {es : List Entry} {b : Book} → Linked t m s es b → book_after t b Returned ≡ Some (unlink m s es Lost b)
returned_linked {m = m} {b = b} l = with_current_at l.owned (λ m r. returned m r.entries b) ∙ ap (λ es. returned m es b) l.entries

pub returned_plain : {t m : ℕ} {b : Book} → Owned t m b → (e : Entry) (es : List Entry) → (region b m).entries ≡ e ∷ es → e ≢ Frame → ((s : ℕ) → is_previous s e ≡ false) →
    book_after t b Returned ≡ Some (relist m es b)
returned_plain {m = m} {b = b} o (Call x) es list n l = with_current_at o (λ m r. returned m r.entries b) ∙ ap (λ es. returned m es b) list
returned_plain {m = m} {b = b} o (Restorer x) es list n l = with_current_at o (λ m r. returned m r.entries b) ∙ ap (λ es. returned m es b) list
returned_plain {m = m} {b = b} o Frame es list n l = absurd (n refl)
returned_plain {m = m} {b = b} o (Previous s) es list n l = absurd (let same : eqb s s ≡ true = grind (arith, nat_tests) in false≢true (sym (l s) ∙ same))
returned_plain {m = m} {b = b} o Blank es list n l = with_current_at o (λ m r. returned m r.entries b) ∙ ap (λ es. returned m es b) list

not_passed : (c : Bool) → (c ≡ true → ⊥) → c ≡ false
not_passed true n = absurd (n refl)
not_passed false n = refl

-- no two regions are parked with one token, since regions lie apart
pub parked_at_is : (p : ℕ) (b : Book) (i : ℕ) → Shape b → IsParkedAt p (region b i) → parked_at p b ≡ i
unfolding parked_at
parked_at_is p b i h x =
    let inside : i < length b.regions = is_there b i (λ e. let c = x.parked in cc) in
    position_or_len_is (has_token p) b.regions i nowhere (omega arith)
    (λ j before. not_passed (has_token p (region b j)) (λ e.
    let y = has_token_true p (region b j) e in
    let apart = h.apart j i before inside in
    let room = parked_fits (region b i) (h.fits i) x.parked in
    let there = x.top_is in
    let other = y.top_is in
    omega arith))
    (λ _. has_token-true p (region b i) x)

-- no two regions start at one address
pub starting_at_is : (start : ℕ) (b : Book) (i : ℕ) → Shape b → i < length b.regions → (region b i).start ≡ start → starting_at start b ≡ i
unfolding starting_at
starting_at_is start b i h inside e =
    position_or_len_is (λ r. eqb r.start start) b.regions i nowhere (omega arith)
    (λ j before.
    let apart = h.apart j i before inside in
    let full = (h.bounds j (omega arith)).full in
    let n : (region b j).start ≢ start = omega arith in
    grind (arith, nat_tests))
    (λ _. grind (arith, nat_tests))

-- a restore token at p is taken exactly where a parked region has its token there
pub acquired_way : {t m q : ℕ} {b : Book} → (k : Takes t m q b) → (p : ℕ) → top (region b q) ≡ p + 8 → book_after t b (Acquired p) ≡ Some (acquire t m q b)
acquired_way {t = t} {m = m} {q = q} {b = b} k p at =
    let found : parked_at p b ≡ q = parked_at_is p b q k.owned.shape (record { parked = k.parked; top_is = at }) in
    let inside = taken_there k in
    let passed : nat_lt q (length b.regions) ≡ true = grind (arith, nat_tests) in
    with_current_at k.owned (λ m r. acquired t p m b) ∙ rw (found, passed)

pub claimed_way : (t start pages : ℕ) (maker : Bool) (b : Book) → CanClaim start pages b → book_after t b (Claimed start pages maker) ≡ Some (append (claim t start pages maker) b)
claimed_way t start pages maker b c = if_true _ _ (grind (arith, nat_tests))

maker-true : (t : ℕ) (h : Holder) → h ≡ Maker t → is_maker t h ≡ true
maker-true t h e = ap (is_maker t) e ∙ grind (arith, nat_tests)

pub seeded_way : {t s : ℕ} {b : Book} → Made t s b → (n start : ℕ) → (region b s).start ≡ start → (region b s).start + 8 * n + 8 ≤ (region b s).end →
    book_after t b (Seeded start n) ≡ Some (hand s (replicate n Blank) Parked b)
seeded_way {t = t} {s = s} {b = b} m n start at room =
    let found : starting_at start b ≡ s = starting_at_is start b s m.shape (made_there m) at in
    rw found (if_true _ _ (let a = maker-true t (region b s).holder m.maker in let c = has_room (region b s) n room in rw (a, c)))

pub born_way : {t s : ℕ} {b : Book} → Made t s b → (child start : ℕ) → (region b s).start ≡ start → length b.regions ≤ current_of child b →
    book_after t b (Born child start) ≡ Some (hand s (region b s).entries (Current child) b)
born_way {t = t} {s = s} {b = b} m child start at none =
    let found : starting_at start b ≡ s = starting_at_is start b s m.shape (made_there m) at in
    let passed : nat_le (length b.regions) (current_of child b) ≡ true = grind (arith, nat_tests) in
    rw found (if_true _ _ (let a = maker-true t (region b s).holder m.maker in rw (a, passed)))

pub freed_way : (t k : ℕ) (b : Book) → stack_of b k ≡ Some t → book_after t b (Freed k) ≡ Some (put_stack b k None)
freed_way t k b held = if_true _ _ (holds_stack-true t (stack_of b k) held)

pub busied_way : (t k : ℕ) (b : Book) → k < 8 → stack_of b k ≡ None → ((j : ℕ) → stack_of b j ≢ Some t) → book_after t b (Busied k) ≡ Some (put_stack b k (Some t))
busied_way t k b inside free none =
    let past : length b.stacks ≤ held_by t b = held_none t b none in
    let passed : nat_le (length b.stacks) (held_by t b) ≡ true = grind (arith, nat_tests) in
    let below : nat_lt k 8 ≡ true = grind (arith, nat_tests) in
    if_true _ _ (let a : is_free (stack_of b k) ≡ true = ap is_free free in rw (below, a, passed))
