-- A thread comes to a stack by taking it or by its birth alone, so the list of latest stacks is kept. Source: own.
use Rattle.std.proofs.Common.{◌≡◌, ℕ, zero, suc, ◌<◌, ◌≤◌, inl, inr, Bool, true, false, ◌&&◌, List, length, get_or, set, replicate, Option, Some}
use Rattle.std.proofs.Common.{Result, Ok, Err, refl, sym, ◌∙◌, ap, subst, arith, ◌++◌, take, drop, get_or-set_same, get_or-set_other}
use Rattle.std.specs.Prelude.{nat_lt, nat_le}
use Rattle.std.specs.List.{position_or_len}
use Rattle.std.proofs.lemmas.Bool.{false≢true}
use Rattle.std.proofs.lemmas.Bool.Decides.{nat_tests}
use Rattle.std.proofs.lemmas.List.Sums.{position_or_len_is}
use Rattle.cet_words.specs.Change.{Change}
use Rattle.cet_words.specs.Change as change
use Rattle.cet_book.specs.declared.entries.Entry.{Entry}
use Rattle.cet_book.specs.declared.entries.Entry.TheVariants.{Blank}
use Rattle.cet_book.specs.declared.entries.Holder.{Holder}
use Rattle.cet_book.specs.declared.entries.Holder.TheVariants.{Current, Parked, Left, Lost}
use Rattle.cet_book.specs.declared.events.Event.{Event}
use Rattle.cet_book.specs.declared.events.Event.TheVariants as ev
use Rattle.cet_book.specs.declared.events.BookFault.{BookFault}
use Rattle.cet_book.specs.declared.events.BookFault.TheVariants.{NotLegal, NoMemory}
use Rattle.cet_book.specs.Book.{Region, Book, nowhere, region, capacity, is_current, is_maker, current_of, parked_at, has_token, relist, unlink, with_current, seeded, born, acquired, acquire, book_step, first_book}
use Rattle.cet_book.specs.Events.{Applied, book_of}
use Rattle.cet_book.specs.Shape.{IsBook}
use Rattle.cet_book.specs.Latest.{Latest, IsListed}
use Rattle.cet_book.proofs.Edits.{Owned, owned, owned_only, current_true, is_there}
use Rattle.cet_book.proofs.Relist.{relist_holder}
use Rattle.cet_book.proofs.Unlink.{Gone, lost, gone_not, Linked, unlink_all}
use Rattle.cet_book.proofs.Acquire.{parked_at_holds, Takes, acquire_all}
use Rattle.cet_book.proofs.Hand.{hand, hand_all, seeds, bears, ends, Made}
use Rattle.cet_book.proofs.Append.{Appends, append, append_all}
use Rattle.cet_book.proofs.Removes.{Removal, plain, linked, raised_all}
use Rattle.cet_book.proofs.Cases.{if_some, and_true, with_current_some, maker_true}
use Rattle.cet_book.proofs.Edited.{Edited, relists, unlinks, raises, acquires, appends, seeds_region, bears_child, ends_region, busies, frees, edited}
use Rattle.cet_book.proofs.First.{first_is_book}
use Rattle.cet_book.proofs.EventSteps.{applied_kept, back}

-- where the list has no stack of the thread, there is none
not_true : (c : Bool) → (c ≡ true → ⊥) → c ≡ false
not_true false n = refl
not_true true n = absurd (n refl)

pub none_current : (t : ℕ) (R : List Region) (latest : List ℕ) → Latest R latest → is_current t (get_or R (get_or latest t 0) nowhere).holder ≡ false → length R ≡ position_or_len (λ r. is_current t r.holder) R
none_current t R latest list none =
    sym (position_or_len_is (λ r. is_current t r.holder) R (length R) nowhere (omega arith)
    (λ i l. not_true (is_current t (get_or R i nowhere).holder) (λ y. (
    let found : get_or latest t 0 ≡ i = list i t (current_true t (get_or R i nowhere).holder y) in
    let n : is_current t (get_or R i nowhere).holder ≡ false = subst (λ k. is_current t (get_or R k nowhere).holder ≡ false) found none in
    false≢true (sym n ∙ y))))
    (λ l. absurd (omega arith)))

-- ---- no thread comes to a stack

abbrev pub NoneCome : Book → Book → Type 0
NoneCome b next = (i y : ℕ) → (region next i).holder ≡ Current y → (region b i).holder ≡ Current y

abbrev pub Moves : Change → Type 0
Moves (change.Called x) = ⊥
Moves change.Returned = ⊥
Moves (change.Raised x) = ⊥
Moves (change.Acquired x) = Unit {0}
Moves change.Released = ⊥
Moves (change.Claimed x y z) = ⊥
Moves (change.Seeded x y) = ⊥
Moves (change.Born x y) = Unit {0}
Moves (change.Pushed x) = ⊥
Moves change.Popped = ⊥
Moves change.Ended = ⊥
Moves (change.Busied x) = ⊥
Moves (change.Freed x) = ⊥

relist_comes : {t m : ℕ} {b : Book} (o : Owned t m b) (es : List Entry) → NoneCome b (relist m es b)
relist_comes o es i y e = sym (relist_holder o es i) ∙ e

unlink_comes : {t m s : ℕ} {es : List Entry} {b : Book} (l : Linked t m s es b) (g : Holder) → Gone g → NoneCome b (unlink m s es g b)
unlink_comes {b = b} l g d i y = unlink_all l g (λ k r. r.holder ≡ Current y → (region b k).holder ≡ Current y) (λ e. absurd (gone_not g y d e)) (λ e. e) (λ k n n' e. e) i

removal_comes : {t m : ℕ} {b next : Book} → Owned t m b → Removal t m b next → NoneCome b next
removal_comes {b = b} o (plain e es list not_link is) = subst (NoneCome b) is (relist_comes o es)
removal_comes {b = b} o (linked s es l is) = subst (NoneCome b) is (unlink_comes l Lost (lost refl))

append_comes : (r : Region) (b : Book) → Appends r b → NoneCome b (append r b)
append_comes r b a i y = append_all a (λ k q. q.holder ≡ Current y → (region b k).holder ≡ Current y)
    (λ e. elim a.holder [ inl m ↦ (let h = m.1 in cc) | inr l ↦ cc ]) (λ k n e. e) i

seed_comes : {t s : ℕ} {b : Book} (m : Made t s b) (n : ℕ) → NoneCome b (hand s (replicate n Blank) Parked b)
seed_comes {b = b} m n i y = hand_all (seeds m n) (λ k r. r.holder ≡ Current y → (region b k).holder ≡ Current y) (λ e. let c : Parked ≡ Current y = e in cc) (λ k x e. e) i

end_comes : {t m : ℕ} {b : Book} (o : Owned t m b) → NoneCome b (hand m (region b m).entries Lost b)
end_comes {b = b} o i y = hand_all (ends o) (λ k r. r.holder ≡ Current y → (region b k).holder ≡ Current y) (λ e. let c : Lost ≡ Current y = e in cc) (λ k x e. e) i

edit_comes : (t : ℕ) (c : Change) (b next : Book) → (Moves c → ⊥) → Edited t c b next → NoneCome b next
edit_comes t c b next n (relists m es o is) = subst (NoneCome b) is (relist_comes o es)
edit_comes t c b next n (unlinks m s es g link gone is) = subst (NoneCome b) is (unlink_comes link g gone)
edit_comes t c b next n (raises m k o is) =
    raised_all t m (λ _ b next. NoneCome b next) (λ b _ i y e. e)
    (λ _ b mid next o removal rest i y e. removal_comes o removal i y (rest i y e)) k b next o is
edit_comes t c b next n (acquires m p q e k is) = absurd (n (subst Moves (sym e) tt))
edit_comes t c b next n (appends r a is) = subst (NoneCome b) is (append_comes r b a)
edit_comes t c b next n (seeds_region s k start e at m is) = subst (NoneCome b) is (seed_comes m k)
edit_comes t c b next n (bears_child s child start e at m few is) = absurd (n (subst Moves (sym e) tt))
edit_comes t c b next n (ends_region m o is) = subst (NoneCome b) is (end_comes o)
edit_comes t c b next n (busies k e inside free is) = subst (NoneCome b) is (λ i y x. x)
edit_comes t c b next n (frees k e held is) = subst (NoneCome b) is (λ i y x. x)

seeded_comes : (t s n : ℕ) (b next : Book) → IsBook b → seeded t s n b ≡ Some next → NoneCome b next
seeded_comes t s n b next h e =
    let c = if_some (is_maker t (region b s).holder && nat_lt n (capacity (region b s))) _ next e in
    let d = and_true (is_maker t (region b s).holder) (nat_lt n (capacity (region b s))) c.0 in
    let m : Made t s b = record { shape = h.shape; maker = maker_true t (region b s).holder d.0 } in
    let is : hand s (replicate n Blank) Parked b ≡ next = (let x = c.1 in cc) in
    subst (NoneCome b) is (seed_comes m n)

-- an event after which no thread is on a stack that it wasn't on before
abbrev pub Stays : Event → Type 0
Stays (ev.Called t back) = Unit {0}
Stays (ev.Returned t) = Unit {0}
Stays (ev.Raised t n) = Unit {0}
Stays (ev.Acquired t p) = ⊥
Stays (ev.Released t) = Unit {0}
Stays (ev.Claimed t start pages maker) = Unit {0}
Stays (ev.Seeded t s n) = Unit {0}
Stays (ev.Born t child s) = ⊥
Stays (ev.Pushed t x) = Unit {0}
Stays (ev.Popped t) = Unit {0}
Stays (ev.Ended t) = Unit {0}
Stays (ev.Busied t k) = Unit {0}
Stays (ev.Freed t k) = Unit {0}

step_comes : (b next : Book) (e : Event) → IsBook b → Stays e → book_step b e ≡ Some next → NoneCome b next
step_comes b next (ev.Called t back) h s e = edit_comes t (change.Called back) b next (λ z. z) (edited t (change.Called back) b next h e)
step_comes b next (ev.Returned t) h s e = edit_comes t change.Returned b next (λ z. z) (edited t change.Returned b next h e)
step_comes b next (ev.Raised t n) h s e = edit_comes t (change.Raised n) b next (λ z. z) (edited t (change.Raised n) b next h e)
step_comes b next (ev.Acquired t p) h s e = absurd s
step_comes b next (ev.Released t) h s e = edit_comes t change.Released b next (λ z. z) (edited t change.Released b next h e)
step_comes b next (ev.Claimed t start pages maker) h s e = edit_comes t (change.Claimed start pages maker) b next (λ z. z) (edited t (change.Claimed start pages maker) b next h e)
step_comes b next (ev.Seeded t m n) h s e = seeded_comes t m n b next h e
step_comes b next (ev.Born t child m) h s e = absurd s
step_comes b next (ev.Pushed t x) h s e = edit_comes t (change.Pushed x) b next (λ z. z) (edited t (change.Pushed x) b next h e)
step_comes b next (ev.Popped t) h s e = edit_comes t change.Popped b next (λ z. z) (edited t change.Popped b next h e)
step_comes b next (ev.Ended t) h s e = edit_comes t change.Ended b next (λ z. z) (edited t change.Ended b next h e)
step_comes b next (ev.Busied t k) h s e = edit_comes t (change.Busied k) b next (λ z. z) (edited t (change.Busied k) b next h e)
step_comes b next (ev.Freed t k) h s e = edit_comes t (change.Freed k) b next (λ z. z) (edited t (change.Freed k) b next h e)

-- ---- one thread comes to one

pub acquired_latest : (t p m : ℕ) (b next : Book) (latest : List ℕ) → IsBook b → m ≡ position_or_len (has_token p) b.regions → t < length latest →
    with_current t b (λ m r. acquired t p m b) ≡ Some next → Latest b.regions latest → Latest next.regions (set latest t m)
unfolding parked_at
acquired_latest t p m b next latest h at low e old i y =
    let w = with_current_some t b next (λ m r. acquired t p m b) e in
    let test = if_some (nat_lt (parked_at p b) (length b.regions)) _ next w.1 in
    let passed : nat_lt (parked_at p b) (length b.regions) ≡ true = test.0 in
    let inside : parked_at p b < length b.regions = grind (arith, nat_tests) in
    let k : Takes t (current_of t b) (parked_at p b) b = record { owned = owned t b h.shape w.0; parked = (parked_at_holds p b inside).parked } in
    let is : acquire t (current_of t b) (parked_at p b) b ≡ next = (let d = test.1 in cc) in
    subst (λ (n : Book). (region n i).holder ≡ Current y → get_or (set latest t m) y 0 ≡ i) is
    (acquire_all k (λ j r. r.holder ≡ Current y → get_or (set latest t m) y 0 ≡ j)
    (λ c. let u : t ≡ y = cc in subst (λ n. get_or (set latest t m) n 0 ≡ parked_at p b) u (get_or-set_same latest t m 0 low ∙ at))
    (λ c. let z : Left (parked_at p b) ≡ Current y = c in cc)
    (λ j n n' c. get_or-set_other latest t y m 0 (λ u. n' (owned_only k.owned j (c ∙ ap Current u))) ∙ old j y c) i)

pub born_latest : (t child s : ℕ) (b next : Book) (latest : List ℕ) → IsBook b → child < length latest → born t child s b ≡ Some next → Latest b.regions latest → Latest next.regions (set latest child s)
born_latest t child s b next latest h low e old i y =
    let c = if_some (is_maker t (region b s).holder && nat_le (length b.regions) (current_of child b)) _ next e in
    let d = and_true (is_maker t (region b s).holder) (nat_le (length b.regions) (current_of child b)) c.0 in
    let m : Made t s b = record { shape = h.shape; maker = maker_true t (region b s).holder d.0 } in
    let passed : nat_le (length b.regions) (current_of child b) ≡ true = d.1 in
    let none : length b.regions ≤ current_of child b = grind (arith, nat_tests) in
    let is : hand s (region b s).entries (Current child) b ≡ next = (let x = c.1 in cc) in
    subst (λ (n : Book). (region n i).holder ≡ Current y → get_or (set latest child s) y 0 ≡ i) is
    (hand_all (bears m child) (λ j r. r.holder ≡ Current y → get_or (set latest child s) y 0 ≡ j)
    (λ x. let u : child ≡ y = cc in subst (λ n. get_or (set latest child s) n 0 ≡ s) u (get_or-set_same latest child s 0 low))
    (λ j n x. get_or-set_other latest child y s 0 (λ u.
    let on : (region b j).holder ≡ Current child = x ∙ ap Current u in
    let found = h.shape.alone child j on in
    let inside = is_there b j (λ z. cc) in
    (omega arith)) ∙ old j y x) i)

-- ---- whatever the answer

came : (old new : Book) (latest : List ℕ) → NoneCome old new → Latest old.regions latest → Latest new.regions latest
came old new latest c l i t e = l i t (c i t e)

latest_kept : (result : Result (Unit {0}) BookFault) (old new : Book) (e : Event) (latest : List ℕ) → IsBook old → Stays e → Applied result old new (book_step old e) → Latest old.regions latest → Latest new.regions latest
latest_kept (Ok u) old new e latest h s a l = came old new latest (step_comes old new e h s a) l
latest_kept (Err NotLegal) old new e latest h s a l = subst (λ (b : Book). Latest b.regions latest) (sym a.1) l
latest_kept (Err NoMemory) old new e latest h s a l = subst (λ (b : Book). Latest b.regions latest) (sym a.1) l

-- of regions that were lent as a list
pub kept_list : (result : Result (Unit {0}) BookFault) (old new : List Region) (g : List (Option ℕ)) (latest : List ℕ) (e : Event) → IsListed old g latest → Stays e →
    Applied result (book_of old g) (book_of new g) (book_step (book_of old g) e) → IsListed new g latest
kept_list result old new g latest e h s a = record {
  book = applied_kept result (book_of old g) (book_of new g) e h.book a;
  list = latest_kept result (book_of old g) (book_of new g) e latest h.book s a h.list;
}

-- of supervisor stacks
pub kept_gates : (result : Result (Unit {0}) BookFault) (old new : List (Option ℕ)) (R : List Region) (latest : List ℕ) (e : Event) → IsListed R old latest →
    Applied result (book_of R old) (book_of R new) (book_step (book_of R old) e) → IsListed R new latest
kept_gates result old new R latest e h a = record { book = applied_kept result (book_of R old) (book_of R new) e h.book a; list = h.list }

-- of regions that were lent as a slice, with a list that may be another one
pub kept_moved : (result : Result (Unit {0}) BookFault) (n : ℕ) (new lent old : List Region) (g : List (Option ℕ)) (latest after : List ℕ) (e : Event) → IsListed old g latest → lent ≡ old →
    length new ≡ length lent → n ≡ length old → Applied result (book_of lent g) (book_of new g) (book_step (book_of lent g) e) → Latest new after →
    IsListed (take n (new ++ drop (length new) old)) g after
kept_moved result n new lent old g latest after e h q l m a listed =
    let long : length new ≡ length old = l ∙ ap (λ (x : List Region). length x) q in
    subst (λ x. IsListed x g after) (sym (back n new old long m))
    (record { book = applied_kept result (book_of lent g) (book_of new g) e (subst (λ x. IsBook (book_of x g)) (sym q) h.book) a; list = listed })

pub kept_back : (result : Result (Unit {0}) BookFault) (n : ℕ) (new lent old : List Region) (g : List (Option ℕ)) (latest : List ℕ) (e : Event) → IsListed old g latest → Stays e → lent ≡ old →
    length new ≡ length lent → n ≡ length old → Applied result (book_of lent g) (book_of new g) (book_step (book_of lent g) e) → IsListed (take n (new ++ drop (length new) old)) g latest
kept_back result n new lent old g latest e h s q l m a =
    kept_moved result n new lent old g latest latest e h q l m a
    (latest_kept result (book_of lent g) (book_of new g) e latest (subst (λ x. IsBook (book_of x g)) (sym q) h.book) s a (subst (λ x. Latest x latest) (sym q) h.list))

-- ---- at the start

zeros : (n t : ℕ) → get_or {A = ℕ} (replicate {A = ℕ} n 0) t 0 ≡ 0
zeros zero t = refl
zeros (suc n) zero = refl
zeros (suc n) (suc t) = zeros n t

first_latest : Latest first_book.regions (replicate 256 0)
first_latest zero t e = zeros 256 t
first_latest (suc i) t e = (let c : Lost ≡ Current t = e in cc)

pub first_listed : IsListed first_book.regions first_book.stacks (replicate 256 0)
first_listed = record { book = first_is_book; list = first_latest }
