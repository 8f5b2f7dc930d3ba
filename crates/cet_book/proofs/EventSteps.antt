-- The book's step, event by event, over the tests and the changes that the code makes. Source: own.
use Rattle.std.proofs.Common.{◌≡◌, ◌≢◌, ◌^◌, inl, inr, ℕ, zero, suc, ◌+◌, ◌-◌, ◌<◌, ◌≤◌, Bool, true, false, List, [], ◌∷◌, length, get_or, set, Option, Some, None, Result, Ok, Err}
use Rattle.std.proofs.Common.{refl, sym, ◌∙◌, ap, subst, cond, arith, drop, take, ◌++◌, append-nil, length-set, get_or-set_same, get_or-set_other, drop_of_length-le}
use Rattle.std.specs.Prelude.{nat_lt, nat_le, ◌==◌, slice_get, option_and_then}
use Rattle.std.proofs.Math.Seq.{take-length}
use Rattle.std.specs.List.{position_or_len}
use Rattle.std.specs.Result.{IsErrAnd}
use Rattle.std.proofs.lemmas.List.{get_or_past}
use Rattle.std.proofs.lemmas.Bool.Decides.{nat_tests}
use Rattle.cet_book.specs.declared.entries.Entry.{Entry}
use Rattle.cet_book.specs.declared.entries.Entry.TheVariants.{Call, Restorer, Frame, Previous, Blank}
use Rattle.cet_book.specs.declared.entries.Holder.{Holder}
use Rattle.cet_book.specs.Book.{book_step, Region, Book, nowhere, capacity, is_current, current_of, with_current, with_entry, called, returned, popped, raised, pushed, released, is_maker}
use Rattle.cet_book.specs.Book.{born, can_claim, claim, claimed, acquired, acquire, parked_at, has_token, top, holds_stack, held_by, is_free, busied, remove_entry, unlink}
use Rattle.cet_book.specs.declared.entries.Holder.TheVariants.{Parked, Current, Lost}
use Rattle.cet_book.proofs.Edits.{current_holds}
use Rattle.cet_book.proofs.Acquire.{parked_at_holds}
use Rattle.std.proofs.lemmas.Bool.{cases_lt}
use Rattle.cet_words.specs.Layout.{first_region_start}
use Rattle.cet_words.specs.Change as change
use Rattle.cet_book.specs.Shape.{StackShape, IsBook, HolderFits}
use Rattle.cet_book.specs.Facts.{links, one, is_left}
use Rattle.cet_book.proofs.Kept.{book_kept, seeded_kept, born_kept}
use Rattle.cet_book.specs.declared.events.Event.{Event}
use Rattle.cet_book.specs.declared.events.Event.TheVariants as ev
use Rattle.cet_book.specs.Events.{book_of, Applied}
use Rattle.cet_book.specs.Newest.{removed, handed, can_return, is_frame, leads_to}
use Rattle.cet_book.specs.declared.events.BookFault.{BookFault}
use Rattle.cet_book.specs.declared.events.BookFault.TheVariants.{NotLegal, NoMemory}

pub with_none : (t at : ℕ) (R : List Region) (g : List (Option ℕ)) (f : ℕ → Region → Option Book) → at ≡ position_or_len (λ r. is_current t r.holder) R → length R ≤ at → with_current t (book_of R g) f ≡ None
unfolding current_of
with_none t at R g f e l = let n : nat_lt at (length R) ≡ false = grind (arith, nat_tests) in rw (← e, n) refl

pub with_some : (t at : ℕ) (R : List Region) (g : List (Option ℕ)) (f : ℕ → Region → Option Book) → at ≡ position_or_len (λ r. is_current t r.holder) R → at < length R →
    with_current t (book_of R g) f ≡ f at (get_or R at nowhere)
unfolding current_of
with_some t at R g f e l = let n : nat_lt at (length R) ≡ true = grind (arith, nat_tests) in rw (← e, n) refl

lt_le : (a b : ℕ) → nat_lt a b ≡ nat_le (a + 1) b
lt_le a b = elim (nat_le (a + 1) b) as (λ (c : Bool). nat_le (a + 1) b ≡ c → nat_lt a b ≡ c) [ true ↦ λ e. grind (arith, nat_tests) | false ↦ λ e. grind (arith, nat_tests) ] refl

pub no_memory : (result : Result (Unit {0}) BookFault) (old new : Book) (next : Option Book) (b : Book) → IsErrAnd result (λ e. e ≡ NoMemory) → new ≡ old → next ≡ Some b → Applied result old new next
no_memory (Ok u) old new next b e is f = absurd e
no_memory (Err fault) old new next b e is f = subst (λ z. Applied (Err z) old new next) (sym e) (λ n. cc, is)

-- ---- one entry less

removed_at : (R : List Region) (m : ℕ) (h : Holder) (l : List Entry) → (get_or R m nowhere).entries ≡ l → removed m h R ≡ handed (slice_get l 0) h (set R m (record (get_or R m nowhere) { entries = drop 1 l }))
removed_at R m h l e = ap (λ (x : List Entry). handed (slice_get x 0) h (set R m (record (get_or R m nowhere) { entries = drop 1 x }))) e

not_self : (m s : ℕ) (es : List Entry) → links m (Previous s ∷ es) ≡ 0 → s ≢ m
not_self m s es n u = let t : (s == m) ≡ true = grind (arith, nat_tests) in let o : one (s == m) ≡ 1 = ap one t in absurd (omega arith)

unlinked : (m s : ℕ) (R : List Region) (g : List (Option ℕ)) (es : List Entry) (h : Holder) → (get_or R m nowhere).entries ≡ Previous s ∷ es → links m (Previous s ∷ es) ≡ 0 →
    Some (unlink m s es h (book_of R g)) ≡ Some (book_of (removed m h R) g)
unlinked m s R g es h e n =
    let mid : List Region = set R m (record (get_or R m nowhere) { entries = es }) in
    let other = get_or-set_other R m s (record (get_or R m nowhere) { entries = es }) nowhere (not_self m s es n) in
    ap (λ (r : Region). Some (book_of (set mid s (record r { holder = h })) g)) (sym other) ∙ ap (λ x. Some (book_of x g)) (sym (removed_at R m h (Previous s ∷ es) e))

-- ---- events whose test has an answer

pub called_step : (t back at : ℕ) (R : List Region) (g : List (Option ℕ)) (c : Bool) → at ≡ position_or_len (λ r. is_current t r.holder) R → at < length R →
    nat_le (length (get_or R at nowhere).entries + 1) (capacity (get_or R at nowhere)) ≡ c →
    with_current t (book_of R g) (λ m r. called back m r (book_of R g)) ≡ cond c (Some (book_of (set R at (with_entry (Call back) (get_or R at nowhere))) g)) None
called_step t back at R g c e l p =
    with_some t at R g (λ m r. called back m r (book_of R g)) e l ∙
    rw (lt_le (length (get_or R at nowhere).entries) (capacity (get_or R at nowhere)), p) refl

pub popped_step : (m : ℕ) (R : List Region) (g : List (Option ℕ)) (l : List Entry) (c : Bool) → (get_or R m nowhere).entries ≡ l → is_frame (slice_get l 0) ≡ c →
    popped m l (book_of R g) ≡ cond c (Some (book_of (removed m Lost R) g)) None
popped_step m R g [] c e f = ap (λ d. cond d (Some (book_of (removed m Lost R) g)) None) f
popped_step m R g (Call x ∷ es) c e f = ap (λ d. cond d (Some (book_of (removed m Lost R) g)) None) f
popped_step m R g (Restorer x ∷ es) c e f = ap (λ d. cond d (Some (book_of (removed m Lost R) g)) None) f
popped_step m R g (Frame ∷ es) c e f = ap (λ x. Some (book_of x g)) (sym (removed_at R m Lost (Frame ∷ es) e)) ∙ ap (λ d. cond d (Some (book_of (removed m Lost R) g)) None) f
popped_step m R g (Previous s ∷ es) c e f = ap (λ d. cond d (Some (book_of (removed m Lost R) g)) None) f
popped_step m R g (Blank ∷ es) c e f = ap (λ d. cond d (Some (book_of (removed m Lost R) g)) None) f

pub returned_step : (m : ℕ) (R : List Region) (g : List (Option ℕ)) (l : List Entry) (c : Bool) → (get_or R m nowhere).entries ≡ l → links m l ≡ 0 → can_return (slice_get l 0) ≡ c →
    returned m l (book_of R g) ≡ cond c (Some (book_of (removed m Lost R) g)) None
returned_step m R g [] c e n f = ap (λ d. cond d (Some (book_of (removed m Lost R) g)) None) f
returned_step m R g (Call x ∷ es) c e n f = ap (λ x. Some (book_of x g)) (sym (removed_at R m Lost (Call x ∷ es) e)) ∙ ap (λ d. cond d (Some (book_of (removed m Lost R) g)) None) f
returned_step m R g (Restorer x ∷ es) c e n f = ap (λ x. Some (book_of x g)) (sym (removed_at R m Lost (Restorer x ∷ es) e)) ∙ ap (λ d. cond d (Some (book_of (removed m Lost R) g)) None) f
returned_step m R g (Frame ∷ es) c e n f = ap (λ d. cond d (Some (book_of (removed m Lost R) g)) None) f
returned_step m R g (Previous s ∷ es) c e n f = unlinked m s R g es Lost e n ∙ ap (λ d. cond d (Some (book_of (removed m Lost R) g)) None) f
returned_step m R g (Blank ∷ es) c e n f = ap (λ x. Some (book_of x g)) (sym (removed_at R m Lost (Blank ∷ es) e)) ∙ ap (λ d. cond d (Some (book_of (removed m Lost R) g)) None) f

pub pushed_step : (t x at : ℕ) (R : List Region) (g : List (Option ℕ)) (c : Bool) → at ≡ position_or_len (λ r. is_current t r.holder) R → at < length R →
    nat_le (length (get_or R at nowhere).entries + 2) (capacity (get_or R at nowhere)) ≡ c →
    with_current t (book_of R g) (λ m r. pushed x m r (book_of R g)) ≡ cond c (Some (book_of (set R at (with_entry (Restorer x) (with_entry Frame (get_or R at nowhere)))) g)) None
pushed_step t x at R g c e l p = with_some t at R g (λ m r. pushed x m r (book_of R g)) e l ∙ rw p refl

-- nothing was left for the stack, so nothing is parked
pub released_none : (m none : ℕ) (R : List Region) (g : List (Option ℕ)) (l : List Entry) → length R ≤ none → length R ≤ leads_to (slice_get l 0) none → released m l (book_of R g) ≡ None
released_none m none R g [] n k = refl
released_none m none R g (Call x ∷ es) n k = refl
released_none m none R g (Restorer x ∷ es) n k = refl
released_none m none R g (Frame ∷ es) n k = refl
released_none m none R g (Blank ∷ es) n k = refl
released_none m none R g (Previous s ∷ es) n k = let e = get_or_past R s nowhere k in rw e refl

pub released_step : (m none : ℕ) (R : List Region) (g : List (Option ℕ)) (l : List Entry) (c : Bool) → length R ≤ none → leads_to (slice_get l 0) none < length R → (get_or R m nowhere).entries ≡ l →
    links m l ≡ 0 → nat_le (length (get_or R (leads_to (slice_get l 0) none) nowhere).entries + 1) (capacity (get_or R (leads_to (slice_get l 0) none) nowhere)) ≡ c →
    released m l (book_of R g) ≡ cond c (Some (book_of (removed m Parked R) g)) None
released_step m none R g [] c n k e z f = absurd (omega arith)
released_step m none R g (Call x ∷ es) c n k e z f = absurd (omega arith)
released_step m none R g (Restorer x ∷ es) c n k e z f = absurd (omega arith)
released_step m none R g (Frame ∷ es) c n k e z f = absurd (omega arith)
released_step m none R g (Blank ∷ es) c n k e z f = absurd (omega arith)
released_step m none R g (Previous s ∷ es) c n k e z f =
    ap (λ d. cond d (Some (unlink m s es Parked (book_of R g))) None) (lt_le (length (get_or R s nowhere).entries) (capacity (get_or R s nowhere)) ∙ f) ∙
    ap (λ o. cond c o None) (unlinked m s R g es Parked e z)

pub born_step : (t child s at : ℕ) (R : List Region) (g : List (Option ℕ)) (c : Bool) → is_maker t (get_or R s nowhere).holder ≡ true → at ≡ position_or_len (λ r. is_current child r.holder) R →
    nat_le (length R) at ≡ c → born t child s (book_of R g) ≡ cond c (Some (book_of (set R s (record (get_or R s nowhere) { holder = Current child })) g)) None
unfolding current_of
born_step t child s at R g c m e l = rw (m, ← e, l) refl

pub born_none : (t child s : ℕ) (R : List Region) (g : List (Option ℕ)) → is_maker t (get_or R s nowhere).holder ≡ false → born t child s (book_of R g) ≡ None
born_none t child s R g m = rw m refl

pub busied_step : (t k at : ℕ) (R : List Region) (g : List (Option ℕ)) (c : Bool) → k < 8 → is_free (get_or g k None) ≡ true → at ≡ position_or_len (holds_stack t) g → nat_le (length g) at ≡ c →
    busied t k (book_of R g) ≡ cond c (Some (book_of R (set g k (Some t)))) None
unfolding held_by
busied_step t k at R g c l f e n = let b : nat_lt k 8 ≡ true = grind (arith, nat_tests) in rw (b, f, ← e, n) refl

pub claimed_step : (t start pages : ℕ) (maker : Bool) (R : List Region) (g : List (Option ℕ)) (c d : Bool) → d ≡ can_claim start pages (book_of R g) → d ≡ c →
    claimed t start pages maker (book_of R g) ≡ cond c (Some (book_of (R ++ claim t start pages maker ∷ []) g)) None
claimed_step t start pages maker R g c d e f = ap (λ x. cond x (Some (book_of (R ++ claim t start pages maker ∷ []) g)) None) (sym e ∙ f)

-- ---- some entries less
pub remove_step : (m : ℕ) (R : List Region) (g : List (Option ℕ)) (e : Entry) (es : List Entry) → (get_or R m nowhere).entries ≡ e ∷ es → links m (e ∷ es) ≡ 0 →
    remove_entry m (e ∷ es) (book_of R g) ≡ Some (book_of (removed m Lost R) g)
remove_step m R g (Call x) es e n = ap (λ x. Some (book_of x g)) (sym (removed_at R m Lost (Call x ∷ es) e))
remove_step m R g (Restorer x) es e n = ap (λ x. Some (book_of x g)) (sym (removed_at R m Lost (Restorer x ∷ es) e))
remove_step m R g Frame es e n = ap (λ x. Some (book_of x g)) (sym (removed_at R m Lost (Frame ∷ es) e))
remove_step m R g (Previous s) es e n = unlinked m s R g es Lost e n
remove_step m R g Blank es e n = ap (λ x. Some (book_of x g)) (sym (removed_at R m Lost (Blank ∷ es) e))

older : (m : ℕ) (h : Holder) (R : List Region) (e : Entry) (es : List Entry) → m < length R → (get_or R m nowhere).entries ≡ e ∷ es → links m (e ∷ es) ≡ 0 →
    (get_or (handed (Some e) h (set R m (record (get_or R m nowhere) { entries = es }))) m nowhere).entries ≡ es
older m h R (Call x) es l e n = ap (λ (r : Region). r.entries) (get_or-set_same R m (record (get_or R m nowhere) { entries = es }) nowhere l)
older m h R (Restorer x) es l e n = ap (λ (r : Region). r.entries) (get_or-set_same R m (record (get_or R m nowhere) { entries = es }) nowhere l)
older m h R Frame es l e n = ap (λ (r : Region). r.entries) (get_or-set_same R m (record (get_or R m nowhere) { entries = es }) nowhere l)
older m h R Blank es l e n = ap (λ (r : Region). r.entries) (get_or-set_same R m (record (get_or R m nowhere) { entries = es }) nowhere l)
older m h R (Previous s) es l e n =
    let mid : List Region = set R m (record (get_or R m nowhere) { entries = es }) in
    let other : m ≢ s = (λ u. not_self m s es n (sym u)) in
    ap (λ (r : Region). r.entries) (get_or-set_other mid s m (record (get_or mid s nowhere) { holder = h }) nowhere other ∙ get_or-set_same R m (record (get_or R m nowhere) { entries = es }) nowhere l)

pub removed_entries : (m : ℕ) (h : Holder) (R : List Region) (e : Entry) (es : List Entry) → m < length R → (get_or R m nowhere).entries ≡ e ∷ es → links m (e ∷ es) ≡ 0 → (get_or (removed m h R) m nowhere).entries ≡ es
removed_entries m h R e es l is n = ap (λ (x : List Region). (get_or x m nowhere).entries) (removed_at R m h (e ∷ es) is) ∙ older m h R e es l is n

same_length : (o : Option Entry) (m : ℕ) (h : Holder) (R : List Region) → length (handed o h R) ≡ length R
same_length None m h R = refl
same_length (Some (Call x)) m h R = refl
same_length (Some (Restorer x)) m h R = refl
same_length (Some Frame) m h R = refl
same_length (Some (Previous s)) m h R = length-set R s (record (get_or R s nowhere) { holder = h })
same_length (Some Blank) m h R = refl

pub removed_length : (m : ℕ) (h : Holder) (R : List Region) → length (removed m h R) ≡ length R
removed_length m h R = same_length (slice_get (get_or R m nowhere).entries 0) m h (set R m (record (get_or R m nowhere) { entries = drop 1 (get_or R m nowhere).entries })) ∙
    length-set R m (record (get_or R m nowhere) { entries = drop 1 (get_or R m nowhere).entries })

pub fewer_links : (m : ℕ) (e : Entry) (es : List Entry) → links m (e ∷ es) ≡ 0 → links m es ≡ 0
fewer_links m e es n = omega arith

-- a list that is shorter than the count
pub raised_none : (n m : ℕ) (R : List Region) (g : List (Option ℕ)) (l : List Entry) → m < length R → (get_or R m nowhere).entries ≡ l → links m l ≡ 0 → length l < n → raised m n (book_of R g) ≡ None
raised_none zero m R g l inside e z few = absurd (omega arith)
raised_none (suc n) m R g [] inside e z few = rw e refl
raised_none (suc n) m R g (x ∷ es) inside e z few =
    rw e (rw (remove_step m R g x es e z)
    (raised_none n m (removed m Lost R) g es (let s = removed_length m Lost R in omega arith) (removed_entries m Lost R x es inside e z) (fewer_links m x es z) (omega arith)))

-- the entries still to go, when one more is gone
pub record Next (m left n : ℕ) (R : List Region) : Type 0 where
  pub rest : (g : List (Option ℕ)) → raised m left (book_of R g) ≡ raised m n (book_of (removed m Lost R) g)
  pub room : n ≤ length (get_or (removed m Lost R) m nowhere).entries
  pub other : links m (get_or (removed m Lost R) m nowhere).entries ≡ 0

pub raised_next : (m left n : ℕ) (R : List Region) (l : List Entry) → (get_or R m nowhere).entries ≡ l → left ≡ suc n → left ≤ length l → links m l ≡ 0 → m < length R → Next m left n R
raised_next m left n R [] e k room z inside = absurd (omega arith)
raised_next m left n R (x ∷ es) e k room z inside =
    let below : (get_or (removed m Lost R) m nowhere).entries ≡ es = removed_entries m Lost R x es inside e z in
    let long : length (get_or (removed m Lost R) m nowhere).entries ≡ length es = ap (λ (l : List Entry). length l) below in
    record {
      rest = λ g. ap (λ i. raised m i (book_of R g)) k ∙ ap (λ l. option_and_then (raised m n) (remove_entry m l (book_of R g))) e ∙ ap (option_and_then (raised m n)) (remove_step m R g x es e z);
      room = omega arith;
      other = ap (links m) below ∙ fewer_links m x es z;
    }

-- a stack that a thread is on wasn't left for itself
pub no_self : (t at : ℕ) (R : List Region) (g : List (Option ℕ)) → IsBook (book_of R g) → at ≡ position_or_len (λ r. is_current t r.holder) R → at < length R → links at (get_or R at nowhere).entries ≡ 0
unfolding current_of
no_self t at R g h e l =
    let current : (get_or R at nowhere).holder ≡ Current t = rw e (current_holds t (book_of R g) (rw (← e) l)) in
    h.shape.chain at at ∙ ap (λ x. one (is_left at x)) current

-- a list that was lent as a slice of its own length
pub back : (n : ℕ) (new old : List Region) → length new ≡ length old → n ≡ length old → take n (new ++ drop (length new) old) ≡ new
back n new old e f =
    let none : drop (length new) old ≡ [] = drop_of_length-le old (omega arith) in
    let m : n ≡ length new = omega arith in
    rw (none, append-nil, m) (take-length new)

-- ---- going over to a parked stack

set_swap : (xs : List Region) (i j : ℕ) (x y : Region) → i ≢ j → set (set xs i x) j y ≡ set (set xs j y) i x
set_swap [] i j x y n = refl
set_swap (z ∷ xs) zero zero x y n = absurd (n refl)
set_swap (z ∷ xs) zero (suc j) x y n = refl
set_swap (z ∷ xs) (suc i) zero x y n = refl
set_swap (z ∷ xs) (suc i) (suc j) x y n = ap (λ (l : List Region). z ∷ l) (set_swap xs i j x y (λ e. n (ap suc e)))

set_twice : (xs : List Region) (i : ℕ) (x y : Region) → set (set xs i x) i y ≡ set xs i y
set_twice [] i x y = refl
set_twice (z ∷ xs) zero x y = refl
set_twice (z ∷ xs) (suc i) x y = ap (λ (l : List Region). z ∷ l) (set_twice xs i x y)

-- the three writes of the code are the two of the definition
pub take_is : (R : List Region) (m q : ℕ) (e : Entry) (f h : Holder) → m < length R → q < length R → m ≢ q →
    (let a : List Region = set R q (with_entry e (get_or R q nowhere)) in let b : List Region = set a m (record (get_or a m nowhere) { holder = f }) in
    set b q (record (get_or b q nowhere) { holder = h })) ≡ set (set R m (record (get_or R m nowhere) { holder = f })) q
    (record (get_or R q nowhere) { entries = e ∷ (get_or R q nowhere).entries; holder = h })
take_is R m q e f h im iq n =
    let a : List Region = set R q (with_entry e (get_or R q nowhere)) in
    let am : get_or a m nowhere ≡ get_or R m nowhere = get_or-set_other R q m (with_entry e (get_or R q nowhere)) nowhere n in
    let aq : get_or a q nowhere ≡ with_entry e (get_or R q nowhere) = get_or-set_same R q (with_entry e (get_or R q nowhere)) nowhere iq in
    let bq : get_or (set a m (record (get_or a m nowhere) { holder = f })) q nowhere ≡ with_entry e (get_or R q nowhere) = get_or-set_other a m q (record (get_or a m nowhere) { holder = f }) nowhere (λ u. n (sym u)) ∙ aq in
    ap (λ (r : Region). set (set a m (record (get_or a m nowhere) { holder = f })) q (record r { holder = h })) bq ∙
    ap (λ (r : Region). set (set a m (record r { holder = f })) q (record (with_entry e (get_or R q nowhere)) { holder = h })) am ∙
    ap (λ (l : List Region). set l q (record (with_entry e (get_or R q nowhere)) { holder = h })) (set_swap R q m (with_entry e (get_or R q nowhere)) (record (get_or R m nowhere) { holder = f }) (λ u. n (sym u))) ∙
    set_twice (set R m (record (get_or R m nowhere) { holder = f })) q (with_entry e (get_or R q nowhere)) (record (with_entry e (get_or R q nowhere)) { holder = h })

pub acquired_step : (t p m q : ℕ) (R : List Region) (g : List (Option ℕ)) (c : Bool) → q ≡ position_or_len (has_token p) R → nat_lt q (length R) ≡ c →
    acquired t p m (book_of R g) ≡ cond c (Some (acquire t m q (book_of R g))) None
unfolding parked_at
acquired_step t p m q R g c e n = rw (← e, n) refl

-- a thread's own stack isn't parked, and a parked one has room for an entry
pub record Takeable (R : List Region) (m q : ℕ) : Type 0 where
  pub apart : m ≢ q
  pub room : nat_le (length (get_or R q nowhere).entries + 1) (capacity (get_or R q nowhere)) ≡ true

pub takeable : (t p m q : ℕ) (R : List Region) (g : List (Option ℕ)) → IsBook (book_of R g) → m ≡ position_or_len (λ r. is_current t r.holder) R → m < length R → q ≡ position_or_len (has_token p) R →
    q < length R → Takeable R m q
unfolding current_of parked_at
takeable t p m q R g h em im eq iq =
    let current : (get_or R m nowhere).holder ≡ Current t = rw em (current_holds t (book_of R g) (rw (← em) im)) in
    let parked : (get_or R q nowhere).holder ≡ Parked = rw eq ((parked_at_holds p (book_of R g) (rw (← eq) iq)).parked) in
    let room : (get_or R q nowhere).start + 8 ≤ top (get_or R q nowhere) = subst (HolderFits (get_or R q nowhere)) parked (h.shape.fits q).held in
    let bounds = h.shape.bounds q iq in
    let full = bounds.full in
    record {
      apart = λ u. (let c = subst (λ i. (get_or R i nowhere).holder ≡ Current t) u current in cc);
      room = grind (arith, nat_tests);
    }

-- each region has a page of its own, so their numbers are small
high : (R : List Region) (g : List (Option ℕ)) → IsBook (book_of R g) → (i : ℕ) → i < length R → first_region_start + i ≤ (get_or R i nowhere).start
high R g h zero l = let b = h.shape.bounds 0 l in let low = b.low in omega arith
high R g h (suc i) l =
    let r = high R g h i (omega arith) in
    let b = h.shape.bounds i (omega arith) in
    let full = b.full in
    let a = h.shape.apart i (suc i) (omega arith) l in
    omega arith

pub few_regions : (R : List Region) (g : List (Option ℕ)) → IsBook (book_of R g) → length R < 2 ^ 32
few_regions R g h = elim (cases_lt 0 (length R)) [
  | inl l ↦
      let last = high R g h (length R - 1) (omega arith) in
      let b = h.shape.bounds (length R - 1) (omega arith) in
      let full = b.full in let top = b.high in
      omega arith
  | inr m ↦ omega arith
]

-- ---- the facts on books stay, whatever the answer

pub step_kept : (b next : Book) (e : Event) → IsBook b → book_step b e ≡ Some next → IsBook next
step_kept b next (ev.Called t back) h e = (book_kept t (change.Called back) b next h e).book
step_kept b next (ev.Returned t) h e = (book_kept t change.Returned b next h e).book
step_kept b next (ev.Raised t n) h e = (book_kept t (change.Raised n) b next h e).book
step_kept b next (ev.Acquired t p) h e = (book_kept t (change.Acquired p) b next h e).book
step_kept b next (ev.Released t) h e = (book_kept t change.Released b next h e).book
step_kept b next (ev.Claimed t start pages maker) h e = (book_kept t (change.Claimed start pages maker) b next h e).book
step_kept b next (ev.Seeded t s n) h e = let k = seeded_kept t s n 0 b next h.shape e in record { shape = k.shape; stacks = subst StackShape (sym k.stacks) h.stacks }
step_kept b next (ev.Born t child s) h e = let k = born_kept t child s 0 b next h.shape e in record { shape = k.shape; stacks = subst StackShape (sym k.stacks) h.stacks }
step_kept b next (ev.Pushed t x) h e = (book_kept t (change.Pushed x) b next h e).book
step_kept b next (ev.Popped t) h e = (book_kept t change.Popped b next h e).book
step_kept b next (ev.Ended t) h e = (book_kept t change.Ended b next h e).book
step_kept b next (ev.Busied t k) h e = (book_kept t (change.Busied k) b next h e).book
step_kept b next (ev.Freed t k) h e = (book_kept t (change.Freed k) b next h e).book

pub applied_kept : (result : Result (Unit {0}) BookFault) (old new : Book) (e : Event) → IsBook old → Applied result old new (book_step old e) → IsBook new
applied_kept (Ok u) old new e h a = step_kept old new e h a
applied_kept (Err NotLegal) old new e h a = subst IsBook (sym a.1) h
applied_kept (Err NoMemory) old new e h a = subst IsBook (sym a.1) h
