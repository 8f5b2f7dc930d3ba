-- An access that brings its thread a shadow stack is the last of its row: else one pointer in force would be at the tops of two.
-- Source: own.
use Rattle.std.proofs.Common.{◌≡◌, ◌≢◌, ℕ, ◌<◌, inl, inr, Bool, true, false, List, [], ◌∷◌, length, Option, Some, refl, sym, ◌∙◌, ap, subst, arith}
use Rattle.std.specs.Prelude.{◌||◌, nat_lt}
use Rattle.std.proofs.lemmas.Bool.{cases_lt, false≢true}
use Rattle.std.proofs.lemmas.Bool.Decides.{nat_tests}
use Rattle.cet_words.specs.Change.{Change, Acquired}
use Rattle.cet_words.specs.declared.accesses.Access.{Access}
use Rattle.cet_book.specs.declared.entries.Holder.{Holder}
use Rattle.cet_book.specs.declared.entries.Holder.TheVariants.{Maker, Current, Parked, Left, Lost}
use Rattle.cet_book.specs.Book.{Book, region, current_of, parked_at, acquire, acquired, book_after, books_after}
use Rattle.cet_book.specs.Shape.{IsBook}
use Rattle.cet_book.proofs.Acquire.{parked_at_holds, Takes, acquire_all}
use Rattle.cet_book.proofs.Cases.{and_true, if_some, with_current_some}
use Rattle.cet_book.proofs.Changes.{same_book, then_by}
use Rattle.cet_book.proofs.Comes.{changes_last}
use Rattle.cet_book.proofs.Edits.{owned, owned_only, current_holds}
use Rattle.cet_book.specs.Relied.{Held}
use Rattle.cet_book.proofs.Kept.{book_kept}
use Rattle.cet_page.specs.Trail.{Visit}
use Rattle.cet_own.specs.Class.{all_of, class_at, is_of}
use Rattle.cet_own.specs.Past.{below_frame, frame_pushed, pushes_frame}
use Rattle.cet_own.specs.declared.access_classes.Class.{Class}
use Rattle.cet_own.specs.declared.access_classes.Class.TheVariants as class
use Rattle.cet_own.specs.Claims.{Fits, Stacked}

-- by this change the thread gets a shadow stack
abbrev pub is_switch : Change → Bool
is_switch (Acquired at) = true
is_switch c = false

abbrev pub switches : List Change → Bool
switches [] = false
switches (c ∷ cs) = is_switch c || switches cs

-- ---- by its class, the access has no other changes then

abbrev AllSwitch : List Change → Type 0
AllSwitch [] = Unit {0}
AllSwitch (c ∷ cs) = (is_switch c ≡ true) × AllSwitch cs

acquires : (cs : List Change) → all_of class.Acquire cs ≡ true → AllSwitch cs
acquires [] e = tt
acquires (Acquired p ∷ cs) e = (refl, acquires cs e)
acquires (c ∷ cs) e = absurd (false≢true e)

no_switch : (c : Class) (x : Change) → ((p : ℕ) → is_of c (Acquired p) ≡ false) → is_of c x ≡ true → is_switch x ≡ false
no_switch c (Acquired p) none e = absurd (false≢true (sym (none p) ∙ e))
no_switch c x none e = refl

or_none : (p q : Bool) → p ≡ false → q ≡ false → (p || q) ≡ false
or_none true q e f = e
or_none false q e f = f

no_switches : (c : Class) (cs : List Change) → ((p : ℕ) → is_of c (Acquired p) ≡ false) → all_of c cs ≡ true → switches cs ≡ false
no_switches c [] none e = refl
no_switches c (x ∷ cs) none e =
    let both = and_true (is_of c x) (all_of c cs) e in
    or_none (is_switch x) (switches cs) (no_switch c x none both.0) (no_switches c cs none both.1)

others : (c : Class) (cs : List Change) → ((p : ℕ) → is_of c (Acquired p) ≡ false) → all_of c cs ≡ true → switches cs ≡ true → AllSwitch cs
others c cs none e some = absurd (false≢true (sym (no_switches c cs none e) ∙ some))

all_switch : (c : Class) (cs : List Change) → all_of c cs ≡ true → switches cs ≡ true → AllSwitch cs
all_switch class.Acquire cs e some = acquires cs e
all_switch class.Neutral cs e some = others class.Neutral cs (λ p. refl) e some
all_switch class.Push cs e some = others class.Push cs (λ p. refl) e some
all_switch class.Raise cs e some = others class.Raise cs (λ p. refl) e some
all_switch class.Release cs e some = others class.Release cs (λ p. refl) e some
all_switch class.Claim cs e some = others class.Claim cs (λ p. refl) e some
all_switch class.Seed cs e some = others class.Seed cs (λ p. refl) e some
all_switch class.End cs e some = others class.End cs (λ p. refl) e some

-- so no frame is pushed with it
no_frame : (cs : List Change) → AllSwitch cs → pushes_frame cs ≡ false
no_frame [] all = refl
no_frame (Acquired p ∷ cs) all = no_frame cs all.1
no_frame (c ∷ cs) all = absurd (false≢true all.0)

-- ---- in the book, the stack on which the thread was is left

-- the thread is on the region, or it was left
abbrev WasOn : (t : ℕ) → Holder → Type 0
WasOn t (Maker x) = ⊥
WasOn t (Current x) = x ≡ t
WasOn t Parked = ⊥
WasOn t (Left q) = Unit {0}
WasOn t Lost = ⊥

abbrev WasLeft : Holder → Type 0
WasLeft (Maker x) = ⊥
WasLeft (Current x) = ⊥
WasLeft Parked = ⊥
WasLeft (Left q) = Unit {0}
WasLeft Lost = ⊥

was_on : (t : ℕ) (h : Holder) → WasLeft h → WasOn t h
was_on t (Maker x) l = l
was_on t (Current x) l = absurd l
was_on t Parked l = l
was_on t (Left q) l = l
was_on t Lost l = l

not_on : (t : ℕ) (h : Holder) → (h ≡ Current t → ⊥) → WasOn t h → WasLeft h
not_on t (Maker x) n on = on
not_on t (Current x) n on = n (ap Current on)
not_on t Parked n on = on
not_on t (Left q) n on = on
not_on t Lost n on = on

switch_leaves : (t p : ℕ) (b next : Book) → IsBook b → book_after t b (Acquired p) ≡ Some next → (i : ℕ) → WasOn t (region b i).holder → WasLeft (region next i).holder
switch_leaves t p b next h e i on =
    let w = with_current_some t b next (λ m r. acquired t p m b) e in
    let o = owned t b h.shape w.0 in
    let test = if_some (nat_lt (parked_at p b) (length b.regions)) _ next w.1 in
    let passed : nat_lt (parked_at p b) (length b.regions) ≡ true = test.0 in
    let inside : parked_at p b < length b.regions = grind (arith, nat_tests) in
    let k : Takes t (current_of t b) (parked_at p b) b = record { owned = o; parked = (parked_at_holds p b inside).parked } in
    let is : acquire t (current_of t b) (parked_at p b) b ≡ next = (let d = test.1 in cc) in
    subst (λ (n : Book). WasLeft (region n i).holder) is
    (acquire_all k (λ j r. WasOn t (region b j).holder → WasLeft r.holder) (λ was. absurd (subst (WasOn t) k.parked was)) (λ was. tt)
    (λ j n n' was. not_on t (region b j).holder (λ c. n' (owned_only o j c)) was) i on)

stays_left : (t : ℕ) (cs : List Change) (b next : Book) → IsBook b → AllSwitch cs → books_after t b cs ≡ Some next → (i : ℕ) → WasLeft (region b i).holder → WasLeft (region next i).holder
stays_left t [] b next h all e i l = subst (λ (n : Book). WasLeft (region n i).holder) (same_book t b next [] refl e) l
stays_left t (Acquired p ∷ cs) b next h all e i l =
    let d = then_by t (book_after t b (Acquired p)) next cs e in
    stays_left t cs d.0 next (book_kept t (Acquired p) b d.0 h d.1).book all.1 d.2 i (switch_leaves t p b d.0 h d.1 i (was_on t (region b i).holder l))
stays_left t (c ∷ cs) b next h all e i l = absurd (false≢true all.0)

leaves : (t : ℕ) (cs : List Change) (b next : Book) → IsBook b → switches cs ≡ true → AllSwitch cs → books_after t b cs ≡ Some next → (i : ℕ) → WasOn t (region b i).holder → WasLeft (region next i).holder
leaves t [] b next h some all e i on = absurd (false≢true some)
leaves t (Acquired p ∷ cs) b next h some all e i on =
    let d = then_by t (book_after t b (Acquired p)) next cs e in
    stays_left t cs d.0 next (book_kept t (Acquired p) b d.0 h d.1).book all.1 d.2 i (switch_leaves t p b d.0 h d.1 i on)
leaves t (c ∷ cs) b next h some all e i on = absurd (false≢true all.0)

book_stays : (t : ℕ) (cs : List Change) (b next : Book) → IsBook b → books_after t b cs ≡ Some next → IsBook next
book_stays t [] b next h e = subst IsBook (same_book t b next [] refl e) h
book_stays t (c ∷ cs) b next h e =
    let d = then_by t (book_after t b c) next cs e in
    book_stays t cs d.0 next (book_kept t c b d.0 h d.1).book d.2

-- no pointer is at the tops of both
two_tops : (t ssp : ℕ) (cs : List Change) (b next : Book) → IsBook b → books_after t b cs ≡ Some next → switches cs ≡ true → AllSwitch cs → Stacked t b ssp → Stacked t next ssp → ⊥
two_tops t ssp cs b next h e some all was is =
    let r = current_of t b in
    let n = current_of t next in
    let on : WasOn t (region b r).holder = subst (WasOn t) (sym (current_holds t b was.top.has)) refl in
    let left = leaves t cs b next h some all e r on in
    let now = current_holds t next is.top.has in
    let other : r ≢ n = λ z. subst WasLeft now (subst (λ i. WasLeft (region next i).holder) z left) in
    let h' = book_stays t cs b next h e in
    let last = changes_last t cs b next h e in
    let there = was.top.has in
    let grows = last.grows in
    let inside = is.top.has in
    let start = last.start r there in
    let end = last.end r there in
    let room = (h.shape.fits r).room in
    let room' = (h'.shape.fits n).room in
    let at = was.top.at in
    let at' = is.top.at in
    elim (cases_lt r n) [
      | inl l ↦ (let apart = h'.shape.apart r n l inside in omega arith)
      | inr g ↦ elim (cases_lt n r) [
        | inl l ↦ (let apart = h'.shape.apart n r l (omega arith) in omega arith)
        | inr g' ↦ other (omega arith)
      ]
    ]

-- The pointer in force is at the top before the access and after it: so no stack comes to the thread by it.
pub goes_calm : (t ssp v : ℕ) (held : Option ℕ) (past : List Visit) (a : Access) (cs : List Change) (b next : Book) → IsBook b → books_after t b cs ≡ Some next → Fits t past b a v cs → Held t b held →
    Stacked t b (below_frame (frame_pushed past) ssp) → Stacked t next (below_frame (pushes_frame cs || frame_pushed past) ssp) → switches cs ≡ false
goes_calm t ssp v held past a cs b next h e fits holds was is =
    let all : switches cs ≡ true → AllSwitch cs = all_switch (class_at a ssp held v) cs (fits ssp held was holds) in
    elim (switches cs) as (λ (c : Bool). switches cs ≡ c → c ≡ false) [
      | true ↦ λ some. absurd (
          let none : (pushes_frame cs || frame_pushed past) ≡ frame_pushed past = ap (λ c. c || frame_pushed past) (no_frame cs (all some)) in
          two_tops t (below_frame (frame_pushed past) ssp) cs b next h e some (all some) was (subst (λ c. Stacked t next (below_frame c ssp)) none is))
      | false ↦ λ none. refl
    ] refl
