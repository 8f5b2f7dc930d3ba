-- What INCSSP takes off a thread's shadow stack, in every list of events that the book has. Source: own.
use Rattle.std.proofs.Common.{zero, suc, ◌≡◌, ◌≢◌, ℕ, ◌+◌, ◌<◌, ◌⊎◌, inl, inr, eqb, true, List, [], ◌∷◌, length, drop, Some, refl, sym, ◌∙◌, ap, subst, arith}
use Rattle.std.specs.Prelude.{option_and_then}
use Rattle.std.proofs.lemmas.Bool.Decides.{eqb_tells, nat_tests}
use Rattle.std.proofs.lemmas.List.{length-drop, drop-drop}
use Rattle.cet_words.specs.Change.{Change}
use Rattle.cet_book.specs.declared.entries.Entry.{Entry}
use Rattle.cet_book.specs.declared.entries.Holder.TheVariants.{Current, Lost}
use Rattle.cet_book.specs.declared.events.Event.{Event}
use Rattle.cet_book.specs.declared.events.Event.TheVariants as event
use Rattle.cet_book.specs.Book.{Region, Book, region, current_of, remove_entry, raised, first_book, book_step, book_after}
use Rattle.cet_book.specs.EventLists.{thread_of, book_by, Each, SameLists}
use Rattle.cet_book.specs.Shape.{IsBook}
use Rattle.cet_book.specs.Switched.{raise_of, raises_of, IsRaise, Lowered, RaisesExactly}
use Rattle.cet_book.proofs.Edits.{Owned, is_there, current_holds}
use Rattle.cet_book.proofs.Relist.{relist_here}
use Rattle.cet_book.proofs.Unlink.{unlink_here}
use Rattle.cet_book.proofs.Removes.{Removal, plain, linked, raised_all, raised_shortened}
use Rattle.cet_book.proofs.First.{first_is_book}
use Rattle.cet_book.specs.Relied.{owns_current}
use Rattle.cet_book.proofs.Cases.{with_current_some}
use Rattle.cet_book.proofs.Comes.{change_lasts}
use Rattle.cet_book.proofs.UnusedStays.{IsUnused, unused_stays}
use Rattle.cet_book.proofs.EventSteps.{step_kept}
use Rattle.cet_book.proofs.EventChanges.{change_of, then_event, events_book}
use Rattle.cet_book.proofs.QuietEvents.{Settled, Quiet, keeps, stops, quiet, others_leave, HasNoEntries, quiet_empty, others_empty}

-- ---- one INCSSP

removal_list : {t m : ℕ} {b next : Book} → Owned t m b → Removal t m b next → (region next m).entries ≡ drop 1 (region b m).entries
removal_list {m = m} {b = b} o (plain e es list not_link is) =
    subst (λ n. (region n m).entries ≡ drop 1 (region b m).entries) is
    (ap (λ (r : Region). r.entries) (relist_here o es) ∙ sym (ap (λ (l : List Entry). drop 1 l) list))
removal_list {m = m} {b = b} o (linked s es l is) =
    subst (λ n. (region n m).entries ≡ drop 1 (region b m).entries) is
    (ap (λ (r : Region). r.entries) (unlink_here l Lost) ∙ sym (ap (λ (l : List Entry). drop 1 l) l.entries))

raised_list : (t m n : ℕ) (b next : Book) → Owned t m b → raised m n b ≡ Some next → (region next m).entries ≡ drop n (region b m).entries
raised_list t m = raised_all t m (λ n b next. (region next m).entries ≡ drop n (region b m).entries) (λ b _. refl)
    (λ n b mid next o removal rest.
    let more : 1 + n ≡ suc n = omega arith in
    rest ∙ ap (λ (l : List Entry). drop n l) (removal_list o removal) ∙ drop-drop n 1 (region b m).entries ∙ ap (λ k. drop k (region b m).entries) more)

-- ---- one event

-- the region is the thread's, or it is lost and the thread has no entries
data Stage (t q : ℕ) (b : Book) : Type 0 where
  live : (region b q).holder ≡ Current t → Stage t q b
  gone : q < length b.regions → (region b q).holder ≡ Lost → HasNoEntries t b → Stage t q b

record Stepped (t q n : ℕ) (b next : Book) : Type 0 where
  stage : Stage t q next
  lowered : Lowered q n b next

lowered_none : {q : ℕ} {b next : Book} → (region next q).entries ≡ (region b q).entries → Lowered q 0 b next
lowered_none e = record { many = omega arith; list = e }

stays : {t q : ℕ} {b next : Book} → Stage t q next → region next q ≡ region b q → Stepped t q 0 b next
stays g e = record { stage = g; lowered = lowered_none (ap (λ (r : Region). r.entries) e) }

live_on : {t q : ℕ} {b next : Book} → (region b q).holder ≡ Current t → region next q ≡ region b q → Stepped t q 0 b next
live_on own e = stays (live (ap (λ (r : Region). r.holder) e ∙ own)) e

-- a region that is lost stays so
gone_on : (y t q : ℕ) (c : Change) (b next : Book) → IsBook b → book_after y b c ≡ Some next → q < length b.regions → (region b q).holder ≡ Lost → HasNoEntries t next → Stepped t q 0 b next
gone_on y t q c b next h e there lost none =
    let stay = unused_stays y c b next h e q there (subst IsUnused (sym lost) tt) (λ _ z. (let l = lost in cc)) in
    let grows = (change_lasts y c b next h e).grows in
    stays (gone (omega arith) (ap (λ (r : Region). r.holder) stay ∙ lost) none) stay

raised_some : (m n : ℕ) (b next : Book) (l : List Entry) → l ≡ [] → option_and_then (raised m n) (remove_entry m l b) ≡ Some next → ⊥
raised_some m n b next [] empty e = cc
raised_some m n b next (x ∷ l) empty e = cc

-- nothing is taken off a stack without entries
raised_none : (m n : ℕ) (b next : Book) → (region b m).entries ≡ [] → raised m n b ≡ Some next → (n ≡ 0) × (b ≡ next)
raised_none m zero b next empty e = (refl, cc)
raised_none m (suc n) b next empty e = absurd (raised_some m n b next (region b m).entries empty e)

own_raise : (t q n : ℕ) (b next : Book) → IsBook b → book_step b (event.Raised t n) ≡ Some next → Stage t q b → Stepped t q n b next
own_raise t q n b next h e (live own) =
    let w = with_current_some t b next (λ m r. raised m n b) e in
    let at = h.shape.alone t q own in
    let o : Owned t q b = record { shape = h.shape; current = own } in
    let r : raised q n b ≡ Some next = subst (λ m. raised m n b ≡ Some next) at w.1 in
    let s = raised_shortened t q n b next o r in
    let fewer = s.fewer in
    record { stage = live s.owned.current; lowered = record { many = omega arith; list = raised_list t q n b next o r } }
own_raise t q n b next h e (gone there lost none) =
    let w = with_current_some t b next (λ m r. raised m n b) e in
    let z = raised_none (current_of t b) n b next (none (current_of t b) (current_holds t b w.0)) w.1 in
    subst (λ k. Stepped t q k b next) (sym z.0) (subst (Stepped t q 0 b) z.1 (stays (gone there lost none) refl))

own_quiet : (t q : ℕ) (c : Change) (b next : Book) → IsBook b → book_after t b c ≡ Some next → SameLists b next → Quiet t b next → Stage t q b → Stepped t q 0 b next
own_quiet t q c b next h e same (keeps stay comes) (live own) = live_on own (stay q (subst Settled (sym own) tt))
own_quiet t q c b next h e same (stops none lost) (live own) =
    let there = is_there b q (λ z. (let y = own in cc)) in
    let grows = (change_lasts t c b next h e).grows in
    record { stage = gone (omega arith) (lost q own) (λ i z. absurd (none i z)); lowered = lowered_none (same q) }
own_quiet t q c b next h e same how (gone there lost none) = gone_on t t q c b next h e there lost (quiet_empty t b next how same none)

others_step : (y t q : ℕ) (c : Change) (b next : Book) → y ≢ t → IsBook b → book_after y b c ≡ Some next → Stage t q b → Stepped t q 0 b next
others_step y t q c b next n h e (live own) =
    let at = h.shape.alone t q own in
    let there = is_there b q (λ z. (let y = own in cc)) in
    let rely = others_leave y t c b next n h e (omega arith) in
    live_on own (rely.kept q (owns_current t (region b q).holder own))
others_step y t q c b next n h e (gone there lost none) = gone_on y t q c b next h e there lost (others_empty y t c b next n h e none)

-- ---- the counts

-- an INCSSP takes off its count, and any other event nothing in that way
raise_tells : (t : ℕ) (e : Event) → IsRaise t e ⊎ ((IsRaise t e → ⊥) × (raise_of t e ≡ 0))
raise_tells t (event.Raised x count) = elim (eqb_tells x t) [
  | inl u ↦ inl (count, ap (λ n. event.Raised n count) u.1)
  | inr u ↦ inr (λ z. u.1 (let y = z.1 in cc), rw u.0 refl)
]
raise_tells t e = inr (λ z. (let y = z.1 in cc), refl)

raise_count : (t n : ℕ) → raise_of t (event.Raised t n) ≡ n
raise_count t n = let same : eqb t t ≡ true = grind (arith, nat_tests) in rw same refl

own_step : (t q : ℕ) (x : Event) (b next : Book) → IsBook b → thread_of x ≡ t → book_step b x ≡ Some next → IsRaise t x ⊎ SameLists b next → Stage t q b → Stepped t q (raise_of t x) b next
own_step t q x b next h own e how g = elim (raise_tells t x) [
  | inl r ↦
      subst (λ z. Stepped t q (raise_of t z) b next) (sym r.1)
      (subst (λ k. Stepped t q k b next) (sym (raise_count t r.0)) (own_raise t q r.0 b next h (subst (λ z. book_step b z ≡ Some next) r.1 e) g))
  | inr r ↦ subst (λ k. Stepped t q k b next) (sym r.1) (elim how [
    | inl y ↦ absurd (r.0 y)
    | inr same ↦
        let c = change_of b next x h e in
        let f = subst (λ y. book_after y b c.0 ≡ Some next) own c.1 in
        own_quiet t q c.0 b next h f same (quiet t c.0 b next h f same) g
  ])
]

others_raise : (t : ℕ) (x : Event) → thread_of x ≢ t → raise_of t x ≡ 0
others_raise t x n = elim (raise_tells t x) [
  | inl r ↦ absurd (n (ap thread_of r.1))
  | inr r ↦ r.1
]

any_step : (t q : ℕ) (x : Event) (b next : Book) → IsBook b → book_step b x ≡ Some next → (thread_of x ≡ t → IsRaise t x ⊎ SameLists b next) → Stage t q b → Stepped t q (raise_of t x) b next
any_step t q x b next h e how g = elim (eqb_tells (thread_of x) t) [
  | inl own ↦ own_step t q x b next h own.1 e (how own.1) g
  | inr other ↦
      let c = change_of b next x h e in
      subst (λ k. Stepped t q k b next) (sym (others_raise t x other.1)) (others_step (thread_of x) t q c.0 b next other.1 h c.1 g)
]

-- ---- a stretch

lowered_then : (q m n : ℕ) (b mid last : Book) → Lowered q m b mid → Lowered q n mid last → Lowered q (m + n) b last
lowered_then q m n b mid last x y =
    let long = ap (λ (l : List Entry). length l) x.list ∙ length-drop m (region b q).entries in
    let first = x.many in
    let second = y.many in
    record { many = omega arith; list = y.list ∙ ap (λ (l : List Entry). drop n l) x.list ∙ drop-drop n m (region b q).entries }

raises_from : (t q : ℕ) (mid : List Event) (b last : Book) → IsBook b → Stage t q b → Each (λ b e next. thread_of e ≡ t → IsRaise t e ⊎ SameLists b next) b mid → book_by b mid ≡ Some last →
    Lowered q (raises_of t mid) b last
raises_from t q [] b last h g k e = let is : b ≡ last = cc in subst (Lowered q 0 b) is (lowered_none refl)
raises_from t q (x ∷ mid) b last h g k e =
    let s = then_event (book_step b x) mid last e in
    let rest = k s.0 s.1 in
    let step = any_step t q x b s.0 h s.1 rest.0 g in
    lowered_then q (raise_of t x) (raises_of t mid) b s.0 last step.lowered (raises_from t q mid s.0 last (step_kept b s.0 x h s.1) step.stage rest.1 s.2)

pub raises_exactly : (es : List Event) → RaisesExactly es
raises_exactly es t before mid after b last w =
    raises_from t (current_of t b) mid b last (events_book before first_book b first_is_book w.first) (live (current_holds t b w.there)) w.only w.leads
