-- A switch to another shadow stack and back, in every list of events that the book has. Source: own.
use Rattle.std.proofs.Common.{◌≡◌, ◌≢◌, ℕ, ◌<◌, ◌⊎◌, inl, inr, true, List, [], ◌∷◌, ◌++◌, length, Some, refl, sym, ◌∙◌, ap, subst, arith}
use Rattle.std.specs.Prelude.{nat_lt, option_and_then}
use Rattle.std.proofs.lemmas.Bool.Decides.{eqb_tells, nat_tests}
use Rattle.cet_words.specs.Change.{Change}
use Rattle.cet_book.specs.declared.entries.Entry.{Entry}
use Rattle.cet_book.specs.declared.entries.Entry.TheVariants.{Call, Restorer, Frame, Previous, Blank}
use Rattle.cet_book.specs.declared.entries.Holder.TheVariants.{Parked}
use Rattle.cet_book.specs.declared.events.Event.{Event}
use Rattle.cet_book.specs.declared.events.Event.TheVariants as event
use Rattle.cet_book.specs.Book.{Region, Book, region, capacity, current_of, parked_at, unlink, acquire, acquired, released, first_book, book_step, book_after}
use Rattle.cet_book.specs.EventLists.{thread_of, book_by, Each, Throughout, SameLists}
use Rattle.cet_book.specs.Shape.{IsBook}
use Rattle.cet_book.specs.Switched.{Away, Back, SwitchesBack}
use Rattle.cet_book.proofs.Edits.{owned, is_there, current_holds}
use Rattle.cet_book.proofs.Unlink.{Linked, unlink_here, unlink_gone}
use Rattle.cet_book.proofs.Acquire.{parked_at_holds, Takes, acquire_taken, acquire_left}
use Rattle.cet_book.proofs.First.{first_is_book}
use Rattle.cet_book.specs.Relied.{owns_current}
use Rattle.cet_book.proofs.Cases.{if_some, with_current_some}
use Rattle.cet_book.proofs.EventSteps.{step_kept}
use Rattle.cet_book.proofs.EventChanges.{change_of, then_event, then_events, events_book}
use Rattle.cet_book.proofs.QuietEvents.{Settled, Quiet, keeps, stops, quiet, others_leave, HasNoEntries, quiet_empty, others_empty}

-- thread t's events that change no list, as Switch has it
abbrev QuietOf : ℕ → Book → List Event → Type 0
QuietOf t = Each (λ b e next. thread_of e ≡ t → SameLists b next)

-- ---- a thread without entries can't release

no_entry : (m : ℕ) (b next : Book) (l : List Entry) → l ≡ [] → released m l b ≡ Some next → ⊥
no_entry m b next [] empty e = cc
no_entry m b next (x ∷ l) empty e = cc

never_releases : (t : ℕ) (mid : List Event) (b last : Book) → IsBook b → HasNoEntries t b → QuietOf t b mid → book_by b (mid ++ (event.Released t ∷ [])) ≡ Some last → ⊥
never_releases t [] b last h none q e =
    let s = then_event (book_step b (event.Released t)) [] last e in
    let w = with_current_some t b s.0 (λ m r. released m r.entries b) s.1 in
    no_entry (current_of t b) b s.0 (region b (current_of t b)).entries (none (current_of t b) (current_holds t b w.0)) w.1
never_releases t (x ∷ mid) b last h none q e =
    let s = then_event (book_step b x) (mid ++ (event.Released t ∷ [])) last e in
    let rest = q s.0 s.1 in
    let c = change_of b s.0 x h s.1 in
    let now : HasNoEntries t s.0 = elim (eqb_tells (thread_of x) t) [
      | inl own ↦
          let same = rest.0 own.1 in
          quiet_empty t b s.0 (quiet t c.0 b s.0 h (subst (λ y. book_after y b c.0 ≡ Some s.0) own.1 c.1) same) same none
      | inr other ↦ others_empty (thread_of x) t c.0 b s.0 other.1 h c.1 none
    ] in
    never_releases t mid s.0 last (step_kept b s.0 x h s.1) now rest.1 s.2

-- ---- from the one event to the other

module _ (t r q : ℕ) (old : Book) where
  away_same : (b next : Book) → region next q ≡ region b q → region next r ≡ region b r → Away t r q old b → Away t r q old next
  away_same b next own left a = record {
    current = ap (λ (x : Region). x.holder) own ∙ a.current;
    left = ap (λ (x : Region). x.holder) left ∙ a.left;
    left_list = ap (λ (x : Region). x.entries) left ∙ a.left_list;
    own_list = ap (λ (x : Region). x.entries) own ∙ a.own_list;
  }

  has_region : (b : Book) → IsBook b → Away t r q old b → current_of t b < length b.regions
  has_region b h a =
      let at = h.shape.alone t q a.current in
      let there = is_there b q (λ z. (let c = a.current in cc)) in
      omega arith

  -- an event of another thread
  away_others : (y : ℕ) (c : Change) (b next : Book) → y ≢ t → IsBook b → book_after y b c ≡ Some next → Away t r q old b → Away t r q old next
  away_others y c b next n h e a =
      let rely = others_leave y t c b next n h e (has_region b h a) in
      away_same b next (rely.kept q (owns_current t (region b q).holder a.current)) (rely.below q r a.current a.left) a

  -- one of its own that changes no list, or its end
  away_quiet : (b next : Book) → Quiet t b next → Away t r q old b → Away t r q old next ⊎ HasNoEntries t next
  away_quiet b next (keeps stay comes) a =
      inl (away_same b next (stay q (subst Settled (sym a.current) tt)) (stay r (subst Settled (sym a.left) tt)) a)
  away_quiet b next (stops gone lost) a = inr (λ i e. absurd (gone i e))

  back_by : (b last : Book) (l : List Entry) → IsBook b → Away t r q old b → (region b q).entries ≡ l → released q l b ≡ Some last → Back t r q old last
  back_by b last [] h a list e = cc
  back_by b last (Call x ∷ es) h a list e = cc
  back_by b last (Restorer x ∷ es) h a list e = cc
  back_by b last (Frame ∷ es) h a list e = cc
  back_by b last (Previous s ∷ es) h a list e =
      let test = if_some (nat_lt (length (region b s).entries) (capacity (region b s))) _ last e in
      let l : Linked t q s es b = record { owned = record { shape = h.shape; current = a.current }; entries = list } in
      let is : unlink q s es Parked b ≡ last = (let z = test.1 in cc) in
      let both : Previous s ∷ es ≡ Previous r ∷ (region old q).entries = sym list ∙ a.own_list in
      let at : s ≡ r = cc in
      let rest : es ≡ (region old q).entries = cc in
      let gone = unlink_gone l Parked in
      let here = unlink_here l Parked in
      subst (Back t r q old) is (record {
        parked = subst (λ n. (region (unlink q s es Parked b) n).holder ≡ Parked) at (ap (λ (x : Region). x.holder) gone);
        left_list =
            subst (λ n. (region (unlink q s es Parked b) n).entries ≡ (region old r).entries) at
            (ap (λ (x : Region). x.entries) gone ∙ ap (λ n. (region b n).entries) at ∙ a.left_list);
        current = ap (λ (x : Region). x.holder) here ∙ a.current;
        own_list = ap (λ (x : Region). x.entries) here ∙ rest;
      })
  back_by b last (Blank ∷ es) h a list e = cc

  away_from : (mid : List Event) (b last : Book) → IsBook b → Away t r q old b → QuietOf t b mid → book_by b (mid ++ (event.Released t ∷ [])) ≡ Some last → Throughout (Away t r q old) b mid × Back t r q old last
  away_from [] b last h a k e =
      let s = then_event (book_step b (event.Released t)) [] last e in
      let w = with_current_some t b s.0 (λ m r. released m r.entries b) s.1 in
      let at = h.shape.alone t q a.current in
      let is : s.0 ≡ last = (let z = s.2 in cc) in
      let f : released q (region b q).entries b ≡ Some s.0 = subst (λ n. released n (region b n).entries b ≡ Some s.0) at w.1 in
      (a, subst (Back t r q old) is (back_by b s.0 (region b q).entries h a refl f))
  away_from (x ∷ mid) b last h a k e =
      let s = then_event (book_step b x) (mid ++ (event.Released t ∷ [])) last e in
      let rest = k s.0 s.1 in
      let c = change_of b s.0 x h s.1 in
      let h' = step_kept b s.0 x h s.1 in
      let a' : Away t r q old s.0 = elim (eqb_tells (thread_of x) t) [
        | inl own ↦ elim (away_quiet b s.0 (quiet t c.0 b s.0 h (subst (λ y. book_after y b c.0 ≡ Some s.0) own.1 c.1) (rest.0 own.1)) a) [
          | inl y ↦ y
          | inr none ↦ absurd (never_releases t mid s.0 last h' none rest.1 s.2)
        ]
        | inr other ↦ away_others (thread_of x) c.0 b s.0 other.1 h c.1 a
      ] in
      let d = away_from mid s.0 last h' a' rest.1 s.2 in
      ((a, s.0, s.1, d.0), d.1)

-- the first of the two
away_first : (t p : ℕ) (old taken : Book) → IsBook old → book_step old (event.Acquired t p) ≡ Some taken → Away t (current_of t old) (parked_at p old) old taken
away_first t p old taken h e =
    let w = with_current_some t old taken (λ m r. acquired t p m old) e in
    let o = owned t old h.shape w.0 in
    let test = if_some (nat_lt (parked_at p old) (length old.regions)) _ taken w.1 in
    let passed : nat_lt (parked_at p old) (length old.regions) ≡ true = test.0 in
    let inside : parked_at p old < length old.regions = grind (arith, nat_tests) in
    let k : Takes t (current_of t old) (parked_at p old) old = record { owned = o; parked = (parked_at_holds p old inside).parked } in
    let is : acquire t (current_of t old) (parked_at p old) old ≡ taken = (let s = test.1 in cc) in
    let now = acquire_taken k in
    let left = acquire_left k in
    subst (Away t (current_of t old) (parked_at p old) old) is (record {
      current = ap (λ (x : Region). x.holder) now;
      left = ap (λ (x : Region). x.holder) left;
      left_list = ap (λ (x : Region). x.entries) left;
      own_list = ap (λ (x : Region). x.entries) now;
    })

joined : (t : ℕ) (mid : List Event) (b m last : Book) → book_by b mid ≡ Some m → book_step m (event.Released t) ≡ Some last → book_by b (mid ++ (event.Released t ∷ [])) ≡ Some last
joined t [] b m last e f =
    let same : b ≡ m = cc in
    ap (λ n. book_by n (event.Released t ∷ [])) same ∙ ap (λ o. option_and_then (λ next. Some next) o) f
joined t (x ∷ mid) b m last e f =
    let s = then_event (book_step b x) mid m e in
    ap (λ o. option_and_then (λ next. book_by next (mid ++ (event.Released t ∷ []))) o) s.1 ∙ joined t mid s.0 m last s.2 f

-- Every list of events that the book has. What follows a thread's end tells that it never released, so the list is taken as a
-- whole and not only as far as the second event.
pub switched : (es : List Event) (end : Book) → book_by first_book es ≡ Some end → SwitchesBack es
switched es end legal t p before mid after old taken w =
    let then = event.Acquired t p ∷ (mid ++ (event.Released t ∷ after)) in
    let whole : book_by first_book (before ++ then) ≡ Some end = subst (λ l. book_by first_book l ≡ Some end) w.order legal in
    let s = then_events before then first_book end whole in
    let at_old : s.0 ≡ old = (let z = s.1 in let y = w.first in cc) in
    let from_old = subst (λ n. book_by n then ≡ Some end) at_old s.2 in
    let a = then_event (book_step old (event.Acquired t p)) (mid ++ (event.Released t ∷ after)) end from_old in
    let at_taken : a.0 ≡ taken = (let z = a.1 in let y = w.takes in cc) in
    let from_taken = subst (λ n. book_by n (mid ++ (event.Released t ∷ after)) ≡ Some end) at_taken a.2 in
    let m = then_events mid (event.Released t ∷ after) taken end from_taken in
    let r = then_event (book_step m.0 (event.Released t)) after end m.2 in
    let h = events_book before first_book old first_is_book w.first in
    let releases = joined t mid taken m.0 r.0 m.1 r.1 in
    let d = away_from t (current_of t old) (parked_at p old) old mid taken r.0 (step_kept old taken (event.Acquired t p) h w.takes) (away_first t p old taken h w.takes) w.quiet releases in
    record { between = d.0; last = r.0; releases = releases; back = d.1 }
