-- A worked list of events, of which both statements on lists tell: thread 0 goes to a second stack and parks the first, while
-- thread 1 is born and calls; then it passes over the three blanks of the second stack. Source: own.
use Rattle.std.proofs.Common.{zero, suc, ◌≡◌, ◌+◌, ◌-◌, ℕ, inl, true, List, [], ◌∷◌, ◌++◌, Some, refl, subst, arith}
use Rattle.cet_words.specs.Layout.{first_region_start, first_region_end}
use Rattle.cet_book.specs.declared.entries.Entry.{Entry}
use Rattle.cet_book.specs.declared.entries.Entry.TheVariants.{Call, Previous, Blank}
use Rattle.cet_book.specs.declared.entries.Holder.{Holder}
use Rattle.cet_book.specs.declared.entries.Holder.TheVariants.{Maker, Current, Parked, Left}
use Rattle.cet_book.specs.declared.events.Event.{Event}
use Rattle.cet_book.specs.declared.events.Event.TheVariants as event
use Rattle.cet_book.specs.Book.{Region, Book, current_of, parked_at, first_book, book_step}
use Rattle.cet_book.specs.EventLists.{book_by, SameLists}
use Rattle.cet_book.specs.Switched.{Switch, ThereAndBack, RaisesAlone, Lowered}
use Rattle.cet_book.proofs.Switched.{switched}
use Rattle.cet_book.proofs.Raises.{raises_exactly}

-- two stacks of one page
abbrev second : ℕ
second = first_region_end + 4096

abbrev third : ℕ
third = second + 8192

-- of the token below the three blanks of the second stack
abbrev place : ℕ
place = second + 4096 - 32

abbrev before : List Event
before =
    event.Called 0 4198405 ∷ event.Called 0 4198409 ∷ event.Claimed 0 second 1 true ∷ event.Seeded 0 1 3 ∷
    event.Claimed 0 third 1 true ∷ []

abbrev between : List Event
between = event.Born 0 1 2 ∷ event.Called 1 4198413 ∷ []

abbrev after : List Event
after = event.Raised 0 1 ∷ event.Called 1 4198417 ∷ event.Raised 0 2 ∷ []

abbrev book : (first second third : Region) → Book
book a b c = record { regions = a ∷ b ∷ c ∷ []; stacks = first_book.stacks }

abbrev first_with : List Entry → Holder → Region
first_with es h = record { start = first_region_start; end = first_region_end; entries = es; holder = h }

abbrev second_with : List Entry → Holder → Region
second_with es h = record { start = second; end = second + 4096; entries = es; holder = h }

abbrev third_with : List Entry → Holder → Region
third_with es h = record { start = third; end = third + 4096; entries = es; holder = h }

abbrev calls : List Entry
calls = Call 4198409 ∷ Call 4198405 ∷ []

abbrev blanks : List Entry
blanks = Blank ∷ Blank ∷ Blank ∷ []

abbrev old : Book
old = book (first_with calls (Current 0)) (second_with blanks Parked) (third_with [] (Maker 0))

abbrev taken : Book
taken = book (first_with calls (Left 1)) (second_with (Previous 0 ∷ blanks) (Current 0)) (third_with [] (Maker 0))

abbrev born : Book
born = book (first_with calls (Left 1)) (second_with (Previous 0 ∷ blanks) (Current 0)) (third_with [] (Current 1))

abbrev back : Book
back = book (first_with calls Parked) (second_with blanks (Current 0)) (third_with (Call 4198413 ∷ []) (Current 1))

abbrev passed : Book
passed = book (first_with calls Parked) (second_with [] (Current 0)) (third_with (Call 4198417 ∷ Call 4198413 ∷ []) (Current 1))

abbrev events : List Event
events = before ++ (event.Acquired 0 place ∷ (between ++ (event.Released 0 ∷ after)))

at_old : book_by first_book before ≡ Some old
unfolding current_of
at_old = refl

at_taken : book_step old (event.Acquired 0 place) ≡ Some taken
unfolding current_of parked_at
at_taken = refl

at_born : book_step taken (event.Born 0 1 2) ≡ Some born
unfolding current_of
at_born = refl

same_born : SameLists taken born
same_born zero = refl
same_born (suc zero) = refl
same_born (suc (suc zero)) = refl
same_born (suc (suc (suc i))) = refl

at_back : book_by taken (between ++ (event.Released 0 ∷ [])) ≡ Some back
unfolding current_of
at_back = refl

-- the premise of the statement on switches
worked_switch : Switch 0 place before between after events old taken
worked_switch = record {
  order = refl;
  first = at_old;
  takes = at_taken;
  quiet = λ next e.
      let is : born ≡ next = (let a = at_born in cc) in (
        λ _. subst (SameLists taken) is same_born,
        λ last f. (λ own. (let n : 1 ≡ 0 = own in absurd (omega arith)), tt),
      );
}

-- and what it tells of these events
all_legal : book_by first_book events ≡ Some passed
unfolding current_of parked_at
all_legal = refl

worked : ThereAndBack 0 (current_of 0 old) (parked_at place old) between old taken
worked = switched events passed all_legal 0 place before between after old taken worked_switch

released : worked.last ≡ back
released = let e = worked.releases in let f = at_back in cc

-- ---- the blanks

abbrev until_back : List Event
until_back = before ++ (event.Acquired 0 place ∷ (between ++ (event.Released 0 ∷ [])))

until_is : book_by first_book until_back ≡ Some back
unfolding current_of parked_at
until_is = refl

passes : book_by back after ≡ Some passed
unfolding current_of
passes = refl

on_second : current_of 0 back ≡ 1
unfolding current_of
on_second = refl

worked_raises : RaisesAlone 0 until_back after [] events back passed
worked_raises = record {
  order = refl;
  first = until_is;
  leads = passes;
  there = (let at = on_second in omega arith);
  only = λ next e. (
    λ _. inl (1, refl),
    λ later f. (
      λ own. (let n : 1 ≡ 0 = own in absurd (omega arith)),
      λ last g. (λ _. inl (2, refl), tt),
    ),
  );
}

three_passed : Lowered (current_of 0 back) 3 back passed
three_passed = raises_exactly events 0 until_back after [] back passed worked_raises
