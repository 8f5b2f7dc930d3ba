-- Events as changes, and lists of events one after another. Source: own.
use Rattle.std.proofs.Common.{◌≡◌, ℕ, List, [], ◌∷◌, ◌++◌, Option, Some, None, refl, sym, ◌∙◌, ap, subst}
use Rattle.std.specs.Prelude.{option_and_then}
use Rattle.cet_words.specs.Change as change
use Rattle.cet_words.specs.Change.{Change}
use Rattle.cet_book.specs.declared.events.Event.{Event}
use Rattle.cet_book.specs.declared.events.Event.TheVariants as event
use Rattle.cet_book.specs.Book.{Book, region, starting_at, seeded, born, first_book, book_step, book_after}
use Rattle.cet_book.specs.EventLists.{thread_of, book_by}
use Rattle.cet_book.specs.Facts.{links, one, is_left}
use Rattle.cet_book.specs.Shape.{IsBook}
use Rattle.cet_book.proofs.First.{first_is_book}
use Rattle.cet_book.proofs.Hand.{Made, made_there}
use Rattle.cet_book.proofs.Edited.{made_by}
use Rattle.cet_book.proofs.Ways.{starting_at_is}
use Rattle.cet_book.proofs.EventSteps.{step_kept}

-- the region is found again by its start
made_found : (t s : ℕ) (b : Book) → Made t s b → starting_at (region b s).start b ≡ s
made_found t s b m = starting_at_is (region b s).start b s m.shape (made_there m) refl

-- the change that an event of the book is
pub change_of : (b next : Book) (e : Event) → IsBook b → book_step b e ≡ Some next → (c : Change) × (book_after (thread_of e) b c ≡ Some next)
change_of b next (event.Called t back) h e = (change.Called back, e)
change_of b next (event.Returned t) h e = (change.Returned, e)
change_of b next (event.Raised t count) h e = (change.Raised count, e)
change_of b next (event.Acquired t at) h e = (change.Acquired at, e)
change_of b next (event.Released t) h e = (change.Released, e)
change_of b next (event.Claimed t start pages maker) h e = (change.Claimed start pages maker, e)
change_of b next (event.Seeded t s blanks) h e =
    let m = made_by t s b next _ _ h.shape e in
    (change.Seeded (region b s).start blanks, subst (λ n. seeded t n blanks b ≡ Some next) (sym (made_found t s b m.0)) e)
change_of b next (event.Born t child s) h e =
    let m = made_by t s b next _ _ h.shape e in
    (change.Born child (region b s).start, subst (λ n. born t child n b ≡ Some next) (sym (made_found t s b m.0)) e)
change_of b next (event.Pushed t restorer) h e = (change.Pushed restorer, e)
change_of b next (event.Popped t) h e = (change.Popped, e)
change_of b next (event.Ended t) h e = (change.Ended, e)
change_of b next (event.Busied t stack) h e = (change.Busied stack, e)
change_of b next (event.Freed t stack) h e = (change.Freed stack, e)

-- ---- lists

pub then_event : (o : Option Book) (es : List Event) (end : Book) → option_and_then (λ next. book_by next es) o ≡ Some end → (mid : Book) × (o ≡ Some mid) × (book_by mid es ≡ Some end)
then_event None es end e = cc
then_event (Some mid) es end e = (mid, refl, e)

pub then_events : (xs ys : List Event) (b end : Book) → book_by b (xs ++ ys) ≡ Some end → (mid : Book) × (book_by b xs ≡ Some mid) × (book_by mid ys ≡ Some end)
then_events [] ys b end e = (b, refl, e)
then_events (x ∷ xs) ys b end e =
    let s = then_event (book_step b x) (xs ++ ys) end e in
    let r = then_events xs ys s.0 end s.2 in
    (r.0, ap (λ o. option_and_then (λ next. book_by next xs) o) s.1 ∙ r.1, r.2)

pub events_book : (es : List Event) (b end : Book) → IsBook b → book_by b es ≡ Some end → IsBook end
events_book [] b end h e = let is : b ≡ end = cc in subst IsBook is h
events_book (x ∷ es) b end h e =
    let s = then_event (book_step b x) es end e in
    events_book es s.0 end (step_kept b s.0 x h s.1) s.2

-- so after any list of events that the book has, Previous(s) stands once in the region that s was left for, and nowhere else
pub links_kept : (es : List Event) (end : Book) → book_by first_book es ≡ Some end → (q s : ℕ) → links s (region end q).entries ≡ one (is_left q (region end s).holder)
links_kept es end e = (events_book es first_book end first_is_book e).shape.chain
