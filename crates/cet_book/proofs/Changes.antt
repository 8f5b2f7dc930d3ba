-- The book after a list of changes, by its first change. Source: own.
use Rattle.std.proofs.Common.{◌≡◌, ℕ, List, [], ◌∷◌, Option, Some, None, refl, ◌∙◌, ap, subst}
use Rattle.std.specs.Prelude.{option_and_then}
use Rattle.cet_words.specs.Change.{Change}
use Rattle.cet_book.specs.Book.{Book, book_after, books_after}

-- without a change the book stays
pub same_book : (t : ℕ) (b next : Book) (changes : List Change) → changes ≡ [] → books_after t b changes ≡ Some next → b ≡ next
same_book t b next changes e q = let r : books_after t b [] ≡ Some next = subst (λ l. books_after t b l ≡ Some next) e q in cc

-- the book after the first change, and from it the book after the others
pub then_by : (t : ℕ) (o : Option Book) (next : Book) (cs : List Change) → option_and_then (λ b. books_after t b cs) o ≡ Some next → (mid : Book) × (o ≡ Some mid) × (books_after t mid cs ≡ Some next)
then_by t None next cs e = cc
then_by t (Some mid) next cs e = (mid, refl, e)

-- a single change
pub one_book : (t : ℕ) (b next : Book) (c : Change) (changes : List Change) → changes ≡ c ∷ [] → books_after t b changes ≡ Some next → book_after t b c ≡ Some next
one_book t b next c changes e q =
    let r : books_after t b (c ∷ []) ≡ Some next = subst (λ l. books_after t b l ≡ Some next) e q in
    let d = then_by t (book_after t b c) next [] r in
    let same : d.0 ≡ next = same_book t d.0 next [] refl d.2 in
    d.1 ∙ ap Some same
