-- What other threads can't disturb: a switch to another shadow stack and back, and what INCSSP takes off. Source: Intel SDM
-- volume 1, chapter on CET (RSTORSSP, SAVEPREVSSP, INCSSP); own for the statements.
use Rattle.std.specs.Prelude.{◌≡◌, ℕ, ◌+◌, ◌<◌, ◌≤◌, ◌⊎◌, ◌==◌, if◌then◌else◌, List, [], ◌∷◌, ◌++◌, length, drop, Some}
use Rattle.cet_book.specs.declared.entries.Entry.TheVariants.{Previous}
use Rattle.cet_book.specs.declared.entries.Holder.TheVariants.{Current, Parked, Left}
use Rattle.cet_book.specs.declared.events.Event.{Event}
use Rattle.cet_book.specs.declared.events.Event.TheVariants as event
use Rattle.cet_book.specs.Book.{Book, region, current_of, parked_at, first_book, book_step}
use Rattle.cet_book.specs.EventLists.{thread_of, book_by, Each, Throughout, SameLists}

-- ---- there and back

-- In these events thread t takes the token at p, and its next event that changes a list is Released. The book before the
-- token is taken is old, and the one after it taken.
pub record Switch (t p : ℕ) (before mid after es : List Event) (old taken : Book) : Type 0 where
  pub order : es ≡ before ++ (event.Acquired t p ∷ (mid ++ (event.Released t ∷ after)))
  pub first : book_by first_book before ≡ Some old
  pub takes : book_step old (event.Acquired t p) ≡ Some taken
  pub quiet : Each (λ b e next. thread_of e ≡ t → SameLists b next) taken mid

-- t is on region q and has left r for it. The list of r is that of the old book, and so is that of q below its newest entry,
-- which leads to r.
pub record Away (t r q : ℕ) (old b : Book) : Type 0 where
  pub current : (region b q).holder ≡ Current t
  pub left : (region b r).holder ≡ Left q
  pub left_list : (region b r).entries ≡ (region old r).entries
  pub own_list : (region b q).entries ≡ Previous r ∷ (region old q).entries

-- r is parked and t is on q, each with its list of the old book
pub record Back (t r q : ℕ) (old b : Book) : Type 0 where
  pub parked : (region b r).holder ≡ Parked
  pub left_list : (region b r).entries ≡ (region old r).entries
  pub current : (region b q).holder ≡ Current t
  pub own_list : (region b q).entries ≡ (region old q).entries

-- away in every book between the two events, and back in the book after the second
pub record ThereAndBack (t r q : ℕ) (mid : List Event) (old taken : Book) : Type 0 where
  pub between : Throughout (Away t r q old) taken mid
  pub last : Book
  pub releases : book_by taken (mid ++ (event.Released t ∷ [])) ≡ Some last
  pub back : Back t r q old last

-- every switch of these events, from the region of its thread to the one with the token
abbrev pub SwitchesBack : List Event → Type 0
SwitchesBack es =
    (t p : ℕ) (before mid after : List Event) (old taken : Book) →
    Switch t p before mid after es old taken → ThereAndBack t (current_of t old) (parked_at p old) mid old taken

-- ---- INCSSP

-- how many entries the event takes off as an INCSSP of thread t
abbrev pub raise_of : (t : ℕ) → Event → ℕ
raise_of t (event.Raised x count) = if x == t then count else 0
raise_of t e = 0

-- and what the events take off so, together
abbrev pub raises_of : (t : ℕ) → List Event → ℕ
raises_of t [] = 0
raises_of t (e ∷ es) = raise_of t e + raises_of t es

abbrev pub IsRaise : (t : ℕ) → Event → Type 0
IsRaise t e = (count : ℕ) × (e ≡ event.Raised t count)

-- Events mid lead from book b, which the events before them lead to, to the last one. Thread t has a region in b, and of its
-- events only those of INCSSP change a list.
pub record RaisesAlone (t : ℕ) (before mid after es : List Event) (b last : Book) : Type 0 where
  pub order : es ≡ before ++ (mid ++ after)
  pub first : book_by first_book before ≡ Some b
  pub leads : book_by b mid ≡ Some last
  pub there : current_of t b < length b.regions
  pub only : Each (λ b e next. thread_of e ≡ t → IsRaise t e ⊎ SameLists b next) b mid

-- the newest n entries of region q are gone, and no others
pub record Lowered (q n : ℕ) (b last : Book) : Type 0 where
  pub many : n ≤ length (region b q).entries
  pub list : (region last q).entries ≡ drop n (region b q).entries

-- in every such stretch of these events the region of the thread loses as many entries as the counts add up to
abbrev pub RaisesExactly : List Event → Type 0
RaisesExactly es =
    (t : ℕ) (before mid after : List Event) (b last : Book) →
    RaisesAlone t before mid after es b last → Lowered (current_of t b) (raises_of t mid) b last
