-- The events of a run: what its accesses do to the book of shadow stacks. Source: own.
use Rattle.std.specs.Prelude.{ℕ, List, [], ◌∷◌, ◌++◌, Option, Some, None, slice_get}
use Rattle.std.specs.Option.{option_map_or}
use Rattle.cet_words.specs.Access.{answer}
use Rattle.cet_words.specs.Change.{Change}
use Rattle.cet_words.specs.Job.{JobData}
use Rattle.cet_words.specs.declared.accesses.Access.{Access}
use Rattle.cet_book.specs.declared.events.Event.{Event}
use Rattle.cet_book.specs.Book.{Book, first_book, event_of, book_after, books_after}
use Rattle.cet_book.specs.EventLists.{book_by}
use Rattle.cet_page.specs.Core.{next_access, next_changes}
use Rattle.cet_page.specs.Machine.{Machine, Thread, step}

-- the changes of an access of a thread
abbrev pub access_changes : JobData → Machine → Thread → Option Access → List Change
access_changes job m thread None = []
access_changes job m thread (Some a) = next_changes job thread.core (answer m.words a)

abbrev pub thread_changes : JobData → Machine → Option Thread → List Change
thread_changes job m None = []
thread_changes job m (Some thread) = access_changes job m thread (next_access job thread.core)

-- the changes of one turn of thread t
unfoldable pub turn_changes : JobData → Machine → (t : ℕ) → List Change
turn_changes job m t = thread_changes job m (slice_get m.threads t)

-- The events that changes of thread t are, each with its region by the number in the book before it. A change of which that book
-- has no case is the last.
abbrev pub events_by : (t : ℕ) → Book → List Change → List Event
events_by t b [] = []
events_by t b (c ∷ cs) = event_of b t c ∷ option_map_or (λ next. events_by t next cs) (book_after t b c) []

-- the events of turns from a machine on, by the book beside it, if there is one
abbrev pub events_from : JobData → Machine → Option Book → (turns : List ℕ) → List Event
events_from job m None turns = []
events_from job m (Some b) [] = []
events_from job m (Some b) (t ∷ ts) =
    events_by t b (turn_changes job m t) ++ events_from job (step job m t) (books_after t b (turn_changes job m t)) ts

-- the events of a run, in order
abbrev pub events : JobData → Machine → (turns : List ℕ) → List Event
events job start turns = events_from job start (Some first_book) turns

-- the last book of a run from the start
abbrev pub book_of : JobData → Machine → (turns : List ℕ) → Option Book
book_of job start turns = book_by first_book (events job start turns)
