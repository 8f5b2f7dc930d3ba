-- What a function over a cursor comes to is what a script comes to. Source: own.
use Rattle.std.specs.Prelude.{◌≡◌, ℕ, List, Option, Some, None, Result, Ok, Err, ◌==◌, nat_lt, if◌then◌else◌}
use Rattle.cet_words.specs.Layout.{token, thread_limit}
use Rattle.cet_words.specs.Change.{Change}
use Rattle.cet_words.specs.declared.accesses.Access.{Access}
use Rattle.cet_isa.specs.declared.threads.Arch.{Arch}
use Rattle.cet_isa.specs.declared.threads.Record.{Record}
use Rattle.cet_words.specs.Access.{InRange}
use Rattle.cet_page.specs.Script.{Played, Completed, Faulted, Wants, ask, done, play, no_changes, birth, held_after}
use Rattle.cet_page.specs.declared.cursors.Mark.{Mark}
use Rattle.cet_page.specs.declared.cursors.Mark.TheVariants as marks
use Rattle.cet_page.specs.declared.cursors.Suspended.{Suspended}
use Rattle.cet_page.specs.declared.cursors.Suspended.TheVariants as suspended
use Rattle.cet_page.specs.declared.finishes.Leaving.{Leaving}
use Rattle.cet_page.specs.declared.nexts.Next.{Next}
use Rattle.cet_page.specs.declared.nexts.Next.TheVariants as nexts

-- The supervisor stack that a thread holds after an access with this mark: one that takes a stack does so where it finds
-- the token free.
abbrev pub held_by : Mark → (answer : ℕ) → Option ℕ → Option ℕ
held_by marks.Plain answer held = held
held_by (marks.Takes k) answer held = if answer == token k then Some k else held
held_by marks.Gives answer held = None
held_by (marks.Bears start) answer held = held

-- the thread that is born at an access with this mark: the answer is its number
abbrev pub birth_by : Mark → (answer : ℕ) → Option (ℕ × ℕ)
birth_by marks.Plain answer = None
birth_by (marks.Takes k) answer = None
birth_by marks.Gives answer = None
birth_by (marks.Bears start) answer = if nat_lt answer thread_limit then Some (answer, start) else None

-- the mark tells what the changes do to the supervisor stack that is held, and who is born
abbrev pub Marks : Mark → (ℕ → List Change) → Type 0
Marks mark changes =
    ((answer : ℕ) (held : Option ℕ) → held_after (changes answer) held ≡ held_by mark answer held) × ((answer : ℕ) → birth (changes answer) ≡ birth_by mark answer)

-- the script wants this access, which is in range, with changes that the mark tells
abbrev pub Wanted : {A : Type 0} → Played A → Access → Mark → Type 0
Wanted (Wants b changes) a mark = (b ≡ a) × Marks mark changes × InRange a
Wanted (Faulted e) a mark = ⊥
Wanted (Completed x left values) a mark = ⊥

-- a stop at a wanted access or at a fault
abbrev pub Suspends : {A : Type 0} → Played A → Suspended → Type 0
Suspends came (suspended.Access a mark) = Wanted came a mark
Suspends came (suspended.Fault e) = came ≡ Faulted e

-- what was returned, seen by view, and the place of the cursor afterwards
abbrev pub RefinesBy : {A B : Type 0} → (A → B) → Played B → Result A Suspended → (left : ℕ) → List ℕ → Type 0
RefinesBy view came (Ok x) left values = came ≡ Completed (view x) left values
RefinesBy view came (Err s) left values = Suspends came s

-- What an instruction comes to that changes the thread's state in its place: it is over with this state and this record, or
-- nothing has changed.
abbrev pub Follows : Played (Arch × Record) → (before after : Arch) → Result Record Suspended → (left : ℕ) → List ℕ → Type 0
Follows came before after (Ok noted) left values = came ≡ Completed (after, noted) left values
Follows came before after (Err s) left values = (after ≡ before) × Suspends came s

abbrev pub Refines : {A : Type 0} → Played A → Result A Suspended → (left : ℕ) → List ℕ → Type 0
Refines came result left values = RefinesBy (λ x. x) came result left values

-- what an access comes to whose value is kept, whatever its changes are: its value, or a stop at it with this mark
abbrev pub Asks : Access → Mark → (before : ℕ) → List ℕ → Result ℕ Suspended → (left : ℕ) → List ℕ → Type 0
Asks a mark before seen (Ok value) left values = play (ask a no_changes done) before seen ≡ Completed value left values
Asks a mark before seen (Err s) left values = (play (ask a no_changes done) before seen ≡ Wants a no_changes) × (s ≡ suspended.Access a mark) × InRange a

-- What a part of a row does next: an access, its fault, or its result. The view tells the state after it and its record, if
-- there is one.
abbrev pub next_by : {A : Type 0} → (A → Arch × Option Record) → Played A → Next
next_by view (Wants a changes) = nexts.Access a
next_by view (Faulted e) = nexts.Fault e
next_by view (Completed x left values) = nexts.Done (view x).0 (view x).1

-- an instruction ends with a record
abbrev pub with_record : Arch × Record → Arch × Option Record
with_record x = (x.0, Some x.1)

-- the same with the state after it
abbrev pub with_state : Arch → Record → Arch × Option Record
with_state after noted = (after, Some noted)

-- and a service that goes back to the thread, before the way out
abbrev pub with_leaving : Arch × Record × Leaving → Arch × Option Record
with_leaving x = (x.0, Some x.1)

abbrev pub next_of : Played (Arch × Record) → Next
next_of came = next_by with_record came

-- the page or word of an access is in range
abbrev pub NextInRange : Next → Type 0
NextInRange (nexts.Access a) = InRange a
NextInRange (nexts.Done arch noted) = Unit {0}
NextInRange (nexts.Fault e) = Unit {0}

-- the same of what was returned over a cursor
abbrev pub next_after : {A : Type 0} → (A → Arch × Option Record) → Result A Suspended → Next
next_after view (Ok x) = nexts.Done (view x).0 (view x).1
next_after view (Err (suspended.Access a mark)) = nexts.Access a
next_after view (Err (suspended.Fault e)) = nexts.Fault e
