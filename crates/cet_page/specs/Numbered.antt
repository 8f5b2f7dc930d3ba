-- Threads and their numbers: what an access keeps, who draws a number, who names it, and how far the counters of the machine
-- go. Source: own.
use Rattle.std.specs.Prelude.{◌≡◌, ◌≢◌, ℕ, ◌+◌, ◌*◌, ◌<◌, ◌≤◌, ◌⊎◌, Bool, true, List, [], ◌∷◌, Option, Some, None, length, min, slice_get, slice_index}
use Rattle.cet_words.specs.Access.{answer, after}
use Rattle.cet_words.specs.Change.{Change, Born}
use Rattle.cet_words.specs.Job.{JobData}
use Rattle.cet_words.specs.Layout.{draw_shadow_word, next_thread_word, thread_limit, word_count}
use Rattle.cet_words.specs.declared.accesses.Access.{Access}
use Rattle.cet_words.specs.declared.accesses.Access.TheVariants as access
use Rattle.cet_isa.specs.declared.threads.End.{End}
use Rattle.cet_isa.specs.declared.threads.Record.{Record}
use Rattle.cet_isa.specs.declared.threads.What.{What}
use Rattle.cet_isa.specs.declared.threads.What.TheVariants as what
use Rattle.cet_page.specs.Core.{Core, next_access, taken}
use Rattle.cet_page.specs.Left.{left_of}
use Rattle.cet_page.specs.Machine.{Machine, Thread, step, thread_after}
use Rattle.cet_page.specs.Trail.{Visit, trail_of}
use Rattle.cet_page.specs.ValsData.{no_vals}
use Rattle.cet_page.specs.Within.{IsCore}

-- ---- what an access keeps

-- a thread of the list is there, with this number
pub record IsThere (threads : List Thread) (t n : ℕ) : Type 0 where
  pub thread : Thread
  pub found : slice_get threads t ≡ Some thread
  pub number : thread.core.arch.number ≡ n

-- No access changes the number of its thread, and no turn changes that of any thread, or takes one away.
pub record NumbersStay : Type 0 where
  pub taken : (job : JobData) (core : Core) (answer : ℕ) → (taken job core answer).core.arch.number ≡ core.arch.number
  pub turn : (job : JobData) (m : Machine) (t k : ℕ) (thread : Thread) → slice_get m.threads k ≡ Some thread → IsThere (step job m t).threads k thread.core.arch.number

-- Each access of a thread of a job takes from the number of those that it may still make, which is above 0 where the thread
-- hasn't ended, 0 where it has, and at most this for any thread.
pub record AccessesRunOut : Type 0 where
  pub falls : (job : JobData) (core : Core) (answer : ℕ) → IsCore job core → core.over ≡ None → left_of job (taken job core answer).core (taken job core answer).core.over < left_of job core core.over
  pub goes : (job : JobData) (core : Core) → IsCore job core → core.over ≡ None → 0 < left_of job core core.over
  pub ended : (job : JobData) (core : Core) (end : End) → core.over ≡ Some end → left_of job core core.over ≡ 0
  pub most : (job : JobData) (core : Core) → left_of job core core.over ≤ 4096 * (job.limit + length job.signals + 1)

-- ---- who draws a number

-- The place of a thread in the list is its number, the counter tells how many there are, and each is one of the job; words
-- stay as many as they were.
pub record Numbered (job : JobData) (m : Machine) : Type 0 where
  pub number : (t : ℕ) (thread : Thread) → slice_get m.threads t ≡ Some thread → thread.core.arch.number ≡ t
  pub core : (t : ℕ) (thread : Thread) → slice_get m.threads t ≡ Some thread → IsCore job thread.core
  pub count : length m.threads ≡ min (slice_index m.words next_thread_word) thread_limit
  pub first : 0 < length m.threads
  pub words : length m.words ≡ word_count

-- a thread with this number that has made no access
pub record IsNew (core : Core) (n : ℕ) : Type 0 where
  pub number : core.arch.number ≡ n
  pub count : core.arch.count ≡ 0
  pub vals : core.vals ≡ no_vals
  pub over : core.over ≡ None

-- the access that draws the number of a thread
abbrev pub number_draw : Access
number_draw = access.FetchAdd next_thread_word 1

-- What an access has to do with the numbers of threads, by what it leaves.
pub data Draws (m : Machine) (a : Access) (child : Option Core) : Type 0 where
  -- it draws a number below 32, which is that of the thread that it bears: the next of the list
  bears : (core : Core) → a ≡ number_draw → answer m.words a < thread_limit → answer m.words a ≡ length m.threads → child ≡ Some core → IsNew core (answer m.words a) → Draws m a child
  -- it draws a number of which there can be no thread
  bears_nobody : a ≡ number_draw → thread_limit ≤ answer m.words a → child ≡ None → Draws m a child
  -- it leaves the counter as it is, and bears nobody
  leaves : slice_index (after m.words a) next_thread_word ≡ slice_index m.words next_thread_word → child ≡ None → Draws m a child

-- so each access that a thread of the machine waits for
abbrev pub DrawsRight : JobData → Machine → Type 0
DrawsRight job m =
    (t : ℕ) (thread : Thread) (a : Access) → slice_get m.threads t ≡ Some thread → next_access job thread.core ≡ Some a → Draws m a (taken job thread.core (answer m.words a)).child

-- ---- who names it

-- the number of the thread that a record names: a `born` has it
abbrev pub named : What → (a : ℕ) → Option ℕ
named what.Born a = Some a
named w a = None

-- one of these records names the thread
abbrev pub Names : (n : ℕ) → List Record → Type 0
Names n [] = ⊥
Names n (r ∷ rs) = (named r.what r.a ≡ Some n) ⊎ Names n rs

-- the number of the thread that changes bear, or what was before
abbrev pub borne_by : List Change → Option ℕ → Option ℕ
borne_by [] o = o
borne_by (Born child start ∷ cs) o = borne_by cs (Some child)
borne_by (c ∷ cs) o = borne_by cs o

-- the number of the thread that the row has borne
abbrev pub borne_in : List Visit → Option ℕ
borne_in [] = None
borne_in (x ∷ past) = borne_by x.changes (borne_in past)

-- The present row of a thread has borne thread n, and isn't done.
pub record IsBearing (job : JobData) (core : Core) (n : ℕ) : Type 0 where
  pub borne : borne_in (trail_of job core) ≡ Some n
  pub goes : core.over ≡ None

-- a thread has told of thread n by a record, or is about to
abbrev pub TellsOf : JobData → Thread → (n : ℕ) → Type 0
TellsOf job thread n = Names n thread.trace ⊎ IsBearing job thread.core n

-- After an access a thread tells of what it told of before, and of the thread that the access bears, and of nobody else.
pub record TellsOn (job : JobData) (thread next : Thread) (child : Option Core) : Type 0 where
  pub kept : (n : ℕ) → TellsOf job thread n → TellsOf job next n
  pub born : (core : Core) → child ≡ Some core → TellsOf job next core.arch.number
  pub only : (n : ℕ) → TellsOf job next n → TellsOf job thread n ⊎ ((core : Core) × (child ≡ Some core) × (core.arch.number ≡ n))

-- so any access of any thread of a job, whatever it answers
abbrev pub BirthsAreTold : Type 0
BirthsAreTold =
    (job : JobData) (thread : Thread) (answer : ℕ) → IsCore job thread.core → thread.core.over ≡ None → TellsOn job thread (thread_after thread (taken job thread.core answer)) (taken job thread.core answer).child

-- a thread of the list, with a lower number, tells of thread n
pub record IsNamed (job : JobData) (threads : List Thread) (n : ℕ) : Type 0 where
  pub parent : ℕ
  pub thread : Thread
  pub found : slice_get threads parent ≡ Some thread
  pub lower : parent < n
  pub tells : TellsOf job thread n

-- Each thread but the first is told of by one with a lower number, and by no other; and whatever is told of is there and has a
-- higher number.
pub record Named (job : JobData) (threads : List Thread) : Type 0 where
  pub each : (n : ℕ) → 0 < n → n < length threads → IsNamed job threads n
  pub told : (t n : ℕ) (thread : Thread) → slice_get threads t ≡ Some thread → TellsOf job thread n → (t < n) × (n < length threads)
  pub alone : (t u n : ℕ) (x y : Thread) → slice_get threads t ≡ Some x → slice_get threads u ≡ Some y → TellsOf job x n → TellsOf job y n → t ≡ u

-- These are numbers of ended threads, 0 among them, and all that the records of one of them name are among them.
pub record AreClosed (threads : List Thread) (has : ℕ → Bool) : Type 0 where
  pub first : has 0 ≡ true
  pub ended : (t : ℕ) (thread : Thread) → slice_get threads t ≡ Some thread → has t ≡ true → thread.core.over ≢ None
  pub named : (t n : ℕ) (thread : Thread) → slice_get threads t ≡ Some thread → has t ≡ true → Names n thread.trace → has n ≡ true

-- such numbers are those of all threads
abbrev pub ClosedAreAll : List Thread → Type 0
ClosedAreAll threads = (has : ℕ → Bool) → AreClosed threads has → (n : ℕ) → n < length threads → has n ≡ true

-- ---- the counters

-- A thread of the 32 adds to a counter at most once for each of its 100,000 records, and once in a row that isn't done.
abbrev pub most_draws : ℕ
most_draws = thread_limit * (100000 + 1)

-- The counters begin at 1 and 9, and an add to the second is of at most 1,023 pages. So neither comes near 2 ^ 64.
pub record CountsLow (words : List ℕ) : Type 0 where
  pub next : slice_index words next_thread_word ≤ 1 + most_draws
  pub draw : slice_index words draw_shadow_word ≤ 9 + 1023 * most_draws
