-- What is read off the trail of a row: what it left in a word, what it may still lean on, and what it has counted.
-- Source: own.
use Rattle.std.specs.Prelude.{ℕ, ◌+◌, ◌-◌, ◌/◌, ◌%◌, ◌^◌, Bool, true, false, ◌||◌, ◌&&◌, nat_le, nat_lt, ◌==◌, if◌then◌else◌, bit_or, bit_and, List, [], ◌∷◌, Option, Some, None}
use Rattle.cet_words.specs.Layout.{action_word, draw_shadow_word, next_thread_word, token, token_word}
use Rattle.cet_words.specs.Change.{Change, Acquired, Claimed, Seeded, Born, Pushed, Busied}
use Rattle.cet_words.specs.Job.{JobData}
use Rattle.cet_words.specs.declared.accesses.Access.{Access}
use Rattle.cet_words.specs.declared.accesses.Access.TheVariants as access
use Rattle.cet_page.specs.Core.{Core}
use Rattle.cet_page.specs.Trail.{Visit, trail_of}

-- ---- words

-- the access reads or writes the word
abbrev pub touches : Access → (word : ℕ) → Bool
touches (access.Look page) w = false
touches (access.Load word) w = word == w
touches (access.Store word value) w = word == w
touches (access.Swap word value) w = word == w
touches (access.FetchAdd word value) w = word == w
touches (access.FetchOr word value) w = word == w
touches (access.FetchAnd word value) w = word == w
touches (access.CompareExchange word expected value) w = word == w

-- the access exchanges the busy token of a supervisor stack for the free one
abbrev pub frees_token : Access → (stack : ℕ) → Bool
frees_token (access.CompareExchange word expected value) k = word == token_word k && (expected == token k + 1 && value == token k)
frees_token a k = false

-- what stands in the word of an access after it, by its answer
abbrev pub leaves_word : Access → (answer : ℕ) → ℕ
leaves_word (access.Look page) v = v
leaves_word (access.Load word) v = v
leaves_word (access.Store word value) v = value
leaves_word (access.Swap word value) v = value
leaves_word (access.FetchAdd word value) v = (v + value) % 2 ^ 64
leaves_word (access.FetchOr word value) v = bit_or v value
leaves_word (access.FetchAnd word value) v = bit_and v value
leaves_word (access.CompareExchange word expected value) v = if v == expected then value else v

-- by this change the thread gets a shadow stack or a supervisor stack
abbrev pub is_taking : Change → Bool
is_taking (Acquired at) = true
is_taking (Busied stack) = true
is_taking c = false

abbrev pub takes_any : List Change → Bool
takes_any [] = false
takes_any (c ∷ cs) = is_taking c || takes_any cs

-- what the row last read or wrote in a word
abbrev pub left_row : List Visit → (word : ℕ) → Option ℕ
left_row [] w = None
left_row (x ∷ past) w = if touches x.access w then Some (leaves_word x.access x.answer) else left_row past w

-- The same, where it got no stack since. Else nothing is said: the word may be the one below the token of that stack, and have been
-- another thread's.
abbrev pub left_in : List Visit → (word : ℕ) → Option ℕ
left_in [] w = None
left_in (x ∷ past) w =
    if takes_any x.changes then None else (if touches x.access w then Some (leaves_word x.access x.answer) else left_in past w)

-- ---- signals

-- the restorer stands two words above the handler
abbrev pub restorer_word : (signal : ℕ) → ℕ
restorer_word signal = action_word signal + 2

-- the access loads a handler other than the default and ignoring, or stores a restorer
abbrev pub shows_restorer : Access → (answer signal : ℕ) → Bool
shows_restorer (access.Load word) v s = word == action_word s && nat_lt 1 v
shows_restorer (access.Store word value) v s = word == restorer_word s && nat_lt 0 value
shows_restorer a v s = false

-- so the row has seen that the signal has a restorer
abbrev pub has_restorer : List Visit → (signal : ℕ) → Bool
has_restorer [] s = false
has_restorer (x ∷ past) s = shows_restorer x.access x.answer s || has_restorer past s

-- ---- the supervisor stack

-- the supervisor stack whose token this word is
abbrev pub stack_at : (word : ℕ) → Option ℕ
stack_at word =
    if nat_le (token_word 0) word && nat_le word (token_word 7) && (word - token_word 0) % 1024 == 0
    then Some ((word - token_word 0) / 1024) else None

-- an exchange of its token that succeeds takes the stack where it leaves the token busy, and gives it back where not
abbrev pub held_where : (stack : Option ℕ) → (succeeds : Bool) → (value : ℕ) → Option ℕ → Option ℕ
held_where None succeeds value held = held
held_where (Some k) false value held = held
held_where (Some k) true value held = if value == token k + 1 then Some k else None

-- what an access leaves of the stack that was held, by its answer
abbrev pub held_by : Access → (answer : ℕ) → Option ℕ → Option ℕ
held_by (access.CompareExchange word expected value) v held = held_where (stack_at word) (v == expected) value held
held_by a v held = held

-- the supervisor stack that the row has taken by the gate's first exchange, and not given back
abbrev pub held_in : List Visit → Option ℕ
held_in [] = None
held_in (x ∷ past) = held_by x.access x.answer (held_in past)

-- ---- SSP in force

abbrev pub is_frame : Change → Bool
is_frame (Pushed restorer) = true
is_frame c = false

abbrev pub pushes_frame : List Change → Bool
pushes_frame [] = false
pushes_frame (c ∷ cs) = is_frame c || pushes_frame cs

-- the row has pushed a signal's frame on the shadow stack
abbrev pub frame_pushed : List Visit → Bool
frame_pushed [] = false
frame_pushed (x ∷ past) = pushes_frame x.changes || frame_pushed past

-- a frame and the restorer below it take 16 bytes
abbrev pub below_frame : (pushed : Bool) → (ssp : ℕ) → ℕ
below_frame pushed ssp = if pushed then ssp - 16 else ssp

-- A delivery sets the register SSP with its last access only: from its frame on, the pointer in force is 16 lower.
abbrev pub in_force : JobData → Core → ℕ
in_force job core = below_frame (frame_pushed (trail_of job core)) core.arch.ssp

-- ---- counters

-- NEXT_THREAD, the number of the next thread to be born, and DRAW_SHADOW, the next page of the shadow area to be drawn
abbrev pub next_word : ℕ
next_word = next_thread_word

abbrev pub draw_word : ℕ
draw_word = draw_shadow_word

abbrev pub is_draw : Access → Bool
is_draw (access.FetchAdd word value) = word == draw_word
is_draw a = false

-- the row has drawn pages of the shadow area
abbrev pub drew : List Visit → Bool
drew [] = false
drew (x ∷ past) = is_draw x.access || drew past

abbrev pub is_number : Access → Bool
is_number (access.FetchAdd word value) = word == next_word
is_number a = false

-- the row has drawn the number of a thread
abbrev pub numbered : List Visit → Bool
numbered [] = false
numbered (x ∷ past) = is_number x.access || numbered past

-- ---- the shadow stack that the row has claimed

-- from its claim on, until its token is stored or a thread comes onto it
pub record NewStack : Type 0 where
  pub start : ℕ
  pub pages : ℕ
  -- it gets a token or a thread, or else it stays without
  pub making : Bool

abbrev pub claimed_by : Change → Option NewStack → Option NewStack
claimed_by (Claimed start pages maker) o = Some (record { start = start; pages = pages; making = maker })
claimed_by (Seeded start blanks) o = None
claimed_by (Born child start) o = None
claimed_by c o = o

abbrev pub claimed_after : List Change → Option NewStack → Option NewStack
claimed_after [] o = o
claimed_after (c ∷ cs) o = claimed_after cs (claimed_by c o)

abbrev pub claimed_in : List Visit → Option NewStack
claimed_in [] = None
claimed_in (x ∷ past) = claimed_after x.changes (claimed_in past)
