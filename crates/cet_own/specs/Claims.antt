-- What the claim of a thread speaks of: where it stands on its stacks, what it has seen of its own words, and what an access does
-- to counters, to the supervisor stack that is held, and to the book by its class. Source: own.
use Rattle.std.specs.Prelude.{◌≡◌, ◌≢◌, ℕ, ◌+◌, ◌-◌, ◌<◌, ◌≤◌, ◌⊎◌, Bool, true, false, List, [], ◌∷◌, length, slice_index, Option, Some, None}
use Rattle.cet_words.specs.Change.{Change, Born}
use Rattle.cet_words.specs.Layout.{first_region_start, last_region_end, kernel_return, thread_limit, thread_region_size, token_word}
use Rattle.cet_words.specs.declared.accesses.Access.{Access}
use Rattle.cet_words.specs.declared.accesses.Access.TheVariants as access
use Rattle.cet_book.specs.declared.entries.Holder.TheVariants.{Maker}
use Rattle.cet_book.specs.Book.{Book, region, current_of, stack_of}
use Rattle.cet_book.specs.Facts.{Place}
use Rattle.cet_book.specs.Stack.{slot, slot_word}
use Rattle.cet_book.specs.Relied.{Free, Held, AtTop}
use Rattle.cet_page.specs.Script.{birth, held_after}
use Rattle.cet_page.specs.Trail.{Visit}
use Rattle.cet_own.specs.Class.{all_of, class_at}
use Rattle.cet_own.specs.Facts.{HasClaimed, IsOwnPlace, OwnWord}
use Rattle.cet_own.specs.Past.{below_frame, claimed_in, draw_word, drew, frame_pushed, frees_token, has_restorer, held_by, leaves_word, left_in, left_row, next_word, numbered, restorer_word, touches}

-- ---- where a thread stands

-- SSP is at the top of the thread's region, within the shadow area
pub record Stacked (t : ℕ) (b : Book) (ssp : ℕ) : Type 0 where
  pub top : AtTop t b ssp
  pub low : first_region_start ≤ ssp
  pub high : ssp ≤ last_region_end

-- so it is between instructions
pub record AtRest (t : ℕ) (b : Book) (ssp : ℕ) : Type 0 where
  pub stacked : Stacked t b ssp
  pub free : Free t b

-- a thread that isn't born, or has ended by exit, has nothing
pub record HasNone (t : ℕ) (b : Book) : Type 0 where
  pub regions : length b.regions ≤ current_of t b
  pub free : Free t b

-- ---- words of its own

-- what the row has seen of words of its thread's own is still there
pub record Still (words : List ℕ) (t : ℕ) (b : Book) (past : List Visit) : Type 0 where
  pub word : (w x : ℕ) → OwnWord t b w → left_in past w ≡ Some x → slice_index words w ≡ x
  -- in its shadow stacks also what it has seen before it took a supervisor stack
  pub place : (addr x : ℕ) → Place addr → IsOwnPlace t b addr → left_row past (slot addr) ≡ Some x → slot_word words addr ≡ x
  pub restorer : (s : ℕ) → s < 64 → has_restorer past s ≡ true → slice_index words (restorer_word s) ≢ 0
  -- and the stack that it has claimed
  pub claimed : HasClaimed t (claimed_in past) b
  -- what it read or left below the token of a stack that it holds, since it took it, is the kernel's return address
  pub below : (k x : ℕ) → k < 8 → stack_of b k ≡ Some t → left_in past (token_word k - 1) ≡ Some x → x ≡ kernel_return

-- of a supervisor stack and the word below its token
pub record TellsBelow (t : ℕ) (b : Book) (a : Access) (v : ℕ) : Type 0 where
  -- an access of that word is by the thread that holds the stack, and reads or leaves the kernel's return address
  pub holder : (k : ℕ) → k < 8 → touches a (token_word k - 1) ≡ true → stack_of b k ≡ Some t
  pub address : (k : ℕ) → k < 8 → touches a (token_word k - 1) ≡ true → leaves_word a v ≡ kernel_return
  -- and so is the exchange that gives the stack back
  pub frees : (k : ℕ) → k < 8 → frees_token a k ≡ true → stack_of b k ≡ Some t

-- a signal that had a restorer has one
abbrev pub KeepsRestorers : List ℕ → List ℕ → Type 0
KeepsRestorers words now = (s : ℕ) → s < 64 → slice_index words (restorer_word s) ≢ 0 → slice_index now (restorer_word s) ≢ 0

-- ---- counters and births

-- the access may write the word
abbrev pub alters : Access → (word : ℕ) → Bool
alters (access.Load word) w = false
alters a w = touches a w

-- t makes region s for the child, which has nothing: eight pages from this start on
pub record Bears (t child s start : ℕ) (b : Book) : Type 0 where
  pub maker : (region b s).holder ≡ Maker t
  pub first : (region b s).start ≡ start
  pub last : (region b s).end ≡ start + thread_region_size
  pub none : HasNone child b

-- A row adds to each counter at most once, and no other access changes one. A thread is born exactly with an add to the
-- counter of threads that finds a number below 32, which becomes its number.
pub data CountsBy (t : ℕ) (past : List Visit) (b : Book) (a : Access) (v : ℕ) (changes : List Change) : Type 0 where
  no_count : alters a draw_word ≡ false → alters a next_word ≡ false → birth changes ≡ None → CountsBy t past b a v changes
  draws_pages : (n : ℕ) → n ≤ 1023 → a ≡ access.FetchAdd draw_word n → drew past ≡ false → birth changes ≡ None → CountsBy t past b a v changes
  bears_child : (s start : ℕ) → a ≡ access.FetchAdd next_word 1 → v < thread_limit → Bears t v s start b → numbered past ≡ false → changes ≡ Born v start ∷ [] → CountsBy t past b a v changes
  bears_nobody : a ≡ access.FetchAdd next_word 1 → thread_limit ≤ v → numbered past ≡ false → birth changes ≡ None → CountsBy t past b a v changes

-- ---- the supervisor stack, and the class

-- an access leaves the note that its answer tells, and of no other stack than k
pub record NotesGate (k : ℕ) (a : Access) (v : ℕ) (changes : List Change) : Type 0 where
  pub says : (held : Option ℕ) → held_after changes held ≡ held_by a v held
  pub own : (held : Option ℕ) (j : ℕ) → held_after changes held ≡ Some j → (held ≡ Some j) ⊎ (j ≡ k)

-- Where SSP is at the top of the thread's region, and its note of the supervisor stack that it holds agrees with the book, the
-- changes are of the class of the access.
abbrev pub Fits : (t : ℕ) → (past : List Visit) → Book → Access → (v : ℕ) → List Change → Type 0
Fits t past b a v changes = (ssp : ℕ) (held : Option ℕ) → Stacked t b (below_frame (frame_pushed past) ssp) → Held t b held → all_of (class_at a ssp held v) changes ≡ true
