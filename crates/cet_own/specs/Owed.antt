-- What a thread knows of an answer, and what it owes at an access: a record of laws. A class of accesses is a lemma that
-- gives this record; a new class is a new file. Source: own.
use Rattle.std.specs.Prelude.{true, ◌≡◌, ◌≢◌, ℕ, ◌+◌, ◌*◌, ◌%◌, ◌^◌, ◌<◌, ◌≤◌, List, [], ◌∷◌, length, slice_index, Option, Some, option_map}
use Rattle.cet_words.specs.Layout.{token, token_word, first_kernel_page, first_shadow_page, shadow_start}
use Rattle.cet_words.specs.Access.{answer, after}
use Rattle.cet_words.specs.Job.{JobData, ImageData}
use Rattle.cet_words.specs.Change.{Change}
use Rattle.cet_words.specs.declared.accesses.Access.{Access}
use Rattle.cet_words.specs.declared.accesses.Access.TheVariants as access
use Rattle.cet_book.specs.Facts.{IsParkedAt, Place, LiesIn}
use Rattle.cet_book.specs.declared.entries.Entry.{Entry}
use Rattle.cet_book.specs.Book.{Book, region, top, current_of, stack_of, books_after}
use Rattle.cet_book.specs.Relied.{Relies, relies_same, relies_then}
use Rattle.cet_book.specs.Stack.{slot, word_of, tops}
use Rattle.cet_own.specs.Frame.{Rules}
use Rattle.cet_own.specs.Holds.{Sound, Holds}
use Rattle.cet_own.specs.Facts.{IsRestorer, IsEntry, busy, OwnWord}
use Rattle.cet_page.specs.Trail.{Visit}
use Rattle.cet_own.specs.Past.{next_word, draw_word, left_in, restorer_word, has_restorer}
use Rattle.cet_own.specs.Claims.{Still, KeepsRestorers, TellsBelow, HasNone, CountsBy, Fits, NotesGate}

-- what claims speak of
pub record State : Type 0 where
  pub book : Book

abbrev pub state_after : (t : ℕ) → State → List Change → Option State
state_after t s changes = option_map (λ b. record s { book = b }) (books_after t s.book changes)

-- the word is that of the newest entry
abbrev pub HeadWord : (tops : ℕ → ℕ) → (addr : ℕ) → List Entry → (word : ℕ) → Type 0
HeadWord tops addr [] word = Unit {0}
HeadWord tops addr (e ∷ es) word = word ≡ word_of tops addr e

-- what is known at an access of thread t
pub record Known (image : ImageData) (t : ℕ) (past : List Visit) (b : Book) (a : Access) (v : ℕ) : Type 0 where
  pub sound : Sound b
  pub entry : (page : ℕ) → a ≡ access.Look page → IsEntry image page v
  -- a present page of the shadow area lies in a region, for good
  pub look : (page : ℕ) → a ≡ access.Look page → first_shadow_page ≤ page → page < first_kernel_page → v ≢ 0 → (i : ℕ) × LiesIn (region b i) page
  -- the word at the top is the newest entry's
  pub head : current_of t b < length b.regions → a ≡ access.Load (slot (top (region b (current_of t b)))) → HeadWord (tops b) (top (region b (current_of t b))) (region b (current_of t b)).entries v
  -- what the row has seen of a word of its own is still there
  pub left : (w x : ℕ) → OwnWord t b w → left_in past w ≡ Some x → a ≡ access.Load w → v ≡ x
  -- and a signal that it has seen to have a restorer has one
  pub restorer : (s : ℕ) → s < 64 → has_restorer past s ≡ true → a ≡ access.Load (restorer_word s) → v ≢ 0
  -- what stands as a restorer is code
  pub code : (s : ℕ) → s < 64 → a ≡ access.Load (restorer_word s) → IsRestorer image v
  -- an exchange finds a restore token exactly where a parked region has it
  pub finds : (p expected value : ℕ) → Place p → a ≡ access.CompareExchange (slot p) expected value → v ≡ p + 9 → (q : ℕ) × IsParkedAt p (region b q)
  pub stands : (p q expected value : ℕ) → IsParkedAt p (region b q) → a ≡ access.CompareExchange (slot p) expected value → v ≡ p + 9
  -- what a draw finds lies above every region, and the sum doesn't wrap
  pub draw : (n : ℕ) → a ≡ access.FetchAdd draw_word n → (i : ℕ) → (region b i).end ≤ shadow_start + 4096 * v
  pub few : (n : ℕ) → a ≡ access.FetchAdd draw_word n → v + 1024 ≤ 2 ^ 64
  -- the number that a birth finds is that of a thread not yet born
  pub fresh : (n : ℕ) → a ≡ access.FetchAdd next_word n → v < 32 → HasNone v b
  pub next_few : (n : ℕ) → a ≡ access.FetchAdd next_word n → v + 1 < 2 ^ 64
  -- a supervisor token tells whether its stack has a holder
  pub gate : (k expected value : ℕ) → k < 8 → a ≡ access.CompareExchange (token_word k) expected value → v ≡ token k + busy (stack_of b k)

-- What thread t, whose processor has supervisor stack k, owes at an access with this answer and these changes. Each law is
-- said of any words that give the answer and are in step with the book.
pub record Owed (image : ImageData) (t k : ℕ) (past : List Visit) (b : Book) (a : Access) (v : ℕ) (changes : List Change) : Type 0 where
  -- they stay in step
  pub keeps : (words : List ℕ) (next : Book) → v ≡ answer words a → Holds image words b → Still words t b past → books_after t b changes ≡ Some next → Holds image (after words a) next
  -- no word of another thread's own is changed
  pub spares : (words : List ℕ) → v ≡ answer words a → Holds image words b → (y : ℕ) → t ≢ y → (w : ℕ) → OwnWord y b w → slice_index (after words a) w ≡ slice_index words w
  -- no signal loses its restorer
  pub restorers : (words : List ℕ) → v ≡ answer words a → Holds image words b → KeepsRestorers words (after words a)
  -- counters grow once in a row, and births come with theirs alone
  pub counts : (words : List ℕ) → v ≡ answer words a → Holds image words b → CountsBy t past b a v changes
  -- below the token of a stack of its own it reads or leaves the kernel's return address
  pub below : (words : List ℕ) → v ≡ answer words a → Holds image words b → TellsBelow t b a v
  -- the supervisor stack that the thread holds is what the answer says, and its own
  pub notes : (words : List ℕ) → v ≡ answer words a → Holds image words b → NotesGate k a v changes
  -- the changes are of the class of the access
  pub fits : (words : List ℕ) → v ≡ answer words a → Holds image words b → Fits t past b a v changes

-- the supervisor stack of the processor of thread t
abbrev pub own_stack : JobData → (t : ℕ) → ℕ
own_stack job t = t % job.procs

abbrev pub rules : JobData → (t : ℕ) → Rules State
rules job t = record {
  Rely = λ s now. Relies t s.book now.book;
  same = λ s. relies_same t s.book;
  again = λ s now later r l. relies_then r l;
  Known = λ past s a v. Known job.image t past s.book a v;
  Owed = λ past s a v changes. Owed job.image t (own_stack job t) past s.book a v changes;
  after = λ s changes. state_after t s changes;
}
