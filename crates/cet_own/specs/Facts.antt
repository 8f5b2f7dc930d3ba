-- The facts of the ownership invariant, of words, threads and book. Source: own.
use Rattle.std.specs.Prelude.{◌≡◌, ◌≢◌, ℕ, ◌+◌, ◌-◌, ◌*◌, ◌%◌, ◌<◌, ◌≤◌, ◌⊎◌, true, List, [], ◌∷◌, length, slice_index}
use Rattle.std.specs.Prelude.{slice_get, sum_by, min, if◌then◌else◌, Option, Some, None, is_some}
use Rattle.cet_words.specs.Entries.{entry_of}
use Rattle.cet_words.specs.Bytes.{code_byte}
use Rattle.cet_words.specs.Job.{JobData, ImageData}
use Rattle.cet_words.specs.declared.accesses.Access.{Access}
use Rattle.cet_words.specs.declared.accesses.Access.TheVariants as access
use Rattle.cet_words.specs.Layout.{entry_word, token, token_word, action_word, first_kernel_page, first_mmap_page, first_shadow_page, page_count, shadow_start, thread_limit, thread_region_size, kernel_return}
use Rattle.cet_book.specs.declared.entries.Holder.TheVariants.{Lost, Maker}
use Rattle.cet_book.specs.Book.{Book, region, stack_of}
use Rattle.cet_book.specs.Facts.{Bounds, In, Place, LiesIn, Owns, one, Returns}
use Rattle.cet_book.specs.Stack.{slot, slot_word}
use Rattle.cet_page.specs.Core.{Core}
use Rattle.cet_page.specs.Machine.{Machine, Thread}
use Rattle.cet_page.specs.Trail.{Visit, trail_of}
use Rattle.cet_page.specs.Within.{IsCore}
use Rattle.cet_own.specs.Past.{held_in, left_in, left_row, restorer_word, has_restorer, draw_word, next_word, drew, numbered, NewStack, claimed_in}

-- ---- pages and tokens

-- a word that is 0 or the one present entry of a page
abbrev pub IsEntry : ImageData → (page word : ℕ) → Type 0
IsEntry image page word = (word ≡ 0) ⊎ (word ≡ entry_of image page)

-- present pages of the shadow area lie in regions; words outside them, and of one that is being made, are 0
pub record ShadowPages (words : List ℕ) (b : Book) : Type 0 where
  pub present : (page : ℕ) → first_shadow_page ≤ page → page < first_kernel_page → slice_index words (entry_word page) ≢ 0 → (i : ℕ) × LiesIn (region b i) page
  pub outside : (p : ℕ) → Place p → ((i : ℕ) → In (region b i) p → ⊥) → slot_word words p ≡ 0
  pub making : (p t i : ℕ) → Place p → (region b i).holder ≡ Maker t → In (region b i) p → slot_word words p ≡ 0
  pub empty : (t i : ℕ) → (region b i).holder ≡ Maker t → (region b i).entries ≡ []

abbrev pub busy : Option ℕ → ℕ
busy None = 0
busy (Some t) = 1

-- ---- what the present row of a thread has seen

-- the address lies in regions that are current on the thread or made by it, or in none
pub record IsOwnPlace (t : ℕ) (b : Book) (addr : ℕ) : Type 0 where
  pub each : (i : ℕ) → In (region b i) addr → Owns t (region b i).holder

-- a word that no other thread writes: one of these, or the one below the token of a supervisor stack that the thread holds
pub data OwnWord (t : ℕ) (b : Book) (word : ℕ) : Type 0 where
  own_slot : (addr : ℕ) → Place addr → IsOwnPlace t b addr → word ≡ slot addr → OwnWord t b word
  below_token : (k : ℕ) → k < 8 → stack_of b k ≡ Some t → word ≡ token_word k - 1 → OwnWord t b word

-- a region of the book that the thread makes, or that nobody has
pub record IsClaimed (t : ℕ) (c : NewStack) (b : Book) : Type 0 where
  pub number : ℕ
  pub there : number < length b.regions
  pub first : (region b number).start ≡ c.start
  pub last : (region b number).end ≡ c.start + 4096 * c.pages
  pub holder : (region b number).holder ≡ (if c.making then Maker t else Lost)

abbrev pub HasClaimed : ℕ → Option NewStack → Book → Type 0
HasClaimed t None b = Unit {0}
HasClaimed t (Some c) b = IsClaimed t c b

-- ---- signals

-- what stands as a restorer is 0, or an address of an executable page
abbrev pub IsRestorer : ImageData → (word : ℕ) → Type 0
IsRestorer image word = (word ≡ 0) ⊎ (code_byte image.segments word ≢ None)

pub record Restorers (image : ImageData) (words : List ℕ) : Type 0 where
  pub executable : (s : ℕ) → s < 64 → IsRestorer image (slice_index words (restorer_word s))
  -- and it isn't 0 where the handler is neither the default nor ignoring
  pub shown : (s : ℕ) → s < 64 → 1 < slice_index words (action_word s) → slice_index words (restorer_word s) ≢ 0

-- ---- counters

-- one for each record of a thread, and one where its present row has drawn pages, or the number of a thread
abbrev pub paid_draws : JobData → Core → ℕ
paid_draws job core = core.arch.count + one (drew (trail_of job core))

abbrev pub paid_births : JobData → Core → ℕ
paid_births job core = core.arch.count + one (numbered (trail_of job core))

abbrev pub thread_draws : JobData → Thread → ℕ
thread_draws job thread = paid_draws job thread.core

abbrev pub thread_births : JobData → Thread → ℕ
thread_births job thread = paid_births job thread.core

pub record Counters (words : List ℕ) (threads : List Thread) (b : Book) : Type 0 where
  -- every region ends at or below the next page to be drawn
  pub drawn : (i : ℕ) → (region b i).end ≤ shadow_start + 4096 * slice_index words draw_word
  pub least : 1 ≤ slice_index words next_word
  pub number : length threads ≡ min (slice_index words next_word) thread_limit

pub record Counts (job : JobData) (words : List ℕ) (threads : List Thread) : Type 0 where
  pub most : (t : ℕ) (thread : Thread) → slice_get threads t ≡ Some thread → thread.core.arch.count ≤ job.limit
  pub below : (t : ℕ) (thread : Thread) → slice_get threads t ≡ Some thread → thread.core.over ≡ None → thread.core.arch.count < job.limit
  -- a row draws at most 1,023 pages, and one number
  pub draws : slice_index words draw_word ≤ 9 + 1023 * sum_by (thread_draws job) threads
  pub births : slice_index words next_word ≤ 1 + sum_by (thread_births job) threads

-- ---- regions

-- the region that the kernel made for a thread: eight pages from its start on
pub record HasMade (made : ℕ) (b : Book) : Type 0 where
  pub number : ℕ
  pub there : number < length b.regions
  pub first : (region b number).start ≡ made
  pub last : (region b number).end ≡ made + thread_region_size

pub record AllBounds (image : ImageData) (words : List ℕ) (b : Book) : Type 0 where
  pub regions : (i : ℕ) → i < length b.regions → Bounds (region b i).start (region b i).end
  pub room : (i : ℕ) → (region b i).start + 8 * length (region b i).entries ≤ (region b i).end
  pub returns : Returns b
  pub entries : (page : ℕ) → IsEntry image page (slice_index words (entry_word page))
  -- image, main stack and kernel pages keep the entries of the start
  pub fixed : (page : ℕ) → (page < first_mmap_page) ⊎ ((first_kernel_page ≤ page) × (page < page_count)) → slice_index words (entry_word page) ≡ entry_of image page

-- ---- rows

-- What an answer has told. A look has found 0 or the page's one present value, and a page of the shadow area that was present lies
-- in a region. A restorer that was loaded is code, and not 0 where the row had seen that its signal has one.
abbrev pub HasTold : ImageData → Book → (past : List Visit) → Access → (answer : ℕ) → Type 0
HasTold image b past (access.Look page) v =
    IsEntry image page v × (first_shadow_page ≤ page → page < first_kernel_page → v ≢ 0 → (i : ℕ) × LiesIn (region b i) page)
HasTold image b past (access.Load word) v =
    (s : ℕ) → s < 64 → word ≡ restorer_word s → IsRestorer image v × (has_restorer past s ≡ true → v ≢ 0)
HasTold image b past a v = Unit {0}

-- of each access of a row
abbrev pub AllTold : ImageData → Book → List Visit → Type 0
AllTold image b [] = Unit {0}
AllTold image b (x ∷ past) = HasTold image b past x.access x.answer × AllTold image b past

pub record RowValues (job : JobData) (words : List ℕ) (b : Book) (core : Core) : Type 0 where
  -- a row that isn't done waits for an access after those that it has made
  pub waits : IsCore job core
  -- a signal that it has seen to have a restorer has one
  pub restorer : (s : ℕ) → s < 64 → has_restorer (trail_of job core) s ≡ true → slice_index words (restorer_word s) ≢ 0
  -- it holds the supervisor stack that its gate's first exchange has taken, and none before its first access
  pub held : core.arch.held ≡ held_in (trail_of job core)
  -- which is that of its processor
  pub own : (k : ℕ) → core.arch.held ≡ Some k → k ≡ core.arch.number % job.procs
  -- what it has seen of page entries and restorers
  pub told : AllTold job.image b (trail_of job core)

-- ---- threads in the kernel and in their rows

pub record SupervisorTokens (job : JobData) (m : Machine) (b : Book) : Type 0 where
  -- a supervisor stack's token is busy where the stack has a holder
  pub token : (k : ℕ) → k < 8 → slice_index m.words (token_word k) ≡ token k + busy (stack_of b k)
  -- and below the token of a stack that a thread holds stands the kernel's return address, from its store there on
  pub below : (t : ℕ) (thread : Thread) → slice_get m.threads t ≡ Some thread → (k : ℕ) → stack_of b k ≡ Some t → is_some (left_in (trail_of job thread.core) (token_word k - 1)) ≡ true →
      slice_index m.words (token_word k - 1) ≡ kernel_return

pub record SteadyRow (job : JobData) (words : List ℕ) (b : Book) (t : ℕ) (core : Core) : Type 0 where
  -- what a row has read or written in a word of the thread's own shadow stacks is still there
  pub word : (addr x : ℕ) → Place addr → IsOwnPlace t b addr → left_row (trail_of job core) (slot addr) ≡ Some x → slot_word words addr ≡ x
  -- and so is what it has, since it took a supervisor stack, below the token of that one
  pub below : (k x : ℕ) → k < 8 → stack_of b k ≡ Some t → left_in (trail_of job core) (token_word k - 1) ≡ Some x → slice_index words (token_word k - 1) ≡ x
  -- the stack that it has claimed is in the book, and nobody else's
  pub claimed : HasClaimed t (claimed_in (trail_of job core)) b
