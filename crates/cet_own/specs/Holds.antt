-- Words and book in step: what ties each word that matters to the book. An access of any class keeps it. Source: own.
use Rattle.std.specs.Prelude.{◌≡◌, ◌≢◌, ℕ, ◌+◌, ◌-◌, ◌*◌, ◌<◌, ◌≤◌, ◌⊎◌, List, length, slice_index}
use Rattle.cet_words.specs.Entries.{entry_of}
use Rattle.cet_words.specs.Job.{ImageData}
use Rattle.cet_words.specs.Layout.{exit_word, entry_word, token, token_word, first_entry_word, first_kernel_page, first_kernel_word, first_mmap_page}
use Rattle.cet_words.specs.Layout.{first_shadow_page, first_shadow_word, page_count, shadow_start, word_count, first_action_word}
use Rattle.cet_book.specs.Facts.{In, LiesIn, Place, IsParkedAt, Returns, Stack}
use Rattle.cet_book.specs.declared.entries.Holder.{Holder}
use Rattle.cet_book.specs.declared.entries.Holder.TheVariants.{Maker, Current, Parked, Left, Lost}
use Rattle.cet_book.specs.Book.{Book, Region, region, top, stack_of}
use Rattle.cet_book.specs.Shape.{IsBook}
use Rattle.cet_book.specs.Stack.{slot_word, tops}
use Rattle.cet_own.specs.ExitWord.{IsExitWord}
use Rattle.cet_own.specs.Past.{draw_word, next_word}
use Rattle.cet_own.specs.Facts.{Restorers, IsEntry, busy}

-- the facts on the book alone
pub record Sound (b : Book) : Type 0 where
  pub book : IsBook b
  pub returns : Returns b

pub record Pages (image : ImageData) (words : List ℕ) (b : Book) : Type 0 where
  pub entries : (page : ℕ) → IsEntry image page (slice_index words (entry_word page))
  -- image, main stack and kernel pages keep theirs
  pub fixed : (page : ℕ) → (page < first_mmap_page) ⊎ ((first_kernel_page ≤ page) × (page < page_count)) → slice_index words (entry_word page) ≡ entry_of image page
  -- a present page of the shadow area lies in a region
  pub shadow : (page : ℕ) → first_shadow_page ≤ page → page < first_kernel_page → slice_index words (entry_word page) ≢ 0 → (i : ℕ) × LiesIn (region b i) page

-- the token of a supervisor stack is busy where the stack has a holder
abbrev pub Gates : List ℕ → Book → Type 0
Gates words b = (k : ℕ) → k < 8 → slice_index words (token_word k) ≡ token k + busy (stack_of b k)

-- a word of no signal
abbrev pub NoAction : (word : ℕ) → Type 0
NoAction word = (word < first_action_word) ⊎ (first_action_word + 256 ≤ word)

-- the region is being made
abbrev pub IsMaker : Holder → Type 0
IsMaker (Maker t) = Unit {0}
IsMaker (Current t) = ⊥
IsMaker Parked = ⊥
IsMaker (Left q) = ⊥
IsMaker Lost = ⊥

-- the address is one of a region whose making is over
pub record InUse (r : Region) (p : ℕ) : Type 0 where
  pub inside : In r p
  pub made : IsMaker r.holder → ⊥

pub record Marks (words : List ℕ) (b : Book) : Type 0 where
  -- each parked region has its token below its top, and no other word is a token
  pub parked : (i : ℕ) → (region b i).holder ≡ Parked → slot_word words (top (region b i) - 8) ≡ top (region b i) + 1
  pub token : (p : ℕ) → Place p → slot_word words p ≡ p + 9 → (i : ℕ) × IsParkedAt p (region b i)
  -- a word other than 0 lies in a region that isn't being made
  pub zeros : (p : ℕ) → Place p → slot_word words p ≢ 0 → (i : ℕ) × InUse (region b i) p
  -- every region ends at or below the next page to be drawn
  pub drawn : (i : ℕ) → (region b i).end ≤ shadow_start + 4096 * slice_index words draw_word

pub record Holds (image : ImageData) (words : List ℕ) (b : Book) : Type 0 where
  pub size : length words ≡ word_count
  pub sound : Sound b
  pub stacks : (i : ℕ) → Stack words (tops b) (top (region b i)) (region b i).entries
  pub pages : Pages image words b
  pub gates : Gates words b
  pub restorers : Restorers image words
  pub marks : Marks words b
  pub ending : IsExitWord (slice_index words exit_word)

-- a word on which the book says nothing: of no shadow stack, no page entry, no token nor the word below one, no signal, no counter, and not EXIT
pub record IsOut (word : ℕ) : Type 0 where
  pub shadow : (word < first_shadow_word) ⊎ (first_kernel_word ≤ word)
  pub entry : word < first_entry_word
  pub token : (k : ℕ) → k < 8 → token_word k ≢ word
  pub actions : NoAction word
  pub below : (k : ℕ) → k < 8 → token_word k - 1 ≢ word
  pub draw : word ≢ draw_word
  pub next : word ≢ next_word
  pub exit : word ≢ exit_word
