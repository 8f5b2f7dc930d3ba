-- Which shadow stacks a report shows, and when words and pointers tell it: the report lists the stacks in view with their
-- words. Source: own.
use Rattle.std.proofs.Common.{zero, suc}
use Rattle.std.specs.Prelude.{◌≡◌, ℕ, ◌+◌, ◌-◌, ◌/◌, ◌%◌, ◌<◌, ◌≤◌, ◌⊎◌, ◌↔◌, Bool, true, false, List, [], ◌∷◌, map, length, All, slice_index, slice_index_or}
use Rattle.cet_words.specs.Job.{ImageData}
use Rattle.cet_words.specs.Layout.{entry_word, first_kernel_page, first_mmap_page, first_region_start, page_count, last_region_end}
use Rattle.cet_words.specs.Entries.{entry_of}
use Rattle.cet_book.specs.Book.{Region, Book, region, top, capacity}
use Rattle.cet_book.specs.Facts.{Place, Stack, IsParkedAt, is_left, one, links, Returns}
use Rattle.cet_book.specs.Stack.{slot_word, tops, words_of}
use Rattle.cet_book.specs.declared.entries.Holder.{Holder}
use Rattle.cet_book.specs.declared.entries.Holder.TheVariants.{Maker, Current, Parked, Left, Lost}
use Rattle.cet_book.specs.declared.regions.Region as given
use Rattle.cet_book.specs.declared.regions.Shown.{Shown}
use Rattle.cet_book.specs.declared.regions.Shown.TheVariants as shown
use Rattle.cet_book.specs.declared.regions.StackReport.{StackReport}

-- the addresses that a region has, without entries and holder
abbrev pub Span : Type 0
Span = given.Region

-- ---- what is shown of a book

-- A stack in view is current or parked, or was left for one in view. `most` is more than the stacks passed on the way, so a
-- circle of stacks left for one another is out of view.
abbrev pub in_view : Book → (most : ℕ) → Holder → Bool
in_view b zero h = false
in_view b (suc most) (Maker t) = false
in_view b (suc most) (Current t) = true
in_view b (suc most) Parked = true
in_view b (suc most) (Left q) = in_view b most (region b q).holder
in_view b (suc most) Lost = false

-- how a stack in view is shown
abbrev pub shown_of : Holder → Shown
shown_of (Maker t) = shown.Lost
shown_of (Current t) = shown.Current t
shown_of Parked = shown.Parked
shown_of (Left q) = shown.Left
shown_of Lost = shown.Lost

abbrev pub span_of : Region → Span
span_of r = record { start = r.start; end = r.end }

-- in view: the holder, and the words of the entries with the newest first; else lost, and no words
abbrev pub shown_if : Book → Region → Bool → StackReport
shown_if b r true = record { region = span_of r; shown = shown_of r.holder; words = words_of (tops b) (top r) r.entries }
shown_if b r false = record { region = span_of r; shown = shown.Lost; words = [] }

abbrev pub shown_region : Book → Region → StackReport
shown_region b r = shown_if b r (in_view b (length b.regions) r.holder)

-- ---- words of memory

-- the words from an address of the shadow area on
unfoldable pub words_from : List ℕ → (addr count : ℕ) → List ℕ
words_from words addr zero = []
words_from words addr (suc count) = slot_word words addr ∷ words_from words (addr + 8) count

-- the words of a region with the one below it, in which the restore token of a full stack stands
abbrev pub region_words : List ℕ → Span → List ℕ
region_words words r = words_from words (r.start - 8) ((r.end - (r.start - 8)) / 8)

-- ---- which regions and shadow-stack pointers may be given

-- whole pages between the first and the last page of the shadow area, perhaps none
pub record IsSpan (r : Span) : Type 0 where
  pub low : first_region_start ≤ r.start
  pub order : r.start ≤ r.end
  pub high : r.end ≤ last_region_end
  pub first : r.start % 4096 ≡ 0
  pub last : r.end % 4096 ≡ 0

abbrev pub no_span : Span
no_span = record { start = 0; end = 0 }

-- the address lies in the region, or is its end
pub record Has (addr : ℕ) (r : Span) : Type 0 where
  pub low : r.start ≤ addr
  pub high : addr ≤ r.end

pub record IsReadable (regions : List Span) (ssps : List (ℕ × ℕ)) : Type 0 where
  pub each : All IsSpan regions
  -- no address is in two regions, ends included
  pub apart : (i j a : ℕ) → i < length regions → j < length regions → Has a (slice_index_or regions i no_span) → Has a (slice_index_or regions j no_span) → i ≡ j
  -- each pointer is in one of them, and a multiple of 8
  pub pointers : (k : ℕ) → k < length ssps → (i : ℕ) × (i < length regions) × Has (slice_index_or ssps k (0, 0)).1 (slice_index_or regions i no_span)
  pub aligned : (k : ℕ) → k < length ssps → (slice_index_or ssps k (0, 0)).1 % 8 ≡ 0

-- ---- words and a book in step

-- Four facts of the ownership invariant: entries have their words, restore tokens stand for parked stacks alone, previous-SSP
-- tokens and stacks that were left tell the same, and bounds.
pub record InStep (image : ImageData) (words : List ℕ) (b : Book) : Type 0 where
  pub entries_written : (i : ℕ) → i < length b.regions → Stack words (tops b) (top (region b i)) (region b i).entries
  -- p + 9 is p + 8 with the low bit set, since p is a multiple of 8
  pub tokens : (p : ℕ) → Place p → (slot_word words p ≡ p + 9) ↔ ((i : ℕ) × IsParkedAt p (region b i))
  pub previous_left : (q s : ℕ) → links s (region b q).entries ≡ one (is_left q (region b s).holder)
  pub low : (i : ℕ) → i < length b.regions → (first_region_start ≤ (region b i).start) × (first_region_start ≤ (region b i).end)
  pub high : (i : ℕ) → i < length b.regions → ((region b i).start ≤ last_region_end) × ((region b i).end ≤ last_region_end)
  pub first : (i : ℕ) → i < length b.regions → (region b i).start % 4096 ≡ 0
  pub last : (i : ℕ) → i < length b.regions → (region b i).end % 4096 ≡ 0
  pub room : (i : ℕ) → i < length b.regions → length (region b i).entries ≤ capacity (region b i)
  pub returns : Returns b
  pub entries : (page : ℕ) → page < page_count → (slice_index words (entry_word page) ≡ 0) ⊎ (slice_index words (entry_word page) ≡ entry_of image page)
  pub fixed : (page : ℕ) → (page < first_mmap_page) ⊎ ((first_kernel_page ≤ page) × (page < page_count)) → slice_index words (entry_word page) ≡ entry_of image page

-- ---- the regions of a book that are given

-- a thread is on the stack, it is parked, or it was left
abbrev pub IsKept : Holder → Type 0
IsKept (Maker t) = ⊥
IsKept (Current t) = Unit {0}
IsKept Parked = Unit {0}
IsKept (Left q) = Unit {0}
IsKept Lost = ⊥

-- region i is the k-th of those given
pub record Given (numbers : List ℕ) (i k : ℕ) : Type 0 where
  pub inside : k < length numbers
  pub is : slice_index numbers k ≡ i

-- the k-th pointer is the top of region i, on which its thread is
pub record Points (b : Book) (ssps : List (ℕ × ℕ)) (k i : ℕ) : Type 0 where
  pub inside : i < length b.regions
  pub current : (region b i).holder ≡ Current (slice_index_or ssps k (0, 0)).0
  pub at : (slice_index_or ssps k (0, 0)).1 ≡ top (region b i)

-- The regions given are those of a book with these numbers, with all that are kept, and the pointers are the tops of the
-- current ones. In which order they come is free.
pub record Covers (b : Book) (numbers : List ℕ) (regions : List Span) (ssps : List (ℕ × ℕ)) : Type 0 where
  pub are : map (λ i. span_of (region b i)) numbers ≡ regions
  pub there : (k : ℕ) → k < length numbers → slice_index numbers k < length b.regions
  pub all : (i : ℕ) → i < length b.regions → IsKept (region b i).holder → (k : ℕ) × Given numbers i k
  pub tops : (k : ℕ) → k < length ssps → (i : ℕ) × Points b ssps k i
  pub each : (i : ℕ) → i < length b.regions → (t : ℕ) → (region b i).holder ≡ Current t → (k : ℕ) × (k < length ssps) × Points b ssps k i
