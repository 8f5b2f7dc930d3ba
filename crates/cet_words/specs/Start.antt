-- The words at the start, each by its number. Source: System V ABI for x86-64 (the bytes of a loaded segment, the rest
-- of its pages is 0); kernel words, tokens and the pages that are present are own.
use Rattle.std.specs.Prelude.{◌≡◌, ℕ, ◌+◌, ◌-◌, ◌*◌, ◌/◌, ◌%◌, ◌<◌, Bool, ◌&&◌, ◌||◌, ◌==◌, nat_lt, nat_le, if◌then◌else◌, List, [], ◌∷◌, length, slice_index, Option, Some, None, find}
use Rattle.std.specs.Int.{w64, from_le_bytes}
use Rattle.cet_words.specs.declared.images.Segment.{Segment}
use Rattle.cet_words.specs.Job.{ImageData, covers}
use Rattle.cet_words.specs.Layout.{image_start, kernel_start, first_mmap_page, first_shadow_page, first_kernel_page, first_stack_word, first_kernel_word, first_entry_word, word_count}
use Rattle.cet_words.specs.Entries.{entry_of}
use Rattle.cet_words.specs.Bytes.{segment_byte}

-- the byte of the segment that covers a page, or 0 where none does
abbrev pub covered_byte : Option Segment → ℕ → ℕ
covered_byte None addr = 0
covered_byte (Some s) addr = segment_byte s addr

-- the byte of an image at an address
unfoldable pub image_byte : List Segment → ℕ → ℕ
image_byte segments addr = covered_byte (find (covers (addr / 4096)) segments) addr

-- the little-endian number of the eight bytes from an address on
unfoldable pub word_of_bytes : (ℕ → ℕ) → ℕ → ℕ
word_of_bytes byte addr =
    from_le_bytes w64
    (byte addr ∷ byte (addr + 1) ∷ byte (addr + 2) ∷ byte (addr + 3) ∷ byte (addr + 4) ∷ byte (addr + 5) ∷
    byte (addr + 6) ∷ byte (addr + 7) ∷ [])

-- a word of the image's pages
unfoldable pub image_word : List Segment → ℕ → ℕ
image_word segments w = word_of_bytes (image_byte segments) (image_start + 8 * w)

-- the last word of the kernel pages 2, 4, .., 16, which holds the token of a supervisor stack
abbrev pub is_token : ℕ → Bool
is_token i = nat_lt 511 i && i % 1024 == 511

-- A word of the kernel pages by its index: the next thread is 1, the next draw of a shadow page is 9, and a free token
-- is its own address.
unfoldable pub kernel_word : ℕ → ℕ
kernel_word i = if i == 1 then 1 else if i == 2 then 9 else if is_token i then kernel_start + 8 * i else 0

-- image and main stack, pages 1 to 8 of the shadow area, and the kernel pages
abbrev pub is_present : ℕ → Bool
is_present page = nat_lt page first_mmap_page || nat_lt first_shadow_page page && nat_lt page (first_shadow_page + 9) || nat_le first_kernel_page page

-- a page's entry at the start
unfoldable pub start_entry : ImageData → ℕ → ℕ
start_entry image page = if is_present page then entry_of image page else 0

unfoldable pub start_word : ImageData → ℕ → ℕ
start_word image w =
    if nat_lt w first_stack_word then image_word image.segments w
    else if nat_lt w first_kernel_word then 0
    else if nat_lt w first_entry_word then kernel_word (w - first_kernel_word)
    else start_entry image (w - first_entry_word)

-- these are the words at the start
pub record IsStart (image : ImageData) (words : List ℕ) : Type 0 where
  pub size : length words ≡ word_count
  pub each : (w : ℕ) → w < word_count → slice_index words w ≡ start_word image w
