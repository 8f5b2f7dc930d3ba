-- The one present entry of a page. Source: the bits of an entry of a 4-KByte page are those of the Intel SDM, volume 3A,
-- 4-level paging; which page has which rights is own.
use Rattle.std.specs.Prelude.{ℕ, ◌+◌, ◌*◌, ◌%◌, ◌^◌, ◌==◌, nat_lt, if◌then◌else◌, Option, Some, None, find}
use Rattle.cet_words.specs.declared.images.Segment.{Segment}
use Rattle.cet_words.specs.Layout.{first_stack_page, first_shadow_page, first_kernel_page}
use Rattle.cet_words.specs.Job.{ImageData, covers}

-- The present entry of a page with these low bits: P 1, R/W 2, U/S 4, A 32, D 64. Frame i + 256 stands in bits 51 to 12.
abbrev pub entry_with : ℕ → ℕ → ℕ
entry_with page bits = 4096 * (page + 256) + bits

-- execute-disable, bit 63
abbrev pub no_execute : ℕ
no_execute = 2 ^ 63

-- of a page of the main stack or the mmap area, which may be written
abbrev pub data_entry : (page : ℕ) → ℕ
data_entry page = no_execute + entry_with page 0x67

-- of a page of the shadow area: R/W clear and D set make it a shadow-stack page
abbrev pub shadow_entry : (page : ℕ) → ℕ
shadow_entry page = no_execute + entry_with page 0x65

-- of an image page in this segment, by the segment's rights; 0 of a page in no segment
abbrev pub segment_entry : ℕ → Option Segment → ℕ
segment_entry page None = 0
segment_entry page (Some s) =
    if s.exec then entry_with page 0x25
    else if s.write then no_execute + entry_with page 0x67
    else no_execute + entry_with page 0x25

-- the one present entry of a page, or 0 for a page that never is present
unfoldable pub entry_of : ImageData → ℕ → ℕ
entry_of image page =
    if nat_lt page first_stack_page then segment_entry page (find (covers (1024 + page)) image.segments)
    else if nat_lt page first_shadow_page then data_entry page
    else if nat_lt page first_kernel_page then shadow_entry page
    else if page == first_kernel_page then no_execute + entry_with page 0x63
    else if page % 2 == 0 then no_execute + entry_with page 0x61
    else 0
