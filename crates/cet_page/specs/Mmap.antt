-- mmap (9) and munmap (11), which make pages of the mmap area present, and pages of both areas absent. Source: Linux, mmap(2),
-- for the numbers, flags and errors. Own: that one kind of mapping exists, the order of the tests, that places are drawn from
-- a counter and never given back, and which ranges may be unmapped.
use Rattle.std.specs.Prelude.{ℕ, ◌+◌, ◌-◌, ◌*◌, ◌/◌, ◌%◌, ◌^◌, ◌==◌, ◌&&◌, ◌||◌, nat_le, nat_lt, Bool, if◌then◌else◌, Option, Some, None}
use Rattle.cet_words.specs.Entries.{data_entry}
use Rattle.cet_words.specs.Layout.{area_pages, draw_mmap_word, entry_word, first_mmap_page, first_shadow_page, mmap_end, mmap_start, page_up, pages_of, shadow_end, shadow_start}
use Rattle.cet_isa.specs.declared.threads.Arch.{Arch}
use Rattle.cet_page.specs.Finish.{r10, rdi, rdx, rsi}
use Rattle.cet_page.specs.Gate.{Work, failed, serve}
use Rattle.cet_page.specs.Parts.{clears, fetch_add, stores}
use Rattle.cet_page.specs.Script.{done, ◌>>=◌}
use Rattle.cet_page.specs.declared.services.Errno.{Errno}
use Rattle.cet_page.specs.declared.services.Errno.TheVariants as errno

-- ---- mmap

-- PROT_READ and PROT_WRITE
abbrev pub read_write : ℕ
read_write = 3

-- MAP_PRIVATE and MAP_ANONYMOUS, and these with MAP_STACK
abbrev pub private_anonymous : ℕ
private_anonymous = 0x22

abbrev pub private_anonymous_stack : ℕ
private_anonymous_stack = 0x20022

-- some bytes that may be read and written, at no place that is asked for
abbrev pub is_anonymous : (address length rights flags : ℕ) → Bool
is_anonymous address length rights flags =
    address == 0 && nat_lt 0 length && rights == read_write && (flags == private_anonymous || flags == private_anonymous_stack)

-- the error of the arguments, by the first test that fails
abbrev pub map_refused : (address length rights flags : ℕ) → Option Errno
map_refused address length rights flags =
    if is_anonymous address length rights flags
    then (if nat_lt area_pages (pages_of length) then Some errno.NoMem else None)
    else Some errno.Inval

-- the counter gave this many pages of the mmap area before
abbrev pub can_map : (pages drawn : ℕ) → Bool
can_map pages drawn = nat_le (drawn + pages) area_pages

-- the entries of the pages, the lowest first; the result is the address of the first page
unfoldable pub map_pages : Arch → (pages drawn : ℕ) → Work
map_pages arch pages drawn = do
  _ ← stores pages (entry_word (first_mmap_page + drawn)) (data_entry (first_mmap_page + drawn)) 4096
  done (serve arch (mmap_start + 4096 * drawn))

abbrev pub map_drawn : Arch → (pages drawn : ℕ) → Work
map_drawn arch pages drawn = if can_map pages drawn then map_pages arch pages drawn else done (failed arch errno.NoMem)

-- the place is drawn by one fetch-and-add, and the counter stays raised also where the draw fails
unfoldable pub draw_pages : Arch → (pages : ℕ) → Work
draw_pages arch pages = do
  drawn ← fetch_add draw_mmap_word pages
  map_drawn arch pages drawn

abbrev pub mmap_by : Arch → (length : ℕ) → Option Errno → Work
mmap_by arch length (Some error) = done (failed arch error)
mmap_by arch length None = draw_pages arch (pages_of length)

-- of an address, a length in bytes, rights and flags
abbrev pub mmap : Arch → Work
mmap arch = mmap_by arch (rsi arch) (map_refused (rdi arch) (rsi arch) (rdx arch) (r10 arch))

-- ---- munmap

-- so many bytes from an address on lie wholly in the area from start to end
abbrev pub lies_within : (start end address bytes : ℕ) → Bool
lies_within start end address bytes = nat_le start address && nat_le (address + bytes) end

-- the first page of so many bytes from an address on, where they lie wholly in the mmap area or wholly in the shadow area
abbrev pub area_page : (address bytes : ℕ) → Option ℕ
area_page address bytes =
    if lies_within mmap_start mmap_end address bytes then Some (first_mmap_page + (address - mmap_start) / 4096)
    else if lies_within shadow_start shadow_end address bytes then Some (first_shadow_page + (address - shadow_start) / 4096)
    else None

-- the first page of the range of an address and a length in bytes, rounded up to whole pages; none where the range is refused
abbrev pub unmapped_page : (address length : ℕ) → Option ℕ
unmapped_page address length =
    if nat_lt 0 (address % 4096) || length == 0 then None
    else if nat_le (2 ^ 64) (page_up length) || nat_le (2 ^ 64) (address + page_up length) then None
    else area_page address (page_up length)

-- also of pages that are absent
unfoldable pub unmap_pages : Arch → (pages page : ℕ) → Work
unmap_pages arch pages page = do
  _ ← clears pages page
  done (serve arch 0)

abbrev pub munmap_by : Arch → (length : ℕ) → Option ℕ → Work
munmap_by arch length None = done (failed arch errno.Inval)
munmap_by arch length (Some page) = unmap_pages arch (pages_of length) page

-- of an address and a length in bytes
abbrev pub munmap : Arch → Work
munmap arch = munmap_by arch (rsi arch) (unmapped_page (rdi arch) (rsi arch))
