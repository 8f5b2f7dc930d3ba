-- Where pages and words lie: the machine's numbers, each by its name. Source: own; a page has 4,096 bytes and 512 words
-- of 8 bytes (Intel SDM volume 3A, 4-level paging).
use Rattle.std.specs.Prelude.{ℕ, ◌+◌, ◌-◌, ◌*◌, ◌/◌, ◌%◌, Bool, ◌&&◌, ◌==◌, nat_lt, nat_le, if◌then◌else◌, Option, Some, None, option_map}

-- ---- the ranges of addresses, each from its first address to the one past its end

abbrev pub image_start : ℕ
image_start = 0x400000

abbrev pub image_end : ℕ
image_end = 0x800000

-- the main stack
abbrev pub stack_start : ℕ
stack_start = 0x7ffc0000

abbrev pub stack_end : ℕ
stack_end = 0x80000000

abbrev pub mmap_start : ℕ
mmap_start = 0x100000000

abbrev pub mmap_end : ℕ
mmap_end = 0x100400000

abbrev pub shadow_start : ℕ
shadow_start = 0x200000000

abbrev pub shadow_end : ℕ
shadow_end = 0x200400000

abbrev pub kernel_start : ℕ
kernel_start = 0xffff800000000000

abbrev pub kernel_end : ℕ
kernel_end = 0xffff800000012000

-- the shadow stack of thread 0: pages 1 to 8 of the shadow area
abbrev pub first_region_start : ℕ
first_region_start = 0x200001000

abbrev pub first_region_end : ℕ
first_region_end = 0x200009000

-- the size of a thread's first shadow stack: eight pages
abbrev pub thread_region_size : ℕ
thread_region_size = 32768

-- where the last shadow stack ends: the last page of the shadow area is in none
abbrev pub last_region_end : ℕ
last_region_end = 0x2003ff000

-- how many pages the shadow area has, and the mmap area too
abbrev pub area_pages : ℕ
area_pages = 1024

-- The last page of the shadow area, by its number there: no draw goes past it, so it is in no shadow stack.
abbrev pub last_area_page : ℕ
last_area_page = 1023

-- a shadow stack has at most so many pages: the area's without one below it and the last
abbrev pub most_stack_pages : ℕ
most_stack_pages = 1022

-- ---- threads

-- how many threads there are at most
abbrev pub thread_limit : ℕ
thread_limit = 32

-- ---- pages by their numbers: the image's are those from 0 on

abbrev pub first_stack_page : ℕ
first_stack_page = 1024

abbrev pub first_mmap_page : ℕ
first_mmap_page = 1088

abbrev pub first_shadow_page : ℕ
first_shadow_page = 2112

abbrev pub first_kernel_page : ℕ
first_kernel_page = 3136

abbrev pub page_count : ℕ
page_count = 3154

-- ---- words by their numbers: the words of the pages in order, and after them one entry for each page

abbrev pub first_stack_word : ℕ
first_stack_word = 524288

abbrev pub first_shadow_word : ℕ
first_shadow_word = 1081344

abbrev pub first_kernel_word : ℕ
first_kernel_word = 1605632

abbrev pub first_entry_word : ℕ
first_entry_word = 1614848

abbrev pub word_count : ℕ
word_count = 1618002

-- ---- where an address lies

abbrev pub within : ℕ → ℕ → ℕ → Bool
within low high a = nat_le low a && nat_lt a high

-- the number of the page that holds an address: image, main stack, mmap area, shadow area, kernel area
unfoldable pub page_at : ℕ → Option ℕ
page_at addr =
    if within image_start image_end addr then Some ((addr - image_start) / 4096)
    else if within stack_start stack_end addr then Some (first_stack_page + (addr - stack_start) / 4096)
    else if within mmap_start mmap_end addr then Some (first_mmap_page + (addr - mmap_start) / 4096)
    else if within shadow_start shadow_end addr then Some (first_shadow_page + (addr - shadow_start) / 4096)
    else if within kernel_start kernel_end addr then Some (first_kernel_page + (addr - kernel_start) / 4096)
    else None

-- the number of the word that holds an address of a page
abbrev pub word_in : ℕ → ℕ → ℕ
word_in page addr = 512 * page + addr % 4096 / 8

-- the number of the word at an address, which is a multiple of 8
unfoldable pub word_at : ℕ → Option ℕ
word_at addr = if addr % 8 == 0 then option_map (λ page. word_in page addr) (page_at addr) else None

-- the word of a page's entry
abbrev pub entry_word : ℕ → ℕ
entry_word page = first_entry_word + page

-- how many whole pages hold so many bytes
abbrev pub pages_of : (bytes : ℕ) → ℕ
pages_of bytes = (bytes + 4095) / 4096

-- so many bytes, rounded up to whole pages
abbrev pub page_up : (bytes : ℕ) → ℕ
page_up bytes = 4096 * pages_of bytes

-- ---- the words of kernel page 0

-- whether the process is to end, and how
abbrev pub exit_word : ℕ
exit_word = 1605632

-- the number of the next thread to be born
abbrev pub next_thread_word : ℕ
next_thread_word = 1605633

-- how many pages of the shadow area have been drawn
abbrev pub draw_shadow_word : ℕ
draw_shadow_word = 1605634

-- how many pages of the mmap area have been drawn
abbrev pub draw_mmap_word : ℕ
draw_mmap_word = 1605635

-- the pending signals of a thread
abbrev pub pend_word : (thread : ℕ) → ℕ
pend_word thread = 1605664 + thread

-- the first word of the actions of signals
abbrev pub first_action_word : ℕ
first_action_word = 1605696

-- the action of a signal: its handler, and in the three words after it flags, restorer and mask
abbrev pub action_word : (signal : ℕ) → ℕ
action_word signal = first_action_word + 4 * signal

-- ---- supervisor stack k, which is kernel page 2k + 2

-- the address of its token, which is the token when free; it is odd when busy
abbrev pub token : (k : ℕ) → ℕ
token k = 0xffff800000002ff8 + 8192 * k

abbrev pub token_page : (k : ℕ) → ℕ
token_page k = 3138 + 2 * k

abbrev pub token_word : (k : ℕ) → ℕ
token_word k = 1607167 + 1024 * k

-- what the kernel's entry leaves below a held token
abbrev pub kernel_return : ℕ
kernel_return = 0xffff800000100000
