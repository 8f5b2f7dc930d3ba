-- map_shadow_stack (453), which makes a shadow stack. Source: Linux, Documentation/arch/x86/shstk.rst. Own: the order of the
-- tests, and that places are drawn from a counter and never given back.
use Rattle.std.specs.Prelude.{ℕ, ◌+◌, ◌-◌, ◌*◌, ◌/◌, ◌%◌, ◌^◌, ◌==◌, ◌&&◌, ◌||◌, nat_le, nat_lt, Bool, if◌then◌else◌, List, [], ◌∷◌, Option, Some, None}
use Rattle.cet_words.specs.Change.{Change, Claimed, Seeded}
use Rattle.cet_words.specs.Entries.{shadow_entry}
use Rattle.cet_words.specs.Layout.{draw_shadow_word, entry_word, first_shadow_page, last_area_page, most_stack_pages, page_up, pages_of, shadow_start, word_in}
use Rattle.cet_isa.specs.declared.threads.Arch.{Arch}
use Rattle.cet_isa.specs.declared.threads.Record.{Record}
use Rattle.cet_isa.specs.declared.threads.What.TheVariants as what
use Rattle.cet_page.specs.Finish.{rdi, rdx, rsi}
use Rattle.cet_page.specs.Gate.{Work, failed, served}
use Rattle.cet_page.specs.Parts.{fetch_add_as, store_as, stores}
use Rattle.cet_page.specs.Script.{Script, done, ◌>>=◌}
use Rattle.cet_page.specs.Tokens.{restore_token}
use Rattle.cet_page.specs.declared.services.Errno.{Errno}
use Rattle.cet_page.specs.declared.services.Errno.TheVariants as errno
use Rattle.cet_page.specs.declared.finishes.Leaving.{Leaving}
use Rattle.cet_page.specs.declared.finishes.Leaving.TheVariants as leaving

-- ---- the draw

-- The counter gave this many pages of the shadow area before. The first page drawn stays absent, and the stack lies above it,
-- with a page of the area left above the stack.
abbrev pub can_draw : (pages drawn : ℕ) → Bool
can_draw pages drawn = nat_le (drawn + pages + 1) last_area_page

abbrev pub drawn_page : (drawn : ℕ) → ℕ
drawn_page drawn = first_shadow_page + (drawn + 1)

abbrev pub drawn_start : (drawn : ℕ) → ℕ
drawn_start drawn = shadow_start + 4096 * (drawn + 1)

-- ---- the stack that is made

-- with a restore token to come the region is in the making, and else it is nobody's
abbrev pub claimed_if : (pages : ℕ) → (token : Bool) → (drawn : ℕ) → List Change
claimed_if pages token drawn = if can_draw pages drawn then Claimed (drawn_start drawn) pages token ∷ [] else []

-- the word of the restore token of a stack of so many bytes from a start on
abbrev pub seed_word : (start size : ℕ) → ℕ
seed_word start size = word_in (first_shadow_page + (start + size - 8 - shadow_start) / 4096) (start + size - 8)

-- the restore token at the end of the bytes that were asked for; the words above it are blanks
abbrev pub seed_if : (start size pages : ℕ) → (token : Bool) → Script (Unit {0})
seed_if start size pages token =
    if token
    then store_as (Seeded start ((4096 * pages - size) / 8) ∷ []) (seed_word start size) (restore_token (start + size))
    else done tt

abbrev pub claimed : Arch → (start size : ℕ) → Arch × Record × Leaving
claimed arch start size = (
  served arch start,
  record { rip = arch.rip; what = what.Claim; code = 0; a = start; b = size },
  leaving.Back,
)

-- the entries of the pages, the lowest first, and the token
unfoldable pub fill_stack : Arch → (drawn size pages : ℕ) → (token : Bool) → Work
fill_stack arch drawn size pages token = do
  _ ← stores pages (entry_word (drawn_page drawn)) (shadow_entry (drawn_page drawn)) 4096
  _ ← seed_if (drawn_start drawn) size pages token
  done (claimed arch (drawn_start drawn) size)

abbrev pub fill_drawn : Arch → (size pages : ℕ) → (token : Bool) → (drawn : ℕ) → Work
fill_drawn arch size pages token drawn =
    if can_draw pages drawn then fill_stack arch drawn size pages token else done (failed arch errno.NoMem)

-- the place is drawn by one fetch-and-add, and the counter stays raised also where the draw fails
unfoldable pub draw_stack : Arch → (size pages : ℕ) → (token : Bool) → Work
draw_stack arch size pages token = do
  drawn ← fetch_add_as (claimed_if pages token) draw_shadow_word (pages + 1)
  fill_drawn arch size pages token drawn

-- ---- the call

-- the error of an address, a size in bytes and flags, by the first test that fails; bit 0 of the flags asks for a restore token
abbrev pub refused : (address size flags : ℕ) → Option Errno
refused address size flags =
    if nat_lt 1 flags then Some errno.Inval
    else if flags == 1 && nat_lt size 8 then Some errno.NoSpc
    else if nat_lt 0 address && nat_lt address (2 ^ 32) then Some errno.Range
    else if nat_le (2 ^ 64) (page_up size) then Some errno.Overflow
    else if size == 0 || (flags == 1 && nat_lt 0 (size % 8)) then Some errno.Inval
    else if nat_lt 0 address then Some errno.Exist
    else if nat_lt most_stack_pages (pages_of size) then Some errno.NoMem
    else None

abbrev pub map_by : Arch → (size flags : ℕ) → Option Errno → Work
map_by arch size flags (Some error) = done (failed arch error)
map_by arch size flags None = draw_stack arch size (pages_of size) (flags == 1)

abbrev pub map_shadow_stack : Arch → Work
map_shadow_stack arch = map_by arch (rsi arch) (rdx arch) (refused (rdi arch) (rsi arch) (rdx arch))
