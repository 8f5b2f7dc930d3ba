-- The services of processes and threads: write, sched_yield, clone, exit, arch_prctl, gettid and exit_group. Source: Linux,
-- for their numbers (arch/x86/entry/syscalls), flags (include/uapi/linux/sched.h) and errors, and
-- Documentation/arch/x86/shstk.rst for arch_prctl. Own: the order of tests and accesses; that write takes 8 bytes at most;
-- that a child's shadow stack has eight pages; and that all features are locked.
use Rattle.std.specs.Prelude.{ℕ, ◌+◌, ◌-◌, ◌*◌, ◌/◌, ◌%◌, ◌^◌, Bool, true, ◌==◌, ◌&&◌, ◌||◌, nat_le, nat_lt, if◌then◌else◌, bit_or, List, [], ◌∷◌, Option, Some, None}
use Rattle.cet_words.specs.Change.{Change, Born}
use Rattle.cet_words.specs.Entries.{shadow_entry}
use Rattle.cet_words.specs.Layout.{draw_shadow_word, entry_word, exit_word, first_shadow_page, next_thread_word, shadow_start, thread_limit, thread_region_size, word_in}
use Rattle.cet_isa.specs.declared.threads.Arch.{Arch}
use Rattle.cet_isa.specs.declared.threads.Record.{Record}
use Rattle.cet_isa.specs.declared.threads.What.TheVariants as what
use Rattle.cet_page.specs.Finish.{counted, rax, rdi, rdx, rsi}
use Rattle.cet_page.specs.Gate.{Work, failed, serve, served, sys_record}
use Rattle.cet_page.specs.MapShadowStack.{can_draw, claimed_if, drawn_page, drawn_start}
use Rattle.cet_page.specs.Parts.{clears, compare_exchange, fetch_add_as, load, probe, store, stores}
use Rattle.cet_page.specs.Script.{Script, done, ◌>>=◌}
use Rattle.cet_page.specs.declared.checks.Kind.TheVariants as kind
use Rattle.cet_page.specs.declared.checks.Who.TheVariants.{User}
use Rattle.cet_page.specs.declared.services.Errno.TheVariants as errno
use Rattle.cet_page.specs.declared.finishes.Leaving.{Leaving}
use Rattle.cet_page.specs.declared.finishes.Leaving.TheVariants as leaving

-- ---- write (1)

-- so many bytes of two words, of which the lower one comes first, from a byte on; the first byte is the lowest
abbrev pub bytes_of : (low high offset count : ℕ) → ℕ
bytes_of low high offset count = (low + 2 ^ 64 * high) / 2 ^ (8 * offset) % 2 ^ (8 * count)

abbrev pub wrote : Arch → (count bytes : ℕ) → Arch × Record × Leaving
wrote arch count bytes = (
  served arch count,
  record { rip = arch.rip; what = what.Wrote; code = 0; a = count; b = bytes },
  leaving.Back,
)

-- the bytes lie in one word
abbrev pub in_one_word : (addr count : ℕ) → Bool
in_one_word addr count = nat_le (addr % 8 + count) 8

-- the word after it, where the bytes reach into it; it counts as 0 where they don't
unfoldable pub load_last : (addr count last : ℕ) → Script ℕ
load_last addr count last =
    if in_one_word addr count then done 0 else load (word_in last (addr + count - 1))

-- the words, that of the first byte first
unfoldable pub write_words : Arch → (addr count first last : ℕ) → Work
write_words arch addr count first last = do
  low ← load (word_in first addr)
  high ← load_last addr count last
  done (wrote arch count (bytes_of low high (addr % 8) count))

-- by whether the last byte's page allows a load
abbrev pub write_last : Arch → (addr count first : ℕ) → Option ℕ → Work
write_last arch addr count first None = done (failed arch errno.Fault)
write_last arch addr count first (Some last) = write_words arch addr count first last

-- the look at the last byte, where the first byte's page allows a load
unfoldable pub write_first : Arch → (addr count : ℕ) → Option ℕ → Work
write_first arch addr count None = done (failed arch errno.Fault)
write_first arch addr count (Some first) = do
  last ← probe kind.Load User (addr + count - 1)
  write_last arch addr count first last

-- both looks are made, also where they are at one page
unfoldable pub write_bytes : Arch → (addr count : ℕ) → Work
write_bytes arch addr count = do
  first ← probe kind.Load User addr
  write_first arch addr count first

-- a write takes so many bytes of a length
abbrev pub taken_of : (length : ℕ) → ℕ
taken_of length = if nat_le length 8 then length else 8

-- of a file, an address and a length in bytes; 1 is standard output and 2 is standard error
abbrev pub write_of : Arch → (file addr length : ℕ) → Work
write_of arch file addr length =
    if nat_lt file 1 || nat_lt 2 file then done (failed arch errno.BadF)
    else if length == 0 then done (serve arch 0)
    else if nat_lt (2 ^ 64) (addr + taken_of length) then done (failed arch errno.Fault)
    else write_bytes arch addr (taken_of length)

abbrev pub write : Arch → Work
write arch = write_of arch (rdi arch) (rsi arch) (rdx arch)

-- ---- sched_yield (24) and gettid (186)

abbrev pub sched_yield : Arch → Work
sched_yield arch = done (serve arch 0)

-- thread ids begin with the process's
abbrev pub thread_id : (number : ℕ) → ℕ
thread_id number = 1000 + number

abbrev pub gettid : Arch → Work
gettid arch = done (serve arch (thread_id arch.number))

-- ---- clone (56)

-- CLONE_VM, CLONE_SIGHAND and CLONE_THREAD
abbrev pub needed_flags : ℕ
needed_flags = 0x10900

-- CLONE_FS, CLONE_FILES and CLONE_SYSVSEM
abbrev pub allowed_flags : ℕ
allowed_flags = 0x40600

-- the flags have those that are needed, and no others but those that are allowed
abbrev pub makes_thread : (flags : ℕ) → Bool
makes_thread flags = bit_or flags allowed_flags == needed_flags + allowed_flags

-- a thread's shadow stack has so many pages
abbrev pub thread_pages : ℕ
thread_pages = 8

-- the answer is the child's number
abbrev pub born_if : (start child : ℕ) → List Change
born_if start child = if nat_lt child thread_limit then Born child start ∷ [] else []

abbrev pub bore : Arch → (child start : ℕ) → Arch × Record × Leaving
bore arch child start = (
  served arch (thread_id child),
  record { rip = arch.rip; what = what.Born; code = 0; a = child; b = start + thread_region_size },
  leaving.Back,
)

-- where no further thread can be, the pages become absent again
unfoldable pub give_up : Arch → (page : ℕ) → Work
give_up arch page = do
  _ ← clears thread_pages page
  done (failed arch errno.Again)

abbrev pub bear_by : Arch → (drawn child : ℕ) → Work
bear_by arch drawn child =
    if nat_lt child thread_limit
    then done (bore arch child (drawn_start drawn))
    else give_up arch (drawn_page drawn)

-- the entries of the pages, the lowest first, and the child's number, which one fetch-and-add draws
unfoldable pub bear : Arch → (drawn : ℕ) → Work
bear arch drawn = do
  _ ← stores thread_pages (entry_word (drawn_page drawn)) (shadow_entry (drawn_page drawn)) 4096
  child ← fetch_add_as (born_if (drawn_start drawn)) next_thread_word 1
  bear_by arch drawn child

abbrev pub bear_drawn : Arch → (drawn : ℕ) → Work
bear_drawn arch drawn = if can_draw thread_pages drawn then bear arch drawn else done (failed arch errno.NoMem)

-- the place of the shadow stack is drawn by one fetch-and-add, and the counter stays raised also where the draw fails
unfoldable pub draw_thread : Arch → Work
draw_thread arch = do
  drawn ← fetch_add_as (claimed_if thread_pages true) draw_shadow_word (thread_pages + 1)
  bear_drawn arch drawn

-- of flags and the child's program stack
abbrev pub clone_of : Arch → (flags stack : ℕ) → Work
clone_of arch flags stack =
    if makes_thread flags && nat_lt 0 stack then draw_thread arch else done (failed arch errno.Inval)

abbrev pub clone : Arch → Work
clone arch = clone_of arch (rdi arch) (rsi arch)

-- ---- exit (60) and exit_group (231)

-- the first page of the shadow stack that the kernel made
abbrev pub made_page : Arch → ℕ
made_page arch = first_shadow_page + (arch.made - shadow_start) / 4096

abbrev pub exit_status : Arch → ℕ
exit_status arch = rdi arch % 256

-- the thread ends
unfoldable pub exit : Arch → Work
exit arch = do
  _ ← clears thread_pages (made_page arch)
  done (counted arch, sys_record arch (exit_status arch), leaving.Ended (exit_status arch))

-- The process ends with the low byte of the status. EXIT becomes that byte and 256, where no thread has ended the process
-- before. The thread goes on to its next boundary.
unfoldable pub exit_group : Arch → Work
exit_group arch = do
  _ ← compare_exchange exit_word 0 (0x100 + exit_status arch)
  done (serve arch (exit_status arch))

-- ---- arch_prctl (158)

abbrev pub arch_shstk_enable : ℕ
arch_shstk_enable = 0x5001

abbrev pub arch_shstk_disable : ℕ
arch_shstk_disable = 0x5002

abbrev pub arch_shstk_lock : ℕ
arch_shstk_lock = 0x5003

abbrev pub arch_shstk_status : ℕ
arch_shstk_status = 0x5005

-- ENABLE and DISABLE name a feature, and all are locked
abbrev pub refuse_locked : Arch → (feature : ℕ) → Work
refuse_locked arch feature = done (failed arch (if feature == 0 then errno.Inval else errno.Perm))

-- by whether the page allows a store: feature 1, shadow stacks, is on
unfoldable pub put_status : Arch → (addr : ℕ) → Option ℕ → Work
put_status arch addr None = done (failed arch errno.Fault)
put_status arch addr (Some page) = do
  _ ← store (word_in page addr) 1
  done (serve arch 0)

unfoldable pub tell_status : Arch → (addr : ℕ) → Work
tell_status arch addr = do
  page ← probe kind.Store User addr
  put_status arch addr page

abbrev pub arch_prctl_of : Arch → (code argument : ℕ) → Work
arch_prctl_of arch code argument =
    if code == arch_shstk_enable || code == arch_shstk_disable then refuse_locked arch argument
    else if code == arch_shstk_lock then done (serve arch 0)
    else if code == arch_shstk_status then (if argument % 8 == 0 then tell_status arch argument else done (failed arch errno.Fault))
    else done (failed arch errno.Inval)

abbrev pub arch_prctl : Arch → Work
arch_prctl arch = arch_prctl_of arch (rdi arch) (rsi arch)

-- ---- the services by their numbers; every other one is no call

abbrev pub is_process_service : (number : ℕ) → Bool
is_process_service number =
    number == 1 || (number == 24 || (number == 56 || (number == 60 || (number == 158 || (number == 186 || number == 231)))))

abbrev pub process_service : Arch → Work
process_service arch =
    if rax arch == 1 then write arch
    else if rax arch == 24 then sched_yield arch
    else if rax arch == 56 then clone arch
    else if rax arch == 60 then exit arch
    else if rax arch == 158 then arch_prctl arch
    else if rax arch == 186 then gettid arch
    else if rax arch == 231 then exit_group arch
    else done (failed arch errno.NoSys)
