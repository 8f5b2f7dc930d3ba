-- The services rt_sigaction (13), rt_sigprocmask (14) and tgkill (234). Source: Linux, sigaction(2), sigprocmask(2) and
-- tgkill(2), for the calls and their errors. Own: the order of tests, looks and accesses, and which flags and restorers are taken.
use Rattle.std.specs.Prelude.{ℕ, ◌+◌, ◌-◌, ◌==◌, ◌&&◌, ◌||◌, not, nat_le, nat_lt, min, Bool, true, is_some, if◌then◌else◌, bit_and, bit_or, [], ◌∷◌, Option, Some, None, Ok, Err}
use Rattle.cet_words.specs.Bytes.{code_byte}
use Rattle.cet_words.specs.Job.{JobData}
use Rattle.cet_words.specs.Layout.{action_word, next_thread_word, pend_word, thread_limit}
use Rattle.cet_isa.specs.declared.threads.Arch.{Arch}
use Rattle.cet_page.specs.Finish.{r10, rdi, rdx, rsi}
use Rattle.cet_page.specs.Gate.{Work, failed, serve}
use Rattle.cet_page.specs.Parts.{load, store, store_each, fetch_or}
use Rattle.cet_page.specs.Script.{Script, done, ◌>>=◌}
use Rattle.cet_page.specs.Structures.{Given, given_span, given_word, maskable, signal_bit, without}
use Rattle.cet_page.specs.declared.actions.Action.{Action}
use Rattle.cet_page.specs.declared.checks.Kind.TheVariants as kind
use Rattle.cet_page.specs.declared.services.Errno.TheVariants as errno

-- the size in bytes of a mask
abbrev pub mask_size : ℕ
mask_size = 8

-- signals are numbered from 1
abbrev pub last_signal : ℕ
last_signal = 31

-- ---- rt_sigaction

-- signals 9 and 19 have no action but the kill
abbrev pub is_fixed : (signal : ℕ) → Bool
is_fixed signal = (signal == 9) || (signal == 19)

abbrev pub action_refused : (signal new size : ℕ) → Bool
action_refused signal new size =
    not (size == mask_size) || (signal == 0) || nat_lt last_signal signal || (nat_lt 0 new && is_fixed signal)

-- SA_RESTORER must be set; SA_NODEFER, SA_RESTART and SA_SIGINFO may be, and no other flag
abbrev pub allowed_flags : (flags : ℕ) → Bool
allowed_flags flags = (bit_and flags 0x04000000 == 0x04000000) && (bit_or flags 0x54000004 == 0x54000004)

-- the handler returns to code of the image
abbrev pub is_code : JobData → (addr : ℕ) → Bool
is_code job addr = is_some (code_byte job.image.segments addr)

-- handlers 0 and 1 stand for the kill and for none
abbrev pub has_handler : Action → Bool
has_handler action = nat_lt 1 action.handler

abbrev pub is_allowed : JobData → Option Action → Bool
is_allowed job None = true
is_allowed job (Some action) = not (has_handler action) || (allowed_flags action.flags && is_code job action.restorer)

-- the four words of an action: handler, flags, restorer, mask
unfoldable pub load_action : (word : ℕ) → Script Action
load_action word = do
  handler ← load word
  flags ← load (word + 1)
  restorer ← load (word + 2)
  mask ← load (word + 3)
  done (record { handler = handler; flags = flags; restorer = restorer; mask = mask })

-- the action that is asked for, where there is one
unfoldable pub asked_action : Option ℕ → Script (Option Action)
asked_action None = done None
asked_action (Some word) = do
  action ← load_action word
  done (Some action)

-- the action of a signal is stored where it is asked for
unfoldable pub copy_action : (signal : ℕ) → Option ℕ → Script (Unit {0})
copy_action signal None = done tt
copy_action signal (Some word) = do
  action ← load_action (action_word signal)
  store_each word (action.handler ∷ action.flags ∷ action.restorer ∷ action.mask ∷ [])

-- a handler comes last: where it is seen, its restorer, flags and mask are there
unfoldable pub set_handler : (signal : ℕ) → Action → Script (Unit {0})
set_handler signal action = do
  _ ← store (action_word signal + 2) action.restorer
  _ ← store (action_word signal + 1) action.flags
  _ ← store (action_word signal + 3) action.mask
  store (action_word signal) action.handler

unfoldable pub set_action : (signal : ℕ) → Option Action → Script (Unit {0})
set_action signal None = done tt
set_action signal (Some action) =
    if has_handler action then set_handler signal action else store (action_word signal) action.handler

-- by the action that is asked for
unfoldable pub change_action : JobData → Arch → (old : Option ℕ) → Option Action → Work
change_action job arch old asked =
    if is_allowed job asked
    then (do
      _ ← copy_action (rdi arch) old
      _ ← set_action (rdi arch) asked
      done (serve arch 0))
    else done (failed arch errno.Inval)

-- by the words of both structures
unfoldable pub new_action : JobData → Arch → (new : Option ℕ) → Given → Work
new_action job arch new (Err error) = done (failed arch error)
new_action job arch new (Ok old) = do
  asked ← asked_action new
  change_action job arch old asked

-- by the word of the new action
unfoldable pub old_action : JobData → Arch → Given → Work
old_action job arch (Err error) = done (failed arch error)
old_action job arch (Ok new) = do
  old ← given_span kind.Store (rdx arch) 24
  new_action job arch new old

-- rt_sigaction of a signal, the address of its new action, that for its old one, and the size of a mask
unfoldable pub rt_sigaction : JobData → Arch → Work
rt_sigaction job arch =
    if action_refused (rdi arch) (rsi arch) (r10 arch)
    then done (failed arch errno.Inval)
    else (do
      new ← given_span kind.Load (rsi arch) 24
      old_action job arch new)

-- ---- rt_sigprocmask

-- SIG_BLOCK 0 adds, SIG_UNBLOCK 1 removes and SIG_SETMASK 2 sets
abbrev pub mask_refused : (how set size : ℕ) → Bool
mask_refused how set size = not (size == mask_size) || (nat_lt 0 set && nat_lt 2 how)

abbrev pub mask_by : (how mask set : ℕ) → ℕ
mask_by how mask set = if how == 0 then bit_or mask set else if how == 1 then without mask set else set

-- the mask stays where no set is given
abbrev pub new_mask : Arch → Option ℕ → ℕ
new_mask arch None = arch.mask
new_mask arch (Some set) = maskable (mask_by (rdi arch) arch.mask set)

unfoldable pub asked_mask : Arch → Option ℕ → Script ℕ
asked_mask arch None = done (new_mask arch None)
asked_mask arch (Some word) = do
  set ← load word
  done (new_mask arch (Some set))

unfoldable pub copy_mask : Arch → Option ℕ → Script (Unit {0})
copy_mask arch None = done tt
copy_mask arch (Some word) = store word arch.mask

-- by the words of both masks
unfoldable pub change_mask : Arch → (set : Option ℕ) → Given → Work
change_mask arch set (Err error) = done (failed arch error)
change_mask arch set (Ok old) = do
  mask ← asked_mask arch set
  _ ← copy_mask arch old
  done (serve (record arch { mask = mask }) 0)

-- by the word of the set
unfoldable pub old_mask : Arch → Given → Work
old_mask arch (Err error) = done (failed arch error)
old_mask arch (Ok set) = do
  old ← given_word kind.Store (rdx arch)
  change_mask arch set old

-- rt_sigprocmask: how, the address of a set, that for the old mask, and the size of a mask
unfoldable pub rt_sigprocmask : Arch → Work
rt_sigprocmask arch =
    if mask_refused (rdi arch) (rsi arch) (r10 arch)
    then done (failed arch errno.Inval)
    else (do
      set ← given_word kind.Load (rsi arch)
      old_mask arch set)

-- ---- tgkill

-- the process, and its first thread
abbrev pub group : ℕ
group = 1000

-- so many threads are born
abbrev pub is_thread : (born tid : ℕ) → Bool
is_thread born tid = nat_le group tid && nat_lt tid (group + min born thread_limit)

-- by the number of threads; signal 0 only asks for the thread
unfoldable pub post : Arch → (born : ℕ) → Work
post arch born =
    if not (is_thread born (rsi arch)) then done (failed arch errno.Srch)
    else if rdx arch == 0 then done (serve arch 0)
    else (do
      _ ← fetch_or (pend_word (rsi arch - group)) (signal_bit (rdx arch))
      done (serve arch 0))

-- tgkill of a group, a thread of it and a signal
unfoldable pub tgkill : Arch → Work
tgkill arch =
    if nat_lt last_signal (rdx arch) then done (failed arch errno.Inval)
    else if not (rdi arch == group) then done (failed arch errno.Srch)
    else (do
      born ← load next_thread_word
      post arch born)
