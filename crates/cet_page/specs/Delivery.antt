-- The delivery of a pending signal and of a due fault: the frame on the program stack, and two words on the shadow stack.
-- Source: Linux, Documentation/arch/x86/shstk.rst (signal) and signal(7); the frame's form and the order are own.
use Rattle.std.proofs.Common.{zero, suc}
use Rattle.std.specs.Prelude.{ℕ, ◌+◌, ◌-◌, ◌*◌, ◌/◌, ◌%◌, ◌^◌, ◌==◌, if◌then◌else◌, slice_index, slice_set, bit_and, bit_or, List, [], ◌∷◌, ◌++◌, Option, Some, None, option_map}
use Rattle.cet_words.specs.Change.{Pushed}
use Rattle.cet_words.specs.Layout.{action_word, pend_word, word_in}
use Rattle.cet_isa.specs.Address.{canonical}
use Rattle.cet_isa.specs.declared.threads.Arch.{Arch}
use Rattle.cet_isa.specs.declared.threads.Fault.{Fault}
use Rattle.cet_isa.specs.declared.threads.FaultName.{FaultName}
use Rattle.cet_isa.specs.declared.threads.FaultName.TheVariants.{Ud, Gp, Pf, Ac, Cp}
use Rattle.cet_isa.specs.declared.threads.Record.{Record}
use Rattle.cet_isa.specs.declared.threads.What.TheVariants as what
use Rattle.cet_page.specs.Finish.{rsp, counted}
use Rattle.cet_page.specs.Gate.{Work, is_masked, kill, signal_of}
use Rattle.cet_page.specs.Parts.{fetch_and, load, probe, store, store_as, store_each}
use Rattle.cet_page.specs.Script.{Script, done, ◌>>=◌}
use Rattle.cet_page.specs.Structures.{if_found, maskable, signal_bit, span}
use Rattle.cet_page.specs.Tokens.{frame_word}
use Rattle.cet_page.specs.Word64.{sub64}
use Rattle.cet_page.specs.declared.actions.Action.{Action}
use Rattle.cet_page.specs.declared.actions.FramePlaces.{FramePlaces}
use Rattle.cet_page.specs.declared.checks.Kind.TheVariants as kind
use Rattle.cet_page.specs.declared.checks.Who.TheVariants.{User}
use Rattle.cet_page.specs.declared.finishes.Leaving.{Leaving}
use Rattle.cet_page.specs.declared.finishes.Leaving.TheVariants as leaving

-- ---- the frame

-- SIGSEGV
abbrev pub segv : ℕ
segv = 11

-- below the red zone of 128 bytes, so that RSP is 8 past a multiple of 16 in the handler, as after a call
abbrev pub frame_at : (rsp : ℕ) → ℕ
frame_at rsp = sub64 (sub64 rsp 128 / 16 * 16) 200

-- where its last word stands
abbrev pub frame_last : ℕ
frame_last = 184

-- SEGV_MAPERR 1 of an absent page, SEGV_ACCERR 2 of a present one
abbrev pub page_code : (code : ℕ) → ℕ
page_code code = if code % 2 == 0 then 1 else 2

-- why a signal comes, by the fault: ILL_ILLOPN 2, SI_KERNEL 128, and SEGV_CPERR 10
abbrev pub code_of_name : FaultName → (code : ℕ) → ℕ
code_of_name Ud code = 2
code_of_name Gp code = 128
code_of_name Pf code = page_code code
code_of_name Ac code = 128
code_of_name Cp code = 10

abbrev pub page_address : FaultName → (a : ℕ) → ℕ
page_address Ud a = 0
page_address Gp a = 0
page_address Pf a = a
page_address Ac a = 0
page_address Cp a = 0

-- a signal's code, the fault's error code, and the address of a page fault; a signal that was sent has none
abbrev pub cause_words : Option Fault → List ℕ
cause_words None = 0 ∷ 0 ∷ 0 ∷ []
cause_words (Some e) = code_of_name e.name e.code ∷ e.code ∷ page_address e.name e.a ∷ []

-- so many registers, from one on
abbrev pub registers : List ℕ → (from count : ℕ) → List ℕ
registers regs from zero = []
registers regs from (suc count) = slice_index regs from ∷ registers regs (from + 1) count

-- the 24 words: the restorer, the registers in encoding order, RIP, RFLAGS, the mask, the signal, and why it comes
unfoldable pub frame_words : Arch → (signal restorer : ℕ) → Option Fault → List ℕ
frame_words arch signal restorer cause =
    restorer ∷ (registers arch.regs 0 16 ++ (arch.rip ∷ arch.flags ∷ arch.mask ∷ signal ∷ cause_words cause))

-- ---- where it goes

unfoldable pub frame_span : (addr : ℕ) → Script (Option ℕ)
frame_span addr = if canonical addr then span kind.Store addr frame_last else done None

-- the looks: at the frame's first and last word, and at the two words below SSP
unfoldable pub frame_places : Arch → Script (Option FramePlaces)
frame_places arch = do
  found ← frame_span (frame_at (rsp arch))
  if_found found (λ frame. do
    upper ← probe kind.ShadowStore User (sub64 arch.ssp 8)
    if_found upper (λ page. do
      lower ← probe kind.ShadowStore User (sub64 arch.ssp 16)
      done (option_map (λ below. record {
        frame = frame;
        marker = word_in page (sub64 arch.ssp 8);
        restorer = word_in below (sub64 arch.ssp 16);
      }) lower)))

-- ---- the handler's start

-- SA_NODEFER leaves the signal itself unmasked
abbrev pub own_bit : (signal flags : ℕ) → ℕ
own_bit signal flags = if bit_and flags 0x40000000 == 0 then signal_bit signal else 0

abbrev pub handler_mask : (mask signal : ℕ) → Action → ℕ
handler_mask mask signal action = bit_or (bit_or mask (maskable action.mask)) (own_bit signal action.flags)

-- RDI is the signal, and RSP and RSI are the frame
abbrev pub handler_regs : Arch → (signal : ℕ) → List ℕ
handler_regs arch signal =
    slice_set (slice_set (slice_set arch.regs 4 (frame_at (rsp arch))) 7 signal) 6 (frame_at (rsp arch))

abbrev pub handling : Arch → (signal : ℕ) → Action → Arch
handling arch signal action = record arch {
  regs = handler_regs arch signal;
  rip = action.handler;
  ssp = sub64 arch.ssp 16;
  mask = handler_mask arch.mask signal action;
  count = arch.count + 1;
  due = None;
}

abbrev pub delivered : Arch → (signal : ℕ) → Action → Arch × Record × Leaving
delivered arch signal action = (
  handling arch signal action,
  record { rip = arch.rip; what = what.Signal; code = 0; a = signal; b = sub64 arch.ssp 16 },
  leaving.Back,
)

-- the frame, upwards, and below SSP its word and the restorer to which the handler returns
unfoldable pub push_frame : Arch → (signal : ℕ) → Option Fault → Action → FramePlaces → Work
push_frame arch signal cause action places = do
  _ ← store_each places.frame (frame_words arch signal action.restorer cause)
  _ ← store places.marker (frame_word arch.ssp)
  _ ← store_as (Pushed action.restorer ∷ []) places.restorer action.restorer
  done (delivered arch signal action)

-- a frame that has no place kills the process
abbrev pub push_or_kill : Arch → (signal : ℕ) → Option Fault → Action → Option FramePlaces → Work
push_or_kill arch signal cause action None = kill arch segv
push_or_kill arch signal cause action (Some places) = push_frame arch signal cause action places

-- ---- the delivery

abbrev pub ignored : Arch → (signal : ℕ) → Arch × Record × Leaving
ignored arch signal = (
  counted arch,
  record { rip = arch.rip; what = what.Ignore; code = 0; a = signal; b = 0 },
  leaving.Back,
)

-- a signal that was sent may be ignored, and one of a fault kills
abbrev pub ignore : Arch → (signal : ℕ) → Option Fault → Work
ignore arch signal None = done (ignored arch signal)
ignore arch signal (Some e) = kill arch signal

-- by a handler of the thread's
unfoldable pub enter_handler : Arch → (signal : ℕ) → Option Fault → (handler : ℕ) → Work
enter_handler arch signal cause handler = do
  flags ← load (action_word signal + 1)
  restorer ← load (action_word signal + 2)
  mask ← load (action_word signal + 3)
  places ← frame_places arch
  push_or_kill arch signal cause (record { handler = handler; flags = flags; restorer = restorer; mask = mask }) places

-- by what the handler is: 0 is the default, the kill, and 1 asks for none
unfoldable pub handle : Arch → (signal : ℕ) → Option Fault → Work
handle arch signal cause = do
  handler ← load (action_word signal)
  if handler == 0 then kill arch signal
      else if handler == 1 then ignore arch signal cause
      else enter_handler arch signal cause handler

-- the delivery of a pending signal, which is pending no longer
unfoldable pub pending_delivery : Arch → (signal : ℕ) → Work
pending_delivery arch signal = do
  _ ← fetch_and (pend_word arch.number) (2 ^ 64 - 1 - signal_bit signal)
  handle arch signal None

-- the delivery of a due fault: one whose signal is masked kills
unfoldable pub fault_delivery : Arch → Fault → Work
fault_delivery arch e =
    if is_masked arch.mask (signal_of e.name)
    then kill arch (signal_of e.name)
    else handle arch (signal_of e.name) (Some e)
