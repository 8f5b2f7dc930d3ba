-- rt_sigreturn (15), and the services on signals by their numbers. Source: Linux, sigreturn(2) and
-- Documentation/arch/x86/shstk.rst (the frame's word on the shadow stack has bit 63); the order is own.
use Rattle.std.specs.Prelude.{ℕ, ◌+◌, ◌%◌, ◌==◌, ◌&&◌, ◌||◌, Bool, if◌then◌else◌, slice_index, take, List, Option, Some, None}
use Rattle.cet_words.specs.Job.{JobData}
use Rattle.cet_words.specs.Layout.{word_in}
use Rattle.cet_isa.specs.Address.{canonical}
use Rattle.cet_isa.specs.declared.threads.Arch.{Arch}
use Rattle.cet_isa.specs.declared.threads.Record.{Record}
use Rattle.cet_isa.specs.declared.threads.What.TheVariants as what
use Rattle.cet_page.specs.Delivery.{frame_last, segv}
use Rattle.cet_page.specs.Finish.{rax, rsp}
use Rattle.cet_page.specs.Flags.{rflags, status}
use Rattle.cet_page.specs.Gate.{Work, failed, kill}
use Rattle.cet_page.specs.Parts.{load, loads, probe}
use Rattle.cet_page.specs.Script.{Script, done, ◌>>=◌}
use Rattle.cet_page.specs.Signals.{rt_sigaction, rt_sigprocmask, tgkill}
use Rattle.cet_page.specs.Structures.{if_found, maskable, span}
use Rattle.cet_page.specs.Tokens.{frame_ssp, is_frame_word}
use Rattle.cet_page.specs.Word64.{sub64}
use Rattle.cet_page.specs.declared.checks.Kind.TheVariants as kind
use Rattle.cet_page.specs.declared.checks.Who.TheVariants.{User}
use Rattle.cet_page.specs.declared.finishes.Leaving.{Leaving}
use Rattle.cet_page.specs.declared.finishes.Leaving.TheVariants as leaving
use Rattle.cet_page.specs.declared.services.Errno.TheVariants as errno

-- the handler's return has popped the frame's first word, the restorer
abbrev pub returned_frame : Arch → ℕ
returned_frame arch = sub64 (rsp arch) 8

unfoldable pub returned_span : (addr : ℕ) → Script (Option ℕ)
returned_span addr = if canonical addr && addr % 8 == 0 then span kind.Load addr frame_last else done None

-- the looks, and the word at SSP, which must be a frame's: the frame's first word on the program stack, and that word
unfoldable pub popped_frame : Arch → Script (Option (ℕ × ℕ))
popped_frame arch = do
  found ← returned_span (returned_frame arch)
  if_found found (λ frame. do
    shadow ← probe kind.ShadowLoad User arch.ssp
    if_found shadow (λ page. do
      word ← load (word_in page arch.ssp)
      done (if is_frame_word word then Some (frame, word) else None)))

-- Words 1 to 19 of the frame are the registers, RIP, RFLAGS, of which the status flags are taken, and the mask. SSP is that of
-- the shadow stack's own word, whatever the frame has.
abbrev pub restored : Arch → (saved : List ℕ) → (word : ℕ) → Arch
restored arch saved word = record arch {
  regs = take 16 saved;
  rip = slice_index saved 16;
  flags = rflags (status (slice_index saved 17));
  ssp = frame_ssp word;
  mask = maskable (slice_index saved 18);
  count = arch.count + 1;
}

abbrev pub returned : Arch → (saved : List ℕ) → (word : ℕ) → Arch × Record × Leaving
returned arch saved word = (
  restored arch saved word,
  record { rip = arch.rip; what = what.SigReturn; code = 0; a = slice_index saved 16; b = frame_ssp word },
  leaving.Popped,
)

-- without a frame that may be popped the process is killed
unfoldable pub return_by : Arch → Option (ℕ × ℕ) → Work
return_by arch None = kill arch segv
return_by arch (Some x) = do
  saved ← loads 19 (x.0 + 1)
  done (returned arch saved x.1)

unfoldable pub rt_sigreturn : Arch → Work
rt_sigreturn arch = do
  popped ← popped_frame arch
  return_by arch popped

-- ---- the services on signals, by their numbers; every other one is no call

abbrev pub is_signal_service : (number : ℕ) → Bool
is_signal_service number = number == 13 || (number == 14 || (number == 15 || number == 234))

abbrev pub signal_service : JobData → Arch → Work
signal_service job arch =
    if rax arch == 13 then rt_sigaction job arch
    else if rax arch == 14 then rt_sigprocmask arch
    else if rax arch == 15 then rt_sigreturn arch
    else if rax arch == 234 then tgkill arch
    else done (failed arch errno.NoSys)
