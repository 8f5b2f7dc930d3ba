-- Where a thread's structures lie that the kernel reads or writes: a look at the first word and one at the last. Source: own;
-- the mask is that of Linux (sigprocmask: signals 9 and 19 can't be blocked).
use Rattle.std.specs.Prelude.{ℕ, ◌-◌, ◌%◌, ◌^◌, ◌==◌, if◌then◌else◌, bit_and, Option, Some, None, option_map, Result, Ok, Err}
use Rattle.cet_words.specs.Layout.{word_in}
use Rattle.cet_page.specs.Script.{Script, done, ◌>>=◌}
use Rattle.cet_page.specs.Parts.{probe}
use Rattle.cet_page.specs.Word64.{add64}
use Rattle.cet_page.specs.declared.checks.Kind.{Kind}
use Rattle.cet_page.specs.declared.checks.Who.TheVariants.{User}
use Rattle.cet_page.specs.declared.services.Errno.{Errno}
use Rattle.cet_page.specs.declared.services.Errno.TheVariants as errno

-- what follows something that was found
abbrev pub if_found : {A B : Type 0} → Option A → (A → Script (Option B)) → Script (Option B)
if_found None f = done None
if_found (Some x) f = f x

-- The first word of a structure whose last word is so many bytes above it; none where a look fails, and then the next one isn't
-- made. No structure reaches from one range of addresses into another, so its words are numbered one after another.
unfoldable pub span : Kind → (addr last : ℕ) → Script (Option ℕ)
span k addr last = do
  first ← probe k User addr
  if_found first (λ page. do
    found ← probe k User (add64 addr last)
    done (option_map (λ _. word_in page addr) found))

-- the word at an address, by one look
unfoldable pub one_word : Kind → (addr : ℕ) → Script (Option ℕ)
one_word k addr = do
  found ← probe k User addr
  done (option_map (λ page. word_in page addr) found)

-- ---- what a service is given: address 0 stands for nothing, and every other one is a multiple of 8

abbrev pub Given : Type 0
Given = Result (Option ℕ) Errno

abbrev pub given : Option ℕ → Given
given None = Err errno.Fault
given (Some word) = Ok (Some word)

abbrev pub given_at : (addr : ℕ) → Script (Option ℕ) → Script Given
given_at addr found =
    if addr == 0 then done (Ok None)
    else if addr % 8 == 0 then (do
      word ← found
      done (given word))
    else done (Err errno.Fault)

unfoldable pub given_span : Kind → (addr last : ℕ) → Script Given
given_span k addr last = given_at addr (span k addr last)

unfoldable pub given_word : Kind → (addr : ℕ) → Script Given
given_word k addr = given_at addr (one_word k addr)

-- ---- masks of signals

-- a mask without these bits
abbrev pub without : (mask bits : ℕ) → ℕ
without mask bits = bit_and mask (2 ^ 64 - 1 - bits)

-- signals 9 (SIGKILL) and 19 (SIGSTOP) are never masked
abbrev pub maskable : (mask : ℕ) → ℕ
maskable mask = without mask 0x40100

-- bit s - 1 is signal s
abbrev pub signal_bit : (signal : ℕ) → ℕ
signal_bit signal = 2 ^ (signal - 1)
