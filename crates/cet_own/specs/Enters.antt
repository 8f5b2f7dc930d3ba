-- The kernel's entry by the book: a thread takes its processor's supervisor stack exactly where the book has it free. Source: Intel
-- SDM volume 2 (SETSSBSY), and volume 1 (supervisor shadow-stack tokens).
use Rattle.std.specs.Prelude.{◌≡◌, ◌≢◌, ◌↔◌, ℕ, Option, Some, None, slice_get}
use Rattle.cet_words.specs.Access.{answer}
use Rattle.cet_words.specs.Job.{JobData}
use Rattle.cet_words.specs.Layout.{token}
use Rattle.cet_book.specs.Book.{Book, stack_of}
use Rattle.cet_page.specs.Core.{Core, taken}
use Rattle.cet_page.specs.Entering.{AtGate, Enters, gate_exchange}
use Rattle.cet_page.specs.Gate.{busy_record}
use Rattle.cet_page.specs.Gate.{stack_of as own_stack}
use Rattle.cet_page.specs.Machine.{Machine, Thread}

-- The first exchange of the kernel's entry, by the book before it, where it finds this word.
pub record EntersRight (job : JobData) (b : Book) (core : Core) (found : ℕ) : Type 0 where
  -- the word is the free token exactly where the book's stack has no holder
  pub exactly : found ≡ token (own_stack job core.arch) ↔ stack_of b (own_stack job core.arch) ≡ None
  -- there the thread takes the stack
  pub takes : stack_of b (own_stack job core.arch) ≡ None → (taken job core found).core.arch.held ≡ Some (own_stack job core.arch)
  -- and elsewhere it has a busy record with the word found
  pub waits : stack_of b (own_stack job core.arch) ≢ None → (taken job core found).noted ≡ Some (busy_record core.arch (own_stack job core.arch) found)
  -- the access that finds the word, and what the thread comes to
  pub does : Enters job core (taken job core found).core found (taken job core found).noted

-- wherever the thread is at the entry
abbrev pub ThreadEnters : JobData → Machine → Book → Option Thread → Type 0
ThreadEnters job m b None = Unit {0}
ThreadEnters job m b (Some thread) =
    AtGate job thread.core → EntersRight job b thread.core (answer m.words (gate_exchange (own_stack job thread.core.arch)))

-- the turn of thread t, by the book before it
abbrev pub TurnEnters : JobData → Machine → Book → (t : ℕ) → Type 0
TurnEnters job m b t = ThreadEnters job m b (slice_get m.threads t)
