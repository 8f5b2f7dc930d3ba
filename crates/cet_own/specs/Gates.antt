-- What the accesses of the kernel's entry find, by the book before them. Source: Intel SDM volume 1 (supervisor shadow-stack
-- tokens); own for the words below them.
use Rattle.std.specs.Prelude.{◌≡◌, ◌↔◌, ℕ, ◌+◌, ◌-◌, ◌<◌, List, Option, Some, None, slice_get}
use Rattle.cet_words.specs.Access.{answer}
use Rattle.cet_words.specs.Job.{JobData}
use Rattle.cet_words.specs.Layout.{token, token_word, kernel_return}
use Rattle.cet_words.specs.declared.accesses.Access.{Access}
use Rattle.cet_words.specs.declared.accesses.Access.TheVariants as access
use Rattle.cet_book.specs.Book.{Book, stack_of}
use Rattle.cet_page.specs.Core.{next_access}
use Rattle.cet_page.specs.Machine.{Machine, Thread}
use Rattle.cet_own.specs.Along.{Along}
use Rattle.cet_own.specs.Enters.{TurnEnters}
use Rattle.cet_own.specs.Restores.{TurnRestores}
use Rattle.cet_own.specs.ToldTokens.{TurnTokens}

-- the answer to an access of the gate
pub record FindsGate (b : Book) (a : Access) (v : ℕ) : Type 0 where
  -- the way in finds a token free exactly where the book's stack is
  pub enters : (k value : ℕ) → k < 8 → a ≡ access.CompareExchange (token_word k) (token k) value → v ≡ token k ↔ stack_of b k ≡ None
  -- the way out reads what the way in stored below the token
  pub reads : (k : ℕ) → k < 8 → a ≡ access.Load (token_word k - 1) → v ≡ kernel_return
  -- and finds the token busy
  pub leaves : (k : ℕ) → k < 8 → a ≡ access.CompareExchange (token_word k) (token k + 1) (token k) → v ≡ token k + 1

abbrev pub AccessGates : Machine → Book → Thread → Option Access → Type 0
AccessGates m b thread None = Unit {0}
AccessGates m b thread (Some a) = FindsGate b a (answer m.words a)

abbrev pub ThreadGates : JobData → Machine → Book → Option Thread → Type 0
ThreadGates job m b None = Unit {0}
ThreadGates job m b (Some thread) = AccessGates m b thread (next_access job thread.core)

-- the turn of thread t, by the book before it
abbrev pub TurnGates : JobData → Machine → Book → (t : ℕ) → Type 0
TurnGates job m b t = ThreadGates job m b (slice_get m.threads t)

-- what a turn tells of tokens, and finds of them
pub record TurnTells (job : JobData) (m : Machine) (b next : Book) (t : ℕ) : Type 0 where
  pub tokens : TurnTokens job m b next t
  pub gates : TurnGates job m b t
  -- whether it takes a shadow stack by RSTORSSP, or a supervisor stack at the kernel's entry
  pub restores : TurnRestores job m b t
  pub enters : TurnEnters job m b t

-- ---- along a run

-- at each RSTORSSP of these turns whose look has passed
abbrev pub RestoresExactly : JobData → Machine → Book → (turns : List ℕ) → Type 0
RestoresExactly job m b turns = Along (λ m b. Unit {0}) (λ m b next t. TurnRestores job m b t) job m b turns

-- at each entry of these turns into the kernel, and on each way out
abbrev pub GatesExactly : JobData → Machine → Book → (turns : List ℕ) → Type 0
GatesExactly job m b turns = Along (λ m b. Unit {0}) (λ m b next t. TurnEnters job m b t × TurnGates job m b t) job m b turns
