-- RSTORSSP by the book: it takes a shadow stack exactly where the book has it parked with its token at the operand. Source:
-- Intel SDM volume 2 (RSTORSSP).
use Rattle.std.specs.Prelude.{◌≡◌, ◌↔◌, ℕ, Option, Some, None, slice_get}
use Rattle.cet_words.specs.Access.{answer}
use Rattle.cet_words.specs.Job.{JobData}
use Rattle.cet_book.specs.Book.{Book}
use Rattle.cet_page.specs.Core.{Core, fault_record, taken}
use Rattle.cet_page.specs.Machine.{Machine, Thread}
use Rattle.cet_page.specs.Restoring.{AtRestore, Restores, missed_token, take_record, token_exchange}
use Rattle.cet_page.specs.Tokens.{restore_token_at}
use Rattle.cet_own.specs.ToldTokens.{IsToken}

-- The exchange of an RSTORSSP at p whose look has passed, by the book before it, where it finds this word.
pub record RestoresRight (job : JobData) (b : Book) (core : Core) (p found : ℕ) : Type 0 where
  -- the word is the restore token exactly where a parked region has its token at p
  pub exactly : found ≡ restore_token_at p ↔ IsToken b p
  -- there the thread takes the stack
  pub takes : IsToken b p → (taken job core found).noted ≡ Some (take_record core.arch p)
  -- and elsewhere it has a #CP with code 4 and the word found
  pub misses : (IsToken b p → ⊥) → (taken job core found).noted ≡ Some (fault_record core.arch (missed_token p found))
  -- the access that finds the word, and what the thread comes to
  pub does : Restores job core (taken job core found).core p found (taken job core found).noted

-- wherever the thread is at such an exchange
abbrev pub ThreadRestores : JobData → Machine → Book → Option Thread → Type 0
ThreadRestores job m b None = Unit {0}
ThreadRestores job m b (Some thread) =
    (p : ℕ) (at : AtRestore job thread.core p) → RestoresRight job b thread.core p (answer m.words (token_exchange thread.core.arch p at.page))

-- the turn of thread t, by the book before it
abbrev pub TurnRestores : JobData → Machine → Book → (t : ℕ) → Type 0
TurnRestores job m b t = ThreadRestores job m b (slice_get m.threads t)
