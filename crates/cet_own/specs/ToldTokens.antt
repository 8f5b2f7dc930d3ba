-- What records tell of tokens, of shadow stacks and of supervisor stacks. Source: Intel SDM volume 2 (RSTORSSP, SETSSBSY).
use Rattle.cet_words.specs.Layout.{token}
use Rattle.std.specs.Prelude.{◌≡◌, ℕ, ◌+◌, Option, Some, None, slice_get, ◌≢◌, ◌<◌}
use Rattle.cet_words.specs.Access.{answer}
use Rattle.cet_words.specs.Job.{JobData}
use Rattle.cet_words.specs.declared.accesses.Access.{Access}
use Rattle.cet_isa.specs.declared.threads.FaultName.{FaultName}
use Rattle.cet_isa.specs.declared.threads.FaultName.TheVariants.{Ud, Gp, Pf, Ac, Cp}
use Rattle.cet_isa.specs.declared.threads.Record.{Record}
use Rattle.cet_isa.specs.declared.threads.What.{What}
use Rattle.cet_isa.specs.declared.threads.What.TheVariants as what
use Rattle.cet_book.specs.declared.entries.Holder.TheVariants.{Parked}
use Rattle.cet_book.specs.Book.{Book, region, top, stack_of}
use Rattle.cet_page.specs.Core.{next_access, taken}
use Rattle.cet_page.specs.Machine.{Machine, Thread}

-- a parked region has its token at p
abbrev pub IsToken : Book → (p : ℕ) → Type 0
IsToken b p = (q : ℕ) × ((region b q).holder ≡ Parked) × (top (region b q) ≡ p + 8)

-- #CP with code 4 (RSTORSSP) names an address where no token stands
abbrev pub MissesToken : Book → (code p : ℕ) → FaultName → Type 0
MissesToken b code p Cp = code ≡ 4 → IsToken b p → ⊥
MissesToken b code p Ud = Unit {0}
MissesToken b code p Gp = Unit {0}
MissesToken b code p Pf = Unit {0}
MissesToken b code p Ac = Unit {0}

-- a record of a busy supervisor stack names its token, which has a holder, and the word of a busy token
pub record NamesBusy (b : Book) (r : Record) : Type 0 where
  pub stack : ℕ
  pub few : stack < 8
  pub address : r.a ≡ token stack
  pub found : r.b ≡ token stack + 1
  pub held : stack_of b stack ≢ None

-- RSTORSSP's own record names one where a token stood
abbrev pub TokensBy : (b next : Book) → Record → What → Type 0
TokensBy b next r what.Take = IsToken b r.a
TokensBy b next r (what.Fault name) = MissesToken next r.code r.a name
TokensBy b next r what.Busy = NamesBusy b r
TokensBy b next r w = Unit {0}

abbrev pub NotedTokens : (b next : Book) → Option Record → Type 0
NotedTokens b next None = Unit {0}
NotedTokens b next (Some r) = TokensBy b next r r.what

abbrev pub AccessTokens : JobData → Machine → Thread → (b next : Book) → Option Access → Type 0
AccessTokens job m thread b next None = Unit {0}
AccessTokens job m thread b next (Some a) = NotedTokens b next (taken job thread.core (answer m.words a)).noted

abbrev pub ThreadTokens : JobData → Machine → (b next : Book) → Option Thread → Type 0
ThreadTokens job m b next None = Unit {0}
ThreadTokens job m b next (Some thread) = AccessTokens job m thread b next (next_access job thread.core)

-- the turn of thread t, by the books before it and after it
abbrev pub TurnTokens : JobData → Machine → (b next : Book) → (t : ℕ) → Type 0
TurnTokens job m b next t = ThreadTokens job m b next (slice_get m.threads t)
