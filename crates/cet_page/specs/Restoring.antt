-- What the exchange of RSTORSSP leaves, by the word that it finds. Source: Intel SDM volume 2 (RSTORSSP); own for the accesses
-- before it.
use Rattle.std.specs.Prelude.{◌≡◌, ◌≢◌, ℕ, ◌+◌, ◌%◌, true, [], ◌∷◌, Option, Some, None}
use Rattle.cet_words.specs.Layout.{page_at, word_in}
use Rattle.cet_words.specs.Job.{JobData}
use Rattle.cet_words.specs.declared.accesses.Access.{Access}
use Rattle.cet_words.specs.declared.accesses.Access.TheVariants as access
use Rattle.cet_isa.specs.Address.{canonical}
use Rattle.cet_isa.specs.Reading.{Read, decoded}
use Rattle.cet_isa.specs.declared.instructions.Instr.TheVariants as instr
use Rattle.cet_isa.specs.declared.instructions.Mem.{Mem}
use Rattle.cet_isa.specs.declared.threads.Arch.{Arch}
use Rattle.cet_isa.specs.declared.threads.Fault.{Fault}
use Rattle.cet_isa.specs.declared.threads.FaultName.TheVariants.{Cp}
use Rattle.cet_isa.specs.declared.threads.Record.{Record}
use Rattle.cet_isa.specs.declared.threads.What.TheVariants as what
use Rattle.cet_page.specs.Core.{Core, next_access, recorded, fault_record, faulted}
use Rattle.cet_page.specs.Operands.{effective}
use Rattle.cet_page.specs.Page.{allows}
use Rattle.cet_page.specs.Posting.{due_signal, pending_signal}
use Rattle.cet_page.specs.Row.{instruction_bytes, next_address}
use Rattle.cet_page.specs.Tokens.{restore_token_at, previous_token}
use Rattle.cet_page.specs.declared.checks.Kind.TheVariants as kind
use Rattle.cet_page.specs.declared.checks.Who.TheVariants.{User}

-- The thread is in the row of an RSTORSSP at p, whose look has passed.
pub record AtRestore (job : JobData) (core : Core) (p : ℕ) : Type 0 where
  -- no fault and no listed signal is due, and the bytes at RIP are the instruction
  pub due : core.arch.due ≡ None
  pub unposted : due_signal job core.arch ≡ None
  pub rip : canonical core.arch.rip ≡ true
  pub operand : Mem
  pub len : ℕ
  pub reads : decoded (instruction_bytes job core.arch) ≡ Read (instr.Rstorssp operand) len
  -- its operand is at p, a multiple of 8 on a page
  pub address : effective core.arch operand (next_address job core.arch) ≡ p
  pub reached : canonical p ≡ true
  pub aligned : p % 8 ≡ 0
  pub page : ℕ
  pub within : page_at p ≡ Some page
  -- EXIT was 0, no pending signal was unmasked, and the page's entry allows a shadow-stack store
  pub pending : ℕ
  pub unmasked : pending_signal pending core.arch.mask ≡ None
  pub entry : ℕ
  pub seen : core.vals ≡ record { accesses = 3; values = 0 ∷ pending ∷ entry ∷ [] }
  pub passed : allows entry kind.ShadowStore User ≡ true

-- the one access that tests the restore token and leaves the previous-SSP token in its place
abbrev pub token_exchange : Arch → (p page : ℕ) → Access
token_exchange arch p page = access.CompareExchange (word_in page p) (restore_token_at p) (previous_token arch.ssp)

-- SSP is p, and CF, ZF, PF, AF, OF and SF are clear
abbrev pub switched : Arch → (p next : ℕ) → Arch
switched arch p next = record arch { rip = next; flags = 2; ssp = p; count = arch.count + 1 }

-- a is the new SSP, and b the one before
abbrev pub take_record : Arch → (p : ℕ) → Record
take_record arch p = record { rip = arch.rip; what = what.Take; code = 0; a = p; b = arch.ssp }

-- code 4 (RSTORSSP), and the word that is no restore token for p
abbrev pub missed_token : (p found : ℕ) → Fault
missed_token p found = record { name = Cp; code = 4; a = p; b = found }

-- The thread goes on with SSP at p where the restore token for p is found, and else has a #CP that names the word found.
pub record Restores (job : JobData) (before after : Core) (p answer : ℕ) (noted : Option Record) : Type 0 where
  -- the access that has this answer
  pub exchange : (page : ℕ) → page_at p ≡ Some page → next_access job before ≡ Some (token_exchange before.arch p page)
  -- the token is found
  pub takes : answer ≡ restore_token_at p → (noted ≡ Some (take_record before.arch p)) × (after ≡ recorded job (switched before.arch p (next_address job before.arch)))
  -- another word is found: the fault is due, and all else is as before, but for one record more
  pub misses : answer ≢ restore_token_at p → (noted ≡ Some (fault_record before.arch (missed_token p answer))) × (after ≡ recorded job (faulted before.arch (missed_token p answer)))
