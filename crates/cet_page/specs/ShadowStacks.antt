-- The user's instructions on shadow stacks. Source: Intel SDM volume 2 (INCSSP, RDSSP, RSTORSSP, SAVEPREVSSP, WRSS, WRUSS) and
-- volume 1 (shadow stacks). Own: the order of tests, looks and accesses; the one store of SAVEPREVSSP; that WRSS is never enabled.
use Rattle.std.specs.Prelude.{ℕ, ◌+◌, ◌-◌, ◌*◌, ◌%◌, ◌==◌, if◌then◌else◌, max, List, [], ◌∷◌}
use Rattle.cet_words.specs.Layout.{word_in}
use Rattle.cet_words.specs.Change.{Change, Raised, Acquired, Released}
use Rattle.cet_isa.specs.Address.{canonical}
use Rattle.cet_isa.specs.declared.instructions.Instr.{Instr}
use Rattle.cet_isa.specs.declared.instructions.Instr.TheVariants as instr
use Rattle.cet_isa.specs.declared.threads.Arch.{Arch}
use Rattle.cet_isa.specs.declared.threads.Fault.{Fault}
use Rattle.cet_isa.specs.declared.threads.FaultName.TheVariants.{Cp}
use Rattle.cet_isa.specs.declared.threads.Record.{Record}
use Rattle.cet_isa.specs.declared.threads.What.TheVariants as what
use Rattle.cet_page.specs.Finish.{Row}
use Rattle.cet_page.specs.Word64.{add64}
use Rattle.cet_page.specs.Operands.{register, effective, assigned}
use Rattle.cet_page.specs.Page.{allows}
use Rattle.cet_page.specs.Parts.{general_protection, invalid_opcode, check_address_as, look, look_as, load, store_as, compare_exchange_as}
use Rattle.cet_page.specs.Script.{done, fault, ◌>>=◌}
use Rattle.cet_page.specs.Tokens.{restore_token, restore_token_at, previous_token, is_previous_token, previous_ssp, saved_at}
use Rattle.cet_page.specs.declared.checks.Kind.TheVariants as kind
use Rattle.cet_page.specs.declared.checks.Who.TheVariants.{User}

-- ---- RSTORSSP: another shadow stack is taken by its restore token

abbrev pub acquired_if : (addr found : ℕ) → List Change
acquired_if addr found = if found == restore_token_at addr then Acquired addr ∷ [] else []

-- SSP is the token's address, at which a previous-SSP token now stands; CF, ZF, PF, AF, OF and SF are clear
abbrev pub restored : Arch → (addr next : ℕ) → Arch × Record
restored arch addr next = (
  record arch { rip = next; flags = 2; ssp = addr; count = arch.count + 1 },
  record { rip = arch.rip; what = what.Take; code = 0; a = addr; b = arch.ssp },
)

-- the word found is no restore token for this address (RSTORSSP)
abbrev pub no_restore_token : (addr found : ℕ) → Fault
no_restore_token addr found = record { name = Cp; code = 4; a = addr; b = found }

-- the test and the new word are one exchange
unfoldable pub rstorssp : Arch → (addr next : ℕ) → Row
rstorssp arch addr next = do
  _ ← check_address_as general_protection addr 8
  page ← look kind.ShadowStore User addr
  found ← compare_exchange_as (acquired_if addr) (word_in page addr) (restore_token_at addr) (previous_token arch.ssp)
  if found == restore_token_at addr then done (restored arch addr next) else fault (no_restore_token addr found)

-- ---- SAVEPREVSSP: the stack that was left gets a restore token, and its pointer is taken off this one

abbrev pub saved : Arch → (addr next : ℕ) → Arch × Record
saved arch addr next = (
  record arch { rip = next; ssp = add64 arch.ssp 8; count = arch.count + 1 },
  record { rip = arch.rip; what = what.Save; code = 0; a = addr; b = add64 arch.ssp 8 },
)

-- the restore token of a stack that was left at this pointer is stored below it
unfoldable pub save : Arch → (ssp next : ℕ) → Row
save arch ssp next = do
  page ← look kind.ShadowStore User (saved_at ssp)
  _ ← store_as (Released ∷ []) (word_in page (saved_at ssp)) (restore_token ssp)
  done (saved arch (saved_at ssp) next)

-- where the token would be stored is canonical, which is tested before the look
abbrev pub save_checked : Arch → (ssp next : ℕ) → Row
save_checked arch ssp next = if canonical (saved_at ssp) then save arch ssp next else fault general_protection

-- CF must be clear, and the word at SSP a previous-SSP token
abbrev pub save_by : Arch → (word next : ℕ) → Row
save_by arch word next =
    if arch.flags % 2 == 1 then fault general_protection
    else if is_previous_token word then save_checked arch (previous_ssp word) next
    else fault general_protection

-- the word is read before CF is tested
unfoldable pub saveprevssp : Arch → (next : ℕ) → Row
saveprevssp arch next = do
  page ← look kind.ShadowLoad User arch.ssp
  word ← load (word_in page arch.ssp)
  save_by arch word next

-- ---- INCSSPQ: so many of the newest elements go

-- the second look, where it passes, takes them off
abbrev pub raised_if : (count entry : ℕ) → List Change
raised_if count entry = if allows entry kind.ShadowLoad User then Raised count ∷ [] else []

abbrev pub raised : Arch → (count next : ℕ) → Arch × Record
raised arch count next = (
  record arch { rip = next; ssp = add64 arch.ssp (8 * count); count = arch.count + 1 },
  record { rip = arch.rip; what = what.Raise; code = 0; a = add64 arch.ssp (8 * count); b = count },
)

-- the first and the last of the elements are touched; for a count of 0 both looks are at SSP
unfoldable pub incsspq : Arch → (count next : ℕ) → Row
incsspq arch count next = do
  _ ← look kind.ShadowLoad User arch.ssp
  _ ← look_as (raised_if count) kind.ShadowLoad User (add64 arch.ssp (8 * (max count 1 - 1)))
  done (raised arch count next)

-- ---- the instructions

-- INCSSPQ counts by the low byte of its register. WRSSQ is never enabled, and WRUSSQ is the supervisor's.
abbrev pub shadow_stacks : Arch → Instr → (next : ℕ) → Row
shadow_stacks arch (instr.Incsspq r) next = incsspq arch (register arch r % 256) next
shadow_stacks arch (instr.Rdsspq r) next = done (assigned arch r arch.ssp next)
shadow_stacks arch (instr.Rstorssp m) next = rstorssp arch (effective arch m next) next
shadow_stacks arch instr.Saveprevssp next = saveprevssp arch next
shadow_stacks arch (instr.Wrussq m r) next = fault general_protection
shadow_stacks arch i next = fault invalid_opcode
