-- Calls, returns, pushes, pops and jumps. Source: Intel SDM volume 2 (CALL, RET, PUSH, POP, LEAVE, JMP, Jcc) and volume 1 (shadow
-- stacks); own orders: all looks come before the first write, and the program stack before the shadow stack.
use Rattle.std.specs.Prelude.{ℕ, ◌+◌, ◌%◌, ◌^◌, List, [], ◌∷◌, ◌&&◌, ◌==◌, if◌then◌else◌, slice_index, slice_set, ℤ}
use Rattle.std.specs.Int.{w64, cast_unsigned}
use Rattle.cet_words.specs.Layout.{word_in}
use Rattle.cet_isa.specs.Address.{canonical}
use Rattle.cet_isa.specs.Code.{reg_number}
use Rattle.cet_isa.specs.declared.instructions.Cond.{Cond}
use Rattle.cet_isa.specs.declared.instructions.Instr.{Instr}
use Rattle.cet_isa.specs.declared.instructions.Instr.TheVariants as instr
use Rattle.cet_isa.specs.declared.instructions.Operand.{Operand}
use Rattle.cet_isa.specs.declared.instructions.Reg.{Reg}
use Rattle.cet_isa.specs.declared.instructions.Size.TheVariants as size
use Rattle.cet_isa.specs.declared.threads.Fault.{Fault}
use Rattle.cet_isa.specs.declared.threads.FaultName.TheVariants.{Cp}
use Rattle.cet_isa.specs.declared.threads.Record.{Record}
use Rattle.cet_isa.specs.declared.threads.What.TheVariants as what
use Rattle.cet_isa.specs.declared.threads.Arch.{Arch}
use Rattle.cet_words.specs.Change.{Change, Called, Returned}
use Rattle.cet_page.specs.Flags.{status, holds}
use Rattle.cet_page.specs.Operands.{load_at, store_at, read_operand, stepped}
use Rattle.cet_page.specs.Script.{done, fault, ◌>>=◌}
use Rattle.cet_page.specs.Parts.{general_protection, invalid_opcode, check_address, look, load, load_as, store, store_as}
use Rattle.cet_page.specs.Finish.{Row, rsp}
use Rattle.cet_page.specs.Word64.{add64, sub64}
use Rattle.cet_page.specs.declared.checks.Kind.TheVariants as kind
use Rattle.cet_page.specs.declared.checks.Who.TheVariants.{User}

-- ---- calls

-- after a call: the return address lies at sp, and the shadow stack's top is ssp
abbrev pub called : Arch → (target sp ssp : ℕ) → Arch × Record
called arch target sp ssp = (
  record arch { regs = slice_set arch.regs 4 sp; rip = target; ssp = ssp; count = arch.count + 1 },
  record { rip = arch.rip; what = what.Call; code = 0; a = target; b = ssp },
)

-- a call that pushes the return address on both stacks
unfoldable pub call : Arch → (back target : ℕ) → Row
call arch back target = do
  let sp = sub64 (rsp arch) 8
  let ssp = sub64 arch.ssp 8
  _ ← check_address sp 8
  page ← look kind.Store User sp
  shadow ← look kind.ShadowStore User ssp
  _ ← store (word_in page sp) back
  _ ← store_as (Called back ∷ []) (word_in shadow ssp) back
  done (called arch target sp ssp)

-- a relative call of displacement 0 pushes on the program stack alone
unfoldable pub call_next : Arch → (back : ℕ) → Row
call_next arch back = do
  let sp = sub64 (rsp arch) 8
  _ ← check_address sp 8
  page ← look kind.Store User sp
  _ ← store (word_in page sp) back
  done (called arch back sp arch.ssp)

-- the target of a relative displacement
abbrev pub relative : (next : ℕ) → ℤ → ℕ
relative next disp = (next + cast_unsigned w64 disp) % 2 ^ 64

abbrev pub call_relative : Arch → ℤ → (next : ℕ) → Row
call_relative arch disp next =
    if cast_unsigned w64 disp == 0 then call_next arch next else call arch next (relative next disp)

-- the target of an indirect call or jump is canonical, which is tested before anything is written
abbrev pub call_to : Arch → (back target : ℕ) → Row
call_to arch back target = if canonical target then call arch back target else fault general_protection

unfoldable pub call_indirect : Arch → Operand → (next : ℕ) → Row
call_indirect arch src next = do
  target ← read_operand arch size.Qword src next
  call_to arch next target

-- ---- returns

-- RET with an immediate takes so many bytes more off the program stack
abbrev pub returned : Arch → (bytes target : ℕ) → Arch × Record
returned arch bytes target = (
  record arch { regs = slice_set arch.regs 4 (add64 (rsp arch) (8 + bytes)); rip = target; ssp = add64 arch.ssp 8; count = arch.count + 1 },
  record { rip = arch.rip; what = what.Ret; code = 0; a = target; b = add64 arch.ssp 8 },
)

-- the data word and the shadow word of a return differ (NEAR-RET)
abbrev pub return_differs : (word shadow_word : ℕ) → Fault
return_differs word shadow_word = record { name = Cp; code = 1; a = word; b = shadow_word }

-- the shadow load is a return where the words are equal and canonical
abbrev pub returned_if : ℕ → ℕ → List Change
returned_if word shadow_word = if (word == shadow_word) && canonical word then Returned ∷ [] else []

unfoldable pub ret : Arch → (bytes : ℕ) → Row
ret arch bytes = do
  _ ← check_address (rsp arch) 8
  page ← look kind.Load User (rsp arch)
  shadow ← look kind.ShadowLoad User arch.ssp
  word ← load (word_in page (rsp arch))
  shadow_word ← load_as (returned_if word) (word_in shadow arch.ssp)
  if word == shadow_word
      then (if canonical word then done (returned arch bytes word) else fault general_protection)
      else fault (return_differs word shadow_word)

-- ---- pushes and pops, of 64 bits

-- the value is read before RSP changes
unfoldable pub push : Arch → Operand → (next : ℕ) → Row
push arch src next = do
  value ← read_operand arch size.Qword src next
  _ ← store_at (sub64 (rsp arch) 8) value
  done (stepped arch (slice_set arch.regs 4 (sub64 (rsp arch) 8)) next arch.flags value)

-- POP of RSP leaves the value
unfoldable pub pop : Arch → Reg → (next : ℕ) → Row
pop arch r next = do
  value ← load_at (rsp arch) 8
  done (stepped arch (slice_set (slice_set arch.regs 4 (add64 (rsp arch) 8)) (reg_number r) value) next arch.flags value)

abbrev pub rbp : Arch → ℕ
rbp arch = slice_index arch.regs 5

-- RSP becomes RBP, and RBP is popped
unfoldable pub leave : Arch → (next : ℕ) → Row
leave arch next = do
  value ← load_at (rbp arch) 8
  done (stepped arch (slice_set (slice_set arch.regs 4 (add64 (rbp arch) 8)) 5 value) next arch.flags value)

-- ---- jumps

abbrev pub jumped : Arch → (target : ℕ) → Arch × Record
jumped arch target = stepped arch arch.regs target arch.flags target

abbrev pub jump_to : Arch → (target : ℕ) → Row
jump_to arch target = if canonical target then done (jumped arch target) else fault general_protection

unfoldable pub jump_indirect : Arch → Operand → (next : ℕ) → Row
jump_indirect arch src next = do
  target ← read_operand arch size.Qword src next
  jump_to arch target

-- where a conditional jump goes
abbrev pub jump_target : Arch → Cond → ℤ → (next : ℕ) → ℕ
jump_target arch c disp next = if holds c (status arch.flags) then relative next disp else next

-- ---- the instructions; NOTRACK has no effect without branch tracking

abbrev pub flow : Arch → Instr → (next : ℕ) → Row
flow arch (instr.CallRel disp) next = call_relative arch disp next
flow arch (instr.CallInd target notrack) next = call_indirect arch target next
flow arch instr.Ret next = ret arch 0
flow arch (instr.RetImm bytes) next = ret arch bytes
flow arch (instr.Push src) next = push arch src next
flow arch (instr.Pop r) next = pop arch r next
flow arch instr.Leave next = leave arch next
flow arch (instr.JmpRel disp) next = done (jumped arch (relative next disp))
flow arch (instr.JmpInd target notrack) next = jump_indirect arch target next
flow arch (instr.Jcc c disp) next = done (jumped arch (jump_target arch c disp next))
flow arch i next = fault invalid_opcode
