-- Moves, arithmetic, tests, shifts and locked operations. Source: Intel SDM volume 2, the pages of the instructions; the order
-- of looks and accesses is own.
use Rattle.std.specs.Prelude.{ℕ, ◌%◌, ◌==◌, Bool, true, false, if◌then◌else◌, List, slice_set, bit_and}
use Rattle.std.specs.Int.{w32, w64, cast_unsigned, cast_signed}
use Rattle.cet_isa.specs.Code.{reg_number}
use Rattle.cet_isa.specs.declared.instructions.AluOp.{AluOp}
use Rattle.cet_isa.specs.declared.instructions.AluOp.TheVariants as ops
use Rattle.cet_isa.specs.declared.instructions.Cond.{Cond}
use Rattle.cet_isa.specs.declared.instructions.Count.{Count}
use Rattle.cet_isa.specs.declared.instructions.Count.TheVariants as counts
use Rattle.cet_isa.specs.declared.instructions.Instr.{Instr}
use Rattle.cet_isa.specs.declared.instructions.Instr.TheVariants as instr
use Rattle.cet_isa.specs.declared.instructions.Mem.{Mem}
use Rattle.cet_isa.specs.declared.instructions.Operand.{Operand}
use Rattle.cet_isa.specs.declared.instructions.Operand.TheVariants as operand
use Rattle.cet_isa.specs.declared.instructions.Reg.{Reg}
use Rattle.cet_isa.specs.declared.instructions.Reg.TheVariants as regs
use Rattle.cet_isa.specs.declared.instructions.Size.{Size}
use Rattle.cet_isa.specs.declared.instructions.Size.TheVariants as size
use Rattle.cet_isa.specs.declared.threads.Arch.{Arch}
use Rattle.cet_isa.specs.declared.threads.Record.{Record}
use Rattle.cet_page.specs.declared.flags.Computed.{Computed}
use Rattle.cet_page.specs.declared.flags.StatusFlags.{StatusFlags}
use Rattle.cet_page.specs.Flags.{bit, rflags, status, holds}
use Rattle.cet_page.specs.Finish.{Row, rax}
use Rattle.cet_page.specs.Operands.{register, with_register, effective, load_at, write_place, store_at, read_operand, stepped, assigned, settled, compared}
use Rattle.cet_page.specs.Parts.{invalid_opcode, swap, fetch_add, compare_exchange}
use Rattle.cet_page.specs.Script.{done, fault, ◌>>=◌}
use Rattle.cet_page.specs.Values.{bits, limit, sum, difference, logical, product, operation, keeping, ones_complement, shifted_left, shifted_right, shifted_arithmetic}

-- ---- operations of two operands

abbrev pub carry : Arch → Bool
carry arch = (status arch.flags).cf

-- CMP writes nothing, and the destination of the others is a register
abbrev pub operated : Arch → AluOp → (dst : Operand) → Computed → (next : ℕ) → Row
operated arch ops.Cmp dst c next = done (compared arch c next)
operated arch op (operand.Reg r) c next = done (settled arch r c next)
operated arch op dst c next = fault invalid_opcode

unfoldable pub alu : Arch → AluOp → Size → (dst src : Operand) → (next : ℕ) → Row
alu arch op s dst src next = do
  x ← read_operand arch s dst next
  y ← read_operand arch s src next
  operated arch op dst (operation op s x y (bit (carry arch))) next

unfoldable pub test : Arch → Size → (dst src : Operand) → (next : ℕ) → Row
test arch s dst src next = do
  x ← read_operand arch s dst next
  y ← read_operand arch s src next
  done (compared arch (logical s (bit_and x y)) next)

unfoldable pub imul : Arch → Size → Reg → (src : Operand) → (next : ℕ) → Row
imul arch s r src next = do
  y ← read_operand arch s src next
  done (settled arch r (product s (register arch r % limit s) y) next)

-- ---- moves

-- a store is of 64 bits
unfoldable pub move : Arch → Size → (dst src : Operand) → (next : ℕ) → Row
move arch s (operand.Reg r) src next = do
  value ← read_operand arch s src next
  done (assigned arch r value next)
move arch size.Qword (operand.Mem m) src next = do
  value ← read_operand arch size.Qword src next
  _ ← store_at (effective arch m next) value
  done (stepped arch arch.regs next arch.flags value)
move arch s dst src next = fault invalid_opcode

-- MOVZX of a byte
unfoldable pub movzx : Arch → Reg → Mem → (next : ℕ) → Row
movzx arch r m next = do
  value ← load_at (effective arch m next) 1
  done (assigned arch r value next)

-- MOVSXD of 32 bits
unfoldable pub movsxd : Arch → Reg → (src : Operand) → (next : ℕ) → Row
movsxd arch r src next = do
  value ← read_operand arch size.Dword src next
  done (assigned arch r (cast_unsigned w64 (cast_signed w32 value)) next)

-- CMOVcc reads its operand, and clears the upper half of a 32-bit destination, also where the condition fails
unfoldable pub cmov : Arch → Cond → Size → Reg → (src : Operand) → (next : ℕ) → Row
cmov arch c s r src next = do
  value ← read_operand arch s src next
  done (assigned arch r (if holds c (status arch.flags) then value else register arch r % limit s) next)

-- ---- exchanges and locked operations, of 64 bits

unfoldable pub xchg : Arch → (dst : Operand) → Reg → (next : ℕ) → Row
xchg arch (operand.Reg d) r next =
    done (stepped arch (slice_set (with_register arch r (register arch d)) (reg_number d) (register arch r)) next arch.flags (register arch r))
xchg arch (operand.Mem m) r next = do
  word ← write_place (effective arch m next)
  found ← swap word (register arch r)
  done (assigned arch r found next)
xchg arch (operand.Imm z) r next = fault invalid_opcode

unfoldable pub lock_xadd : Arch → Mem → Reg → (next : ℕ) → Row
lock_xadd arch m r next = do
  word ← write_place (effective arch m next)
  found ← fetch_add word (register arch r)
  done (stepped arch (with_register arch r found) next (rflags (sum size.Qword found (register arch r) 0).flags) found)

-- RAX gets the word that was found, where it differs
abbrev pub rax_found : Arch → (found : ℕ) → List ℕ
rax_found arch found = if rax arch == found then arch.regs else with_register arch regs.Rax found

unfoldable pub lock_cmpxchg : Arch → Mem → Reg → (next : ℕ) → Row
lock_cmpxchg arch m r next = do
  word ← write_place (effective arch m next)
  found ← compare_exchange word (rax arch) (register arch r)
  done (stepped arch (rax_found arch found) next (rflags (difference size.Qword (rax arch) found 0).flags) found)

-- ---- operations of one register

-- the status flags with this carry
abbrev pub with_carry : Bool → Arch → StatusFlags
with_carry c arch = record (status arch.flags) { cf = c }

-- the count of a shift goes modulo the size
abbrev pub shift_count : Arch → Size → Count → ℕ
shift_count arch s (counts.Number n) = n % bits s
shift_count arch s counts.Cl = register arch regs.Rcx % 256 % bits s

-- a shift by 0 keeps the flags
abbrev pub shift : Arch → Size → Reg → (count : ℕ) → Computed → (next : ℕ) → Arch × Record
shift arch s r n c next = if n == 0 then assigned arch r (register arch r % limit s) next else settled arch r c next

-- ---- the instructions

abbrev pub arithmetic : Arch → Instr → (next : ℕ) → Row
arithmetic arch (instr.Alu op s dst src) next = alu arch op s dst src next
arithmetic arch (instr.Test s dst src) next = test arch s dst src next
arithmetic arch (instr.Mov s dst src) next = move arch s dst src next
arithmetic arch (instr.MovWide r value) next = done (assigned arch r value next)
arithmetic arch (instr.MovZero8 r m) next = movzx arch r m next
arithmetic arch (instr.MovSign32 r src) next = movsxd arch r src next
arithmetic arch (instr.Lea s r m) next = done (assigned arch r (effective arch m next % limit s) next)
arithmetic arch (instr.Xchg dst r) next = xchg arch dst r next
arithmetic arch (instr.LockXadd m r) next = lock_xadd arch m r next
arithmetic arch (instr.LockCmpxchg m r) next = lock_cmpxchg arch m r next
arithmetic arch (instr.Inc s r) next = done (settled arch r (keeping (carry arch) (sum s (register arch r % limit s) 1 0)) next)
arithmetic arch (instr.Dec s r) next = done (settled arch r (keeping (carry arch) (difference s (register arch r % limit s) 1 0)) next)
arithmetic arch (instr.Not s r) next = done (assigned arch r (ones_complement s (register arch r % limit s)) next)
arithmetic arch (instr.Neg s r) next = done (settled arch r (difference s 0 (register arch r % limit s) 0) next)
arithmetic arch (instr.Imul s r src) next = imul arch s r src next
arithmetic arch (instr.Shl s r c) next = done (shift arch s r (shift_count arch s c) (shifted_left s (register arch r % limit s) (shift_count arch s c)) next)
arithmetic arch (instr.Shr s r c) next = done (shift arch s r (shift_count arch s c) (shifted_right s (register arch r % limit s) (shift_count arch s c)) next)
arithmetic arch (instr.Sar s r c) next = done (shift arch s r (shift_count arch s c) (shifted_arithmetic s (register arch r % limit s) (shift_count arch s c)) next)
arithmetic arch (instr.Cmov c s r src) next = cmov arch c s r src next
arithmetic arch instr.Nop next = done (stepped arch arch.regs next arch.flags 0)
arithmetic arch instr.Pause next = done (stepped arch arch.regs next arch.flags 0)
arithmetic arch instr.Endbr64 next = done (stepped arch arch.regs next arch.flags 0)
arithmetic arch instr.Stc next = done (stepped arch arch.regs next (rflags (with_carry true arch)) 0)
arithmetic arch instr.Clc next = done (stepped arch arch.regs next (rflags (with_carry false arch)) 0)
arithmetic arch i next = fault invalid_opcode
