-- What a thread claims of the instructions that leave the shadow stack alone: moves, arithmetic, locked operations, pushes, pops
-- and jumps. Source: own.
use Rattle.std.proofs.Common.{ℕ, ◌%◌, Bool, true, false, cond, List}
use Rattle.std.specs.Prelude.{◌==◌}
use Rattle.cet_words.specs.Job.{JobData}
use Rattle.cet_isa.specs.Address.{canonical}
use Rattle.cet_isa.specs.declared.instructions.AluOp.{AluOp}
use Rattle.cet_isa.specs.declared.instructions.AluOp.TheVariants as ops
use Rattle.cet_isa.specs.declared.instructions.Cond.{Cond}
use Rattle.cet_isa.specs.declared.instructions.Instr.{Instr}
use Rattle.cet_isa.specs.declared.instructions.Instr.TheVariants as instr
use Rattle.cet_isa.specs.declared.instructions.Mem.{Mem}
use Rattle.cet_isa.specs.declared.instructions.Operand.{Operand}
use Rattle.cet_isa.specs.declared.instructions.Operand.TheVariants as operand
use Rattle.cet_isa.specs.declared.instructions.Reg.{Reg}
use Rattle.cet_isa.specs.declared.instructions.Size.{Size}
use Rattle.cet_isa.specs.declared.instructions.Size.TheVariants as size
use Rattle.cet_isa.specs.declared.threads.Arch.{Arch}
use Rattle.cet_page.specs.declared.flags.Computed.{Computed}
use Rattle.cet_page.specs.Arithmetic.{operated, alu, test, imul, move, movzx, movsxd, cmov, xchg, lock_xadd, lock_cmpxchg, shift_count, arithmetic}
use Rattle.cet_page.specs.Flow.{push, pop, leave, jump_indirect}
use Rattle.cet_page.specs.Operands.{register, assigned, settled}
use Rattle.cet_page.specs.Parts.{invalid_opcode}
use Rattle.cet_page.specs.Values.{limit, shifted_left, shifted_right, shifted_arithmetic}
use Rattle.cet_own.specs.Safe.{IsElsewhere}
use Rattle.cet_own.specs.Owed.{State}
use Rattle.cet_own.proofs.Parts.{Claim, claim_cond, exchange_then, swap_then, fetch_add_then}
use Rattle.cet_own.specs.Threads.{Fails}
use Rattle.cet_own.proofs.OperandParts.{load_at_then, write_place_then, store_at_then, read_operand_then}
use Rattle.cet_own.proofs.Calls.{EndsRow}
use Rattle.cet_own.proofs.Progress.{Progress, progress, untouched}
use Rattle.cet_page.specs.Trail.{Visit}
use Rattle.cet_own.proofs.Resting.{Resting, rest_kept, rest_stacked, rested}

module _ (job : JobData) (arch : Arch) (free : IsElsewhere job arch) where
  -- an invalid opcode elsewhere than at a return
  pub invalid : {down : Progress} (s : State) → Resting arch.number untouched down s.book arch.ssp → Fails job arch s invalid_opcode
  invalid s rest = (rested rest, λ r. absurd (free r), tt)

  -- ---- pushes, pops and jumps

  pub push_claim : (past : List Visit) (before s : State) (src : Operand) (next : ℕ) → Resting arch.number untouched (progress past) s.book arch.ssp → Claim job arch (EndsRow job arch) past before s (push arch src next)
  unfolding push
  push_claim past before s src next rest =
      read_operand_then job arch (EndsRow job arch) past before s size.Qword src next _ rest (λ p z n rest1 value.
      store_at_then job arch (EndsRow job arch) p z n _ value _ rest1 (λ p' z' n' rest2. (rested rest2, λ held now. free, tt)))

  pub pop_claim : (past : List Visit) (before s : State) (r : Reg) (next : ℕ) → Resting arch.number untouched (progress past) s.book arch.ssp → Claim job arch (EndsRow job arch) past before s (pop arch r next)
  unfolding pop
  pop_claim past before s r next rest = load_at_then job arch (EndsRow job arch) past before s _ 8 _ rest (λ p z n rest1 value. (rested rest1, λ held now. free, tt))

  pub leave_claim : (past : List Visit) (before s : State) (next : ℕ) → Resting arch.number untouched (progress past) s.book arch.ssp → Claim job arch (EndsRow job arch) past before s (leave arch next)
  unfolding leave
  leave_claim past before s next rest = load_at_then job arch (EndsRow job arch) past before s _ 8 _ rest (λ p z n rest1 value. (rested rest1, λ held now. free, tt))

  pub jump_indirect_claim : (past : List Visit) (before s : State) (src : Operand) (next : ℕ) → Resting arch.number untouched (progress past) s.book arch.ssp →
      Claim job arch (EndsRow job arch) past before s (jump_indirect arch src next)
  unfolding jump_indirect
  jump_indirect_claim past before s src next rest =
      read_operand_then job arch (EndsRow job arch) past before s size.Qword src next _ rest (λ p z n rest1 target.
      claim_cond job arch (EndsRow job arch) p z n (canonical target) _ _ (λ _. (rested rest1, λ held now. free, tt)) (λ _. (rested rest1, λ _. tt, tt)))

  -- ---- arithmetic and moves

  operated_claim : (past : List Visit) (before s : State) (op : AluOp) (dst : Operand) (c : Computed) (next : ℕ) → Resting arch.number untouched (progress past) s.book arch.ssp →
      Claim job arch (EndsRow job arch) past before s (operated arch op dst c next)
  operated_claim past before s ops.Cmp dst c next rest = (rested rest, λ held now. free, tt)
  operated_claim past before s op (operand.Reg r) c next rest = (rested rest, λ held now. free, tt)
  operated_claim past before s op dst c next rest = invalid s rest

  alu_claim : (past : List Visit) (before s : State) (op : AluOp) (sz : Size) (dst src : Operand) (next : ℕ) → Resting arch.number untouched (progress past) s.book arch.ssp →
      Claim job arch (EndsRow job arch) past before s (alu arch op sz dst src next)
  unfolding alu
  alu_claim past before s op sz dst src next rest =
      read_operand_then job arch (EndsRow job arch) past before s sz dst next _ rest (λ p z n rest1 x.
      read_operand_then job arch (EndsRow job arch) p z n sz src next _ rest1 (λ p' z' n' rest2 y. operated_claim p' z' n' op dst _ next rest2))

  test_claim : (past : List Visit) (before s : State) (sz : Size) (dst src : Operand) (next : ℕ) → Resting arch.number untouched (progress past) s.book arch.ssp →
      Claim job arch (EndsRow job arch) past before s (test arch sz dst src next)
  unfolding test
  test_claim past before s sz dst src next rest =
      read_operand_then job arch (EndsRow job arch) past before s sz dst next _ rest (λ p z n rest1 x.
      read_operand_then job arch (EndsRow job arch) p z n sz src next _ rest1 (λ p' z' n' rest2 y. (rested rest2, λ held now. free, tt)))

  imul_claim : (past : List Visit) (before s : State) (sz : Size) (r : Reg) (src : Operand) (next : ℕ) → Resting arch.number untouched (progress past) s.book arch.ssp →
      Claim job arch (EndsRow job arch) past before s (imul arch sz r src next)
  unfolding imul
  imul_claim past before s sz r src next rest =
      read_operand_then job arch (EndsRow job arch) past before s sz src next _ rest (λ p z n rest1 y. (rested rest1, λ held now. free, tt))

  move_claim : (past : List Visit) (before s : State) (sz : Size) (dst src : Operand) (next : ℕ) → Resting arch.number untouched (progress past) s.book arch.ssp →
      Claim job arch (EndsRow job arch) past before s (move arch sz dst src next)
  unfolding move
  move_claim past before s sz (operand.Reg r) src next rest =
      read_operand_then job arch (EndsRow job arch) past before s sz src next _ rest (λ p z n rest1 value. (rested rest1, λ held now. free, tt))
  move_claim past before s size.Qword (operand.Mem m) src next rest =
      read_operand_then job arch (EndsRow job arch) past before s size.Qword src next _ rest (λ p z n rest1 value.
      store_at_then job arch (EndsRow job arch) p z n _ value _ rest1 (λ p' z' n' rest2. (rested rest2, λ held now. free, tt)))
  move_claim past before s size.Dword (operand.Mem m) src next rest = invalid s rest
  move_claim past before s size.Dword (operand.Imm z) src next rest = invalid s rest
  move_claim past before s size.Qword (operand.Imm z) src next rest = invalid s rest

  move_zero_claim : (past : List Visit) (before s : State) (r : Reg) (m : Mem) (next : ℕ) → Resting arch.number untouched (progress past) s.book arch.ssp → Claim job arch (EndsRow job arch) past before s (movzx arch r m next)
  unfolding movzx
  move_zero_claim past before s r m next rest = load_at_then job arch (EndsRow job arch) past before s _ 1 _ rest (λ p z n rest1 value. (rested rest1, λ held now. free, tt))

  move_sign_claim : (past : List Visit) (before s : State) (r : Reg) (src : Operand) (next : ℕ) → Resting arch.number untouched (progress past) s.book arch.ssp → Claim job arch (EndsRow job arch) past before s (movsxd arch r src next)
  unfolding movsxd
  move_sign_claim past before s r src next rest =
      read_operand_then job arch (EndsRow job arch) past before s size.Dword src next _ rest (λ p z n rest1 value. (rested rest1, λ held now. free, tt))

  move_if_claim : (past : List Visit) (before s : State) (c : Cond) (sz : Size) (r : Reg) (src : Operand) (next : ℕ) → Resting arch.number untouched (progress past) s.book arch.ssp →
      Claim job arch (EndsRow job arch) past before s (cmov arch c sz r src next)
  unfolding cmov
  move_if_claim past before s c sz r src next rest =
      read_operand_then job arch (EndsRow job arch) past before s sz src next _ rest (λ p z n rest1 value. (rested rest1, λ held now. free, tt))

  -- ---- exchanges and locked operations

  xchg_claim : (past : List Visit) (before s : State) (dst : Operand) (r : Reg) (next : ℕ) → Resting arch.number untouched (progress past) s.book arch.ssp → Claim job arch (EndsRow job arch) past before s (xchg arch dst r next)
  unfolding xchg
  xchg_claim past before s (operand.Reg d) r next rest = (rested rest, λ held now. free, tt)
  xchg_claim past before s (operand.Mem m) r next rest =
      write_place_then job arch (EndsRow job arch) past before s _ _ rest (λ p z n rest1 word out.
      swap_then job arch (EndsRow job arch) p z n word _ _ out (rest_stacked rest1) (λ later r' found. (rested (rest_kept r' rest1), λ held now. free, tt)))
  xchg_claim past before s (operand.Imm z) r next rest = invalid s rest

  lock_xadd_claim : (past : List Visit) (before s : State) (m : Mem) (r : Reg) (next : ℕ) → Resting arch.number untouched (progress past) s.book arch.ssp → Claim job arch (EndsRow job arch) past before s (lock_xadd arch m r next)
  unfolding lock_xadd
  lock_xadd_claim past before s m r next rest =
      write_place_then job arch (EndsRow job arch) past before s _ _ rest (λ p z n rest1 word out.
      fetch_add_then job arch (EndsRow job arch) p z n word _ _ out (rest_stacked rest1) (λ later r' found. (rested (rest_kept r' rest1), λ held now. free, tt)))

  lock_cmpxchg_claim : (past : List Visit) (before s : State) (m : Mem) (r : Reg) (next : ℕ) → Resting arch.number untouched (progress past) s.book arch.ssp →
      Claim job arch (EndsRow job arch) past before s (lock_cmpxchg arch m r next)
  unfolding lock_cmpxchg
  lock_cmpxchg_claim past before s m r next rest =
      write_place_then job arch (EndsRow job arch) past before s _ _ rest (λ p z n rest1 word out.
      exchange_then job arch (EndsRow job arch) p z n word _ _ _ out (rest_stacked rest1) (λ later r' found. (rested (rest_kept r' rest1), λ held now. free, tt)))

  -- ---- the family

  shift_ends : (past : List Visit) (before s : State) (sz : Size) (r : Reg) (c : Computed) (next : ℕ) (b : Bool) → Resting arch.number untouched (progress past) s.book arch.ssp →
      EndsRow job arch past before s (cond b (assigned arch r (register arch r % limit sz) next) (settled arch r c next))
  shift_ends past before s sz r c next true rest = (rested rest, λ held now. free, tt)
  shift_ends past before s sz r c next false rest = (rested rest, λ held now. free, tt)

  pub arithmetic_claim : (past : List Visit) (before s : State) (i : Instr) (next : ℕ) → Resting arch.number untouched (progress past) s.book arch.ssp → Claim job arch (EndsRow job arch) past before s (arithmetic arch i next)
  arithmetic_claim past before s (instr.Alu op sz dst src) next rest = alu_claim past before s op sz dst src next rest
  arithmetic_claim past before s (instr.Test sz dst src) next rest = test_claim past before s sz dst src next rest
  arithmetic_claim past before s (instr.Mov sz dst src) next rest = move_claim past before s sz dst src next rest
  arithmetic_claim past before s (instr.MovWide r value) next rest = (rested rest, λ held now. free, tt)
  arithmetic_claim past before s (instr.MovZero8 r m) next rest = move_zero_claim past before s r m next rest
  arithmetic_claim past before s (instr.MovSign32 r src) next rest = move_sign_claim past before s r src next rest
  arithmetic_claim past before s (instr.Lea sz r m) next rest = (rested rest, λ held now. free, tt)
  arithmetic_claim past before s (instr.Xchg dst r) next rest = xchg_claim past before s dst r next rest
  arithmetic_claim past before s (instr.LockXadd m r) next rest = lock_xadd_claim past before s m r next rest
  arithmetic_claim past before s (instr.LockCmpxchg m r) next rest = lock_cmpxchg_claim past before s m r next rest
  arithmetic_claim past before s (instr.Inc sz r) next rest = (rested rest, λ held now. free, tt)
  arithmetic_claim past before s (instr.Dec sz r) next rest = (rested rest, λ held now. free, tt)
  arithmetic_claim past before s (instr.Not sz r) next rest = (rested rest, λ held now. free, tt)
  arithmetic_claim past before s (instr.Neg sz r) next rest = (rested rest, λ held now. free, tt)
  arithmetic_claim past before s (instr.Imul sz r src) next rest = imul_claim past before s sz r src next rest
  arithmetic_claim past before s (instr.Shl sz r c) next rest = shift_ends past before s sz r (shifted_left sz (register arch r % limit sz) (shift_count arch sz c)) next (shift_count arch sz c == 0) rest
  arithmetic_claim past before s (instr.Shr sz r c) next rest = shift_ends past before s sz r (shifted_right sz (register arch r % limit sz) (shift_count arch sz c)) next (shift_count arch sz c == 0) rest
  arithmetic_claim past before s (instr.Sar sz r c) next rest = shift_ends past before s sz r (shifted_arithmetic sz (register arch r % limit sz) (shift_count arch sz c)) next (shift_count arch sz c == 0) rest
  arithmetic_claim past before s (instr.Cmov c sz r src) next rest = move_if_claim past before s c sz r src next rest
  arithmetic_claim past before s instr.Nop next rest = (rested rest, λ held now. free, tt)
  arithmetic_claim past before s instr.Pause next rest = (rested rest, λ held now. free, tt)
  arithmetic_claim past before s instr.Endbr64 next rest = (rested rest, λ held now. free, tt)
  arithmetic_claim past before s instr.Stc next rest = (rested rest, λ held now. free, tt)
  arithmetic_claim past before s instr.Clc next rest = (rested rest, λ held now. free, tt)
  arithmetic_claim past before s i next rest = invalid s rest
