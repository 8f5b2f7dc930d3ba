-- An instruction of no arm before the last is an invalid opcode.
use Rattle.std.proofs.Common.{◌≡◌, refl}
use Rattle.cet_isa.specs.declared.instructions.Instr.TheVariants as instr
use Rattle.cet_page.specs.Arithmetic.{arithmetic}
use Rattle.cet_page.specs.Parts.{invalid_opcode}
use Rattle.cet_page.specs.Script.{play, Faulted}
use Rattle.cet_alu.proofs.rows.follow.Goals as goal

pub returns-in_default : goal.returns-in_default
returns-in_default c =
    let h = c.in_default in
    let own : play (arithmetic c.args.arch.now c.args.instr.now c.args.next) c.args.at.now.left c.args.at.now.rest.now ≡ Faulted invalid_opcode =
    elim c.args.instr.now as (λ i. c.args.instr.now ≡ i → play (arithmetic c.args.arch.now i c.args.next) c.args.at.now.left c.args.at.now.rest.now ≡ Faulted invalid_opcode) [
      | instr.Alu op s dst src ↦ λ e. absurd (h.not-Alu op s dst src e)
      | instr.Test s dst src ↦ λ e. absurd (h.not-Test s dst src e)
      | instr.Mov s dst src ↦ λ e. absurd (h.not-Mov s dst src e)
      | instr.MovWide r value ↦ λ e. absurd (h.not-MovWide r value e)
      | instr.MovZero8 r m ↦ λ e. absurd (h.not-MovZero8 r m e)
      | instr.MovSign32 r src ↦ λ e. absurd (h.not-MovSign32 r src e)
      | instr.Lea s r m ↦ λ e. absurd (h.not-Lea s r m e)
      | instr.Xchg dst r ↦ λ e. absurd (h.not-Xchg dst r e)
      | instr.LockXadd m r ↦ λ e. absurd (h.not-LockXadd m r e)
      | instr.LockCmpxchg m r ↦ λ e. absurd (h.not-LockCmpxchg m r e)
      | instr.Inc s r ↦ λ e. absurd (h.not-Inc s r e)
      | instr.Dec s r ↦ λ e. absurd (h.not-Dec s r e)
      | instr.Not s r ↦ λ e. absurd (h.not-Not s r e)
      | instr.Neg s r ↦ λ e. absurd (h.not-Neg s r e)
      | instr.Imul s r src ↦ λ e. absurd (h.not-Imul s r src e)
      | instr.Shl s r n ↦ λ e. absurd (h.not-Shl s r n e)
      | instr.Shr s r n ↦ λ e. absurd (h.not-Shr s r n e)
      | instr.Sar s r n ↦ λ e. absurd (h.not-Sar s r n e)
      | instr.Cmov k s r src ↦ λ e. absurd (h.not-Cmov k s r src e)
      | instr.Nop ↦ λ e. absurd (h.not-Nop e)
      | instr.Pause ↦ λ e. absurd (h.not-Pause e)
      | instr.Endbr64 ↦ λ e. absurd (h.not-Endbr64 e)
      | instr.Stc ↦ λ e. absurd (h.not-Stc e)
      | instr.Clc ↦ λ e. absurd (h.not-Clc e)
      | _ ↦ λ e. refl
    ] refl in
    rw c.invalid_opcode.ensures (refl, own)
