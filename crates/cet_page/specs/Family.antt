-- Which part of the machine carries an instruction. Source: own.
use Rattle.cet_isa.specs.declared.instructions.Instr.{Instr}
use Rattle.cet_isa.specs.declared.instructions.Instr.TheVariants as instr
use Rattle.cet_page.specs.declared.families.Family.{Family}
use Rattle.cet_page.specs.declared.families.Family.TheVariants as families

-- every instruction has a family
abbrev pub family_of : Instr → Family
family_of (instr.CallRel disp) = families.Flow
family_of (instr.CallInd target notrack) = families.Flow
family_of instr.Ret = families.Flow
family_of (instr.RetImm bytes) = families.Flow
family_of (instr.Push src) = families.Flow
family_of (instr.Pop r) = families.Flow
family_of instr.Leave = families.Flow
family_of (instr.JmpRel disp) = families.Flow
family_of (instr.JmpInd target notrack) = families.Flow
family_of (instr.Jcc c disp) = families.Flow
family_of instr.Syscall = families.SystemCall
family_of (instr.Incsspq r) = families.ShadowStacks
family_of (instr.Rdsspq r) = families.ShadowStacks
family_of (instr.Rstorssp m) = families.ShadowStacks
family_of instr.Saveprevssp = families.ShadowStacks
family_of instr.Setssbsy = families.Supervisor
family_of (instr.Clrssbsy m) = families.Supervisor
family_of (instr.Wrssq m r) = families.ShadowStacks
family_of (instr.Wrussq m r) = families.ShadowStacks
family_of (instr.Alu op s dst src) = families.Arithmetic
family_of (instr.Test s dst src) = families.Arithmetic
family_of (instr.Mov s dst src) = families.Arithmetic
family_of (instr.MovWide r value) = families.Arithmetic
family_of (instr.MovZero8 r m) = families.Arithmetic
family_of (instr.MovSign32 r src) = families.Arithmetic
family_of (instr.Lea s r m) = families.Arithmetic
family_of (instr.Xchg dst r) = families.Arithmetic
family_of (instr.LockXadd m r) = families.Arithmetic
family_of (instr.LockCmpxchg m r) = families.Arithmetic
family_of (instr.Inc s r) = families.Arithmetic
family_of (instr.Dec s r) = families.Arithmetic
family_of (instr.Not s r) = families.Arithmetic
family_of (instr.Neg s r) = families.Arithmetic
family_of (instr.Imul s r src) = families.Arithmetic
family_of (instr.Shl s r c) = families.Arithmetic
family_of (instr.Shr s r c) = families.Arithmetic
family_of (instr.Sar s r c) = families.Arithmetic
family_of (instr.Cmov c s r src) = families.Arithmetic
family_of instr.Nop = families.Arithmetic
family_of instr.Pause = families.Arithmetic
family_of instr.Endbr64 = families.Arithmetic
family_of instr.Ud2 = families.Arithmetic
family_of instr.Stc = families.Arithmetic
family_of instr.Clc = families.Arithmetic
