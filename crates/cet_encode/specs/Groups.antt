-- Groups of instructions that are written alike. Source: own.
use Rattle.cet_isa.specs.declared.instructions.Instr.{Instr}
use Rattle.cet_isa.specs.declared.instructions.Instr.TheVariants as instrs

-- without operands
abbrev pub IsFixed : Instr → Type 0
IsFixed instrs.Leave = Unit {0}
IsFixed instrs.Ret = Unit {0}
IsFixed instrs.Nop = Unit {0}
IsFixed instrs.Pause = Unit {0}
IsFixed instrs.Endbr64 = Unit {0}
IsFixed instrs.Ud2 = Unit {0}
IsFixed instrs.Syscall = Unit {0}
IsFixed instrs.Stc = Unit {0}
IsFixed instrs.Clc = Unit {0}
IsFixed instrs.Saveprevssp = Unit {0}
IsFixed instrs.Setssbsy = Unit {0}
IsFixed instr = ⊥

-- with a register and an operand, in one form each
abbrev pub IsMoving : Instr → Type 0
IsMoving (instrs.MovZero8 dst src) = Unit {0}
IsMoving (instrs.MovSign32 dst src) = Unit {0}
IsMoving (instrs.Lea size dst src) = Unit {0}
IsMoving (instrs.Xchg dst reg) = Unit {0}
IsMoving (instrs.LockXadd mem reg) = Unit {0}
IsMoving (instrs.LockCmpxchg mem reg) = Unit {0}
IsMoving (instrs.Imul size dst src) = Unit {0}
IsMoving (instrs.Cmov cc size dst src) = Unit {0}
IsMoving instr = ⊥

-- of shadow stacks, with an operand
abbrev pub IsShadow : Instr → Type 0
IsShadow (instrs.Incsspq reg) = Unit {0}
IsShadow (instrs.Rdsspq reg) = Unit {0}
IsShadow (instrs.Rstorssp mem) = Unit {0}
IsShadow (instrs.Clrssbsy mem) = Unit {0}
IsShadow (instrs.Wrssq mem reg) = Unit {0}
IsShadow (instrs.Wrussq mem reg) = Unit {0}
IsShadow instr = ⊥
