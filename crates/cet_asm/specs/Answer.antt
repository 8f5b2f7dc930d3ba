-- The answer of the assembler. Source: own.
use Rattle.std.specs.Prelude.{ℕ, List, Result, Ok, Err}
use Rattle.cet_asm.specs.declared.program.Program.{Program}
use Rattle.cet_asm.specs.declared.program.AsmFault.{AsmFault}
use Rattle.cet_asm.specs.declared.program.AsmFault.TheVariants.{At, NoMemory}
use Rattle.cet_asm.specs.Program.{IsProgram, IsFirstFault}

-- The text's program, or its first faulty line and the first rule that this breaks, unless memory runs out.
abbrev pub IsAnswer : List ℕ → Result Program AsmFault → Type 0
IsAnswer source (Ok program) = IsProgram source program
IsAnswer source (Err (At line rule)) = IsFirstFault source line rule
IsAnswer source (Err NoMemory) = Unit {0}
