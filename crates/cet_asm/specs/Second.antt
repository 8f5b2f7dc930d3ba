-- What the second pass answers. Source: own.
use Rattle.std.specs.Prelude.{◌≡◌, ℕ, Bool, List, Option, Some, None, Result, Ok, Err, codes}
use Rattle.cet_syntax.specs.Line.{Line, Statement}
use Rattle.cet_asm.specs.Layout.{start, after}
use Rattle.cet_asm.specs.Program.{Symbols, fault_at, broken_at, section_from, symbol_address, mark_from}
use Rattle.cet_asm.specs.Passes.{fault_by, IsWithin}
use Rattle.cet_asm.specs.declared.program.Program.{Program}
use Rattle.cet_asm.specs.declared.program.AsmFault.{AsmFault}
use Rattle.cet_asm.specs.declared.program.AsmFault.TheVariants.{At, NoMemory}
use Rattle.cet_asm.specs.declared.sections.LocationCounter.{LocationCounter}
use Rattle.cet_asm.specs.declared.sections.Section.TheVariants as sections

-- the program of these lines, where no line breaks a rule
pub record IsOutput (w : Symbols) (twice : Option ℕ) (lines : List Line) (program : Program) : Type 0 where
  pub sound : fault_by w twice 1 start lines ≡ None
  pub text : program.text ≡ section_from w sections.Text start lines
  pub static_data : program.static_data ≡ section_from w sections.Data start lines
  pub entry : program.entry ≡ symbol_address w (codes "_start")
  pub mark : program.mark ≡ mark_from 2 lines

abbrev pub IsSecond : Symbols → Option ℕ → List Line → Result Program AsmFault → Type 0
IsSecond w twice lines (Ok program) = IsOutput w twice lines program
IsSecond w twice lines (Err (At line rule)) = fault_by w twice 1 start lines ≡ Some (record { line = line; rule = rule })
IsSecond w twice lines (Err NoMemory) = Unit {0}

-- a line that breaks no rule, and where the next one stands; or the rule that it breaks
abbrev pub IsLineAnswer : Symbols → Bool → ℕ → LocationCounter → Statement → Result LocationCounter AsmFault → Type 0
IsLineAnswer w twice number h s (Ok next) = (broken_at w twice h s ≡ None) × ((next ≡ after h s) × IsWithin next)
IsLineAnswer w twice number h s (Err (At line rule)) = fault_at number (broken_at w twice h s) ≡ Some (record { line = line; rule = rule })
IsLineAnswer w twice number h s (Err NoMemory) = Unit {0}
