-- The definition of MOV, case by case.
use Rattle.std.specs.Prelude.{◌≡◌, ℕ, ℤ, refl}
use Rattle.cet_isa.specs.declared.instructions.Mem.{Mem}
use Rattle.cet_isa.specs.declared.instructions.Operand.{Operand}
use Rattle.cet_isa.specs.declared.instructions.Operand.TheVariants as operand
use Rattle.cet_isa.specs.declared.instructions.Reg.{Reg}
use Rattle.cet_isa.specs.declared.instructions.Size.{Size}
use Rattle.cet_isa.specs.declared.instructions.Size.TheVariants as size
use Rattle.cet_isa.specs.declared.threads.Arch.{Arch}
use Rattle.cet_page.specs.Arithmetic.{move}
use Rattle.cet_page.specs.Finish.{Row}
use Rattle.cet_page.specs.Operands.{effective, store_at, read_operand, stepped, assigned}
use Rattle.cet_page.specs.Parts.{invalid_opcode}
use Rattle.cet_page.specs.Script.{done, fault, ◌>>=◌}

-- the row of a move to a register, and of a store
abbrev pub to_register : Arch → Size → Reg → (src : Operand) → (next : ℕ) → Row
to_register arch s r src next = read_operand arch s src next >>= (λ value. done (assigned arch r value next))

abbrev pub to_memory : Arch → Mem → (src : Operand) → (next : ℕ) → Row
to_memory arch m src next = read_operand arch size.Qword src next >>= (λ value. store_at (effective arch m next) value >>= (λ _. done (stepped arch arch.regs next arch.flags value)))

pub move_register : (arch : Arch) (s : Size) (r : Reg) (src : Operand) (next : ℕ) → move arch s (operand.Reg r) src next ≡ to_register arch s r src next
unfolding move
move_register arch s r src next = refl

pub move_memory : (arch : Arch) (m : Mem) (src : Operand) (next : ℕ) → move arch size.Qword (operand.Mem m) src next ≡ to_memory arch m src next
unfolding move
move_memory arch m src next = refl

pub move_no_half : (arch : Arch) (m : Mem) (src : Operand) (next : ℕ) → move arch size.Dword (operand.Mem m) src next ≡ fault invalid_opcode
unfolding move
move_no_half arch m src next = refl

pub move_nowhere : (arch : Arch) (s : Size) (z : ℤ) (src : Operand) (next : ℕ) → move arch s (operand.Imm z) src next ≡ fault invalid_opcode
unfolding move
move_nowhere arch size.Dword z src next = refl
move_nowhere arch size.Qword z src next = refl
