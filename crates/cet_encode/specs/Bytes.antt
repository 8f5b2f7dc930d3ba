-- The bytes of an encoding in their order. Source: Intel SDM volume 2, chapter 2, instruction format.
use Rattle.std.specs.Prelude.{ℕ, ℤ, ◌+◌, ◌*◌, ◌/◌, ◌%◌, ◌==◌, if◌then◌else◌, List, [], ◌∷◌, ◌++◌}
use Rattle.cet_isa.specs.declared.instructions.Count.{Count}
use Rattle.cet_isa.specs.declared.instructions.Count.TheVariants.{Number, Cl}
use Rattle.cet_isa.specs.declared.instructions.Operand.{Operand}
use Rattle.cet_isa.specs.declared.instructions.Operand.TheVariants as operands
use Rattle.cet_isa.specs.declared.instructions.Reg.{Reg}
use Rattle.cet_isa.specs.declared.instructions.Size.{Size}
use Rattle.cet_isa.specs.Canonical.{coded, fits_byte, four_bytes, high, low, one_byte, w_bit}

-- REX where one of its bits is set
abbrev pub rex_part : ℕ → List ℕ
rex_part bits = if bits == 0 then [] else (64 + bits) ∷ []

-- prefixes, REX, the bytes before the opcode, the opcode
abbrev pub opening : List ℕ → ℕ → List ℕ → ℕ → List ℕ
opening prefixes rex escapes opcode = prefixes ++ (rex_part rex ++ (escapes ++ opcode ∷ []))

-- with ModRM, SIB and displacement: the number in the reg field, and the operand
abbrev pub rm_bytes : List ℕ → List ℕ → Size → ℕ → ℕ → Operand → List ℕ
rm_bytes prefixes escapes size opcode reg rm =
    opening prefixes (w_bit size + 4 * (reg / 8) + (coded rm).extend) escapes opcode
    ++ (((coded rm).mode + 8 * (reg % 8)) ∷ (coded rm).sib ++ (coded rm).disp)

-- with a register in the opcode
abbrev pub reg_bytes : Size → ℕ → Reg → List ℕ
reg_bytes size opcode reg = rex_part (w_bit size + high reg) ++ (opcode + low reg) ∷ []

-- with an immediate, of one byte where that holds it
abbrev pub alu_number_bytes : ℕ → Size → Operand → ℤ → List ℕ
alu_number_bytes digit size dst value =
    if fits_byte value then rm_bytes [] [] size 0x83 digit dst ++ one_byte value
    else rm_bytes [] [] size 0x81 digit dst ++ four_bytes value

abbrev pub shift_bytes : ℕ → Size → Reg → Count → List ℕ
shift_bytes digit size reg (Number n) = rm_bytes [] [] size 0xc1 digit (operands.Reg reg) ++ n ∷ []
shift_bytes digit size reg Cl = rm_bytes [] [] size 0xd3 digit (operands.Reg reg)
