-- Rows of the table that have neither prefixes nor escape bytes.
use Rattle.std.proofs.Common.{◌≡◌, ℕ, ◌+◌, ◌*◌, ◌/◌, ◌%◌, ℤ, Bool, true, false, cond, eqb, nat_lt, List, [], ◌∷◌, ◌++◌, Some, refl, ap, sym, ◌∙◌, append_assoc}
use Rattle.cet_isa.specs.declared.instructions.AluOp.{AluOp}
use Rattle.cet_isa.specs.declared.instructions.Mem.{Mem}
use Rattle.cet_isa.specs.declared.instructions.Operand.{Operand}
use Rattle.cet_isa.specs.declared.instructions.Operand.TheVariants as operands
use Rattle.cet_isa.specs.declared.instructions.Size.{Size}
use Rattle.cet_isa.specs.declared.instructions.Size.TheVariants as sizes
use Rattle.cet_isa.specs.Canonical.{alu_spelling, coded, fits_byte, four_bytes, mov_spelling, one_byte, present, w_bit, with_rm}
use Rattle.cet_isa.specs.Form.{Form, Imm, Kind, NoRex, ClearRex, SetRex, Pattern, Rex, Wide, byte, either/, memory/, row}
use Rattle.cet_isa.specs.Form as forms
use Rattle.cet_isa.specs.Spells.{places}
use Rattle.cet_encode.specs.Bytes.{alu_number_bytes, rm_bytes}

plain_row : (wide : Wide) (opcodes modrms : Pattern) (size : Imm) (kind : Kind) (rex opcode modrm : ℕ) (tail : List ℕ) (none low : Bool)
    → present (places (row [] wide [] opcodes (Some modrms) size kind) (cond none NoRex (cond low ClearRex SetRex))) (0 ∷ 0 ∷ 0 ∷ cond none 0 (64 + rex) ∷ 0 ∷ 0 ∷ opcode ∷ modrm ∷ []) ++ tail
    ≡ (cond none [] ((64 + rex) ∷ []) ++ opcode ∷ []) ++ (modrm ∷ tail)
plain_row wide opcodes modrms size kind rex opcode modrm tail true low = refl
plain_row wide opcodes modrms size kind rex opcode modrm tail false true = refl
plain_row wide opcodes modrms size kind rex opcode modrm tail false false = refl

-- a row with ModRM, and what its immediate follows
rm_row : (wide : Wide) (opcodes modrms : Pattern) (imm : Imm) (kind : Kind) (size : Size) (opcode reg : ℕ) (rm : Operand) (tail : List ℕ)
    → with_rm (row [] wide [] opcodes (Some modrms) imm kind) size opcode reg rm tail ≡ rm_bytes [] [] size opcode reg rm ++ tail
rm_row wide opcodes modrms imm kind size opcode reg rm tail =
    let rex = w_bit size + 4 * (reg / 8) + (coded rm).extend in
    let modrm = (coded rm).mode + 8 * (reg % 8) in
    plain_row wide opcodes modrms imm kind rex opcode modrm ((coded rm).sib ++ ((coded rm).disp ++ tail)) (eqb rex 0) (nat_lt rex 8)
    ∙ ap (λ end. (cond (eqb rex 0) [] ((64 + rex) ∷ []) ++ opcode ∷ []) ++ (modrm ∷ end)) (append_back (coded rm).sib (coded rm).disp tail)
    ∙ append_back (cond (eqb rex 0) [] ((64 + rex) ∷ []) ++ opcode ∷ []) (modrm ∷ ((coded rm).sib ++ (coded rm).disp)) tail
  where
    append_back : (xs ys zs : List ℕ) → xs ++ (ys ++ zs) ≡ (xs ++ ys) ++ zs
    append_back xs ys zs = sym (append_assoc xs ys zs)

both : (b : Bool) (xs ys xs' ys' : List ℕ) → xs ≡ xs' → ys ≡ ys' → cond b xs ys ≡ cond b xs' ys'
both true xs ys xs' ys' p q = p
both false xs ys xs' ys' p q = q

pub mov_number : (dst : Operand) (n : ℤ) → rm_bytes [] [] sizes.Qword 0xc7 0 dst ++ four_bytes n ≡ mov_spelling sizes.Qword dst (operands.Imm n)
mov_number (operands.Reg r) n = sym (rm_row forms.Set (byte 0xc7) (either/ 0) forms.Dword forms.MovRmImm sizes.Qword 0xc7 0 (operands.Reg r) (four_bytes n))
mov_number (operands.Mem m) n = sym (rm_row forms.Set (byte 0xc7) (either/ 0) forms.Dword forms.MovRmImm sizes.Qword 0xc7 0 (operands.Mem m) (four_bytes n))
mov_number (operands.Imm k) n = sym (rm_row forms.Set (byte 0xc7) (either/ 0) forms.Dword forms.MovRmImm sizes.Qword 0xc7 0 (operands.Imm k) (four_bytes n))

pub cmp_number : (op : AluOp) (size : Size) (m : Mem) (n : ℤ) → alu_number_bytes 7 size (operands.Mem m) n ≡ alu_spelling op size (operands.Mem m) (operands.Imm n)
cmp_number op size m n =
    both (fits_byte n) _ _ _ _
    (sym (rm_row forms.Sized (byte 0x83) (memory/ 7) forms.Byte forms.AluRmImm size 0x83 7 (operands.Mem m) (one_byte n)))
    (sym (rm_row forms.Sized (byte 0x81) (memory/ 7) forms.Dword forms.AluRmImm size 0x81 7 (operands.Mem m) (four_bytes n)))
