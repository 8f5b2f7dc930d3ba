-- Which bytes spell which instruction: a relation on whole strings. Source: Intel SDM volume 2, chapter 2, instruction
-- format.
use Rattle.std.specs.Prelude.{◌≡◌, ℕ, Bool, true, false, ◌==◌, nat_lt, ◌&&◌, List, [], ◌∷◌, ◌++◌, length, Option, Some, None, Contains, slice_index, bit_and, ◌≢◌, ◌≤◌, take}
use Rattle.cet_isa.specs.declared.instructions.Instr.{Instr}
use Rattle.cet_isa.specs.declared.instructions.Operand.{Operand}
use Rattle.cet_isa.specs.Form.{Pattern, Wide, Sized, Set, Clear, Ignored, Never, Rex, NoRex, ClearRex, SetRex, Imm, NoImm, Byte, Word, Dword, Qword, Form}
use Rattle.cet_isa.specs.Meaning.{sib_len, disp_len, operand_of, signed_of, Fields, instr_of}
use Rattle.cet_isa.specs.Forms.{forms}
use Rattle.cet_isa.specs.Reader.{IsBytes}

-- whether a byte is of the set
abbrev pub has : Pattern → ℕ → Bool
has p b = (bit_and b p.mask == p.value) && nat_lt b p.below

-- whether a row takes this REX
abbrev pub allows : Wide → Rex → Bool
allows Sized rex = true
allows Ignored rex = true
allows Set SetRex = true
allows Set rex = false
allows Clear SetRex = false
allows Clear rex = true
allows Never NoRex = true
allows Never rex = false

-- 40 to 47 have W clear, 48 to 4f have it set
abbrev pub rex_pattern : Rex → Option Pattern
rex_pattern NoRex = None
rex_pattern ClearRex = Some (record { mask = 0xf8; value = 0x40; below = 256 })
rex_pattern SetRex = Some (record { mask = 0xf8; value = 0x48; below = 256 })

-- the eight places of a row before SIB, in the order of the bytes; an empty place has no byte
abbrev pub places : Form → Rex → List (Option Pattern)
places f rex = f.first ∷ f.second ∷ f.third ∷ rex_pattern rex ∷ f.escape ∷ f.escape2 ∷ Some f.opcode ∷ f.modrm ∷ []

-- These bytes fill the places. A cell is the byte of a place, and 0 at an empty one.
abbrev pub Fill : List (Option Pattern) → List ℕ → List ℕ → Type 0
Fill [] bytes cells = (bytes ≡ []) × (cells ≡ [])
Fill (None ∷ ps) bytes cells = (rest : List ℕ) × (cells ≡ 0 ∷ rest) × Fill ps bytes rest
Fill (Some p ∷ ps) bytes cells = (b : ℕ) × (after : List ℕ) × (rest : List ℕ) × (has p b ≡ true) × (bytes ≡ b ∷ after) × (cells ≡ b ∷ rest) × Fill ps after rest

abbrev pub imm_len : Imm → ℕ
imm_len NoImm = 0
imm_len Byte = 1
imm_len Word = 2
imm_len Dword = 4
imm_len Qword = 8

-- REX is cell 3, the opcode cell 6, ModRM cell 7
abbrev pub rex_in : List ℕ → ℕ
rex_in cells = slice_index cells 3

abbrev pub opcode_in : List ℕ → ℕ
opcode_in cells = slice_index cells 6

abbrev pub modrm_in : List ℕ → ℕ
modrm_in cells = slice_index cells 7

-- what SIB and displacement make of ModRM; no SIB counts as 0
abbrev pub rm_in : List ℕ → List ℕ → List ℕ → Operand
rm_in cells sib disp = operand_of (rex_in cells) (modrm_in cells) (slice_index sib 0) (signed_of disp)

abbrev pub fields_in : List ℕ → Operand → List ℕ → Fields
fields_in cells rm imm = record {
  rex = rex_in cells;
  opcode = opcode_in cells;
  modrm = modrm_in cells;
  rm = rm;
  imm = imm;
}

-- These bytes spell the instruction by this row: the bytes of its places, then SIB, displacement and immediate.
pub record SpelledBy (f : Form) (bytes : List ℕ) (i : Instr) : Type 0 where
  pub rex : Rex
  pub allowed : allows f.wide rex ≡ true
  pub head : List ℕ
  pub cells : List ℕ
  pub filled : Fill (places f rex) head cells
  pub sib : List ℕ
  pub sib_fits : length sib ≡ sib_len (modrm_in cells)
  pub disp : List ℕ
  pub disp_fits : length disp ≡ disp_len (modrm_in cells) (slice_index sib 0)
  pub imm : List ℕ
  pub imm_fits : length imm ≡ imm_len f.imm
  pub tail_fits : IsBytes (sib ++ (disp ++ imm))
  pub whole : bytes ≡ head ++ (sib ++ (disp ++ imm))
  pub means : i ≡ instr_of f.kind (fields_in cells (rm_in cells sib disp) imm)

-- These bytes are one spelling of the instruction: by some row of the table.
pub record Spells (bytes : List ℕ) (i : Instr) : Type 0 where
  pub form : Form
  pub listed : Contains forms form
  pub spelled : SpelledBy form bytes i

-- the first bytes, so many, spell the instruction
pub record Begins (bytes : List ℕ) (i : Instr) (len : ℕ) : Type 0 where
  pub within : len ≤ length bytes
  pub spelled : Spells (take len bytes) i

-- the bytes are a proper prefix of a spelling
pub record IsPart (bytes : List ℕ) : Type 0 where
  pub more : List ℕ
  pub some_more : more ≢ []
  pub instr : Instr
  pub spelled : Spells (bytes ++ more) instr
