-- Reading one instruction from the front of a list of bytes, by the table of instructions. Each function gives what it
-- read and the bytes that are left. Source: own.
use Rattle.std.specs.Prelude.{◌≡◌, ◌↔◌, ℕ, ◌-◌, nat_lt, if◌then◌else◌, List, [], ◌∷◌, length, take, drop, Option, Some, None, Result, Ok, Err, slice_index}
use Rattle.cet_isa.specs.declared.instructions.Operand.{Operand}
use Rattle.cet_isa.specs.declared.instructions.Instr.{Instr}
use Rattle.cet_isa.specs.Form.{Pattern, Rex, NoRex, ClearRex, SetRex, Form}
use Rattle.cet_isa.specs.Forms.{forms}
use Rattle.cet_isa.specs.Meaning.{sib_len, disp_len, instr_of}
use Rattle.cet_isa.specs.Spells.{has, allows, places, imm_len, modrm_in, rm_in, fields_in, Begins, IsPart}
use Rattle.cet_isa.specs.Reader.{Miss, Ends, Differs, ◌>>=◌, or_else}

-- the byte of a place, 0 for an empty one
unfoldable pub byte_at : Option Pattern → List ℕ → Result (ℕ × List ℕ) Miss
byte_at None bytes = Ok (0, bytes)
byte_at (Some p) [] = Err Ends
byte_at (Some p) (b ∷ bytes) = if has p b then Ok (b, bytes) else Err Differs

-- the cells of these places
unfoldable pub cells_at : List (Option Pattern) → List ℕ → Result (List ℕ × List ℕ) Miss
cells_at [] bytes = Ok ([], bytes)
cells_at (p ∷ ps) bytes = do
  cell ← byte_at p bytes
  cells ← cells_at ps cell.1
  Ok (cell.0 ∷ cells.0, cells.1)

-- n bytes
unfoldable pub bytes_at : ℕ → List ℕ → Result (List ℕ × List ℕ) Miss
bytes_at n bytes = if nat_lt (length bytes) n then Err Ends else Ok (take n bytes, drop n bytes)

-- what mod and rm name, by the SIB and displacement that follow
unfoldable pub operand_at : List ℕ → List ℕ → Result (Operand × List ℕ) Miss
operand_at cells bytes = do
  sib ← bytes_at (sib_len (modrm_in cells)) bytes
  disp ← bytes_at (disp_len (modrm_in cells) (slice_index sib.0 0)) sib.1
  Ok (rm_in cells sib.0 disp.0, disp.1)

-- an instruction by this row with this REX
unfoldable pub read_at : Form → Rex → List ℕ → Result (Instr × List ℕ) Miss
read_at f rex bytes = do
  cells ← cells_at (places f rex) bytes
  rm ← operand_at cells.0 cells.1
  imm ← bytes_at (imm_len f.imm) rm.1
  Ok (instr_of f.kind (fields_in cells.0 rm.0 imm.0), imm.1)

unfoldable pub form_at : Form → Rex → List ℕ → Result (Instr × List ℕ) Miss
form_at f rex bytes = if allows f.wide rex then read_at f rex bytes else Err Differs

-- an instruction by this row
unfoldable pub row_at : Form → List ℕ → Result (Instr × List ℕ) Miss
row_at f bytes = or_else (or_else (form_at f NoRex bytes) (form_at f ClearRex bytes)) (form_at f SetRex bytes)

-- an instruction by one of these rows
unfoldable pub any_at : List Form → List ℕ → Result (Instr × List ℕ) Miss
any_at [] bytes = Err Differs
any_at (f ∷ fs) bytes = or_else (row_at f bytes) (any_at fs bytes)

-- The first `len` bytes spell the instruction; the bytes end within a spelling; neither.
pub data Decoding : Type 0 where
  Read : Instr → (len : ℕ) → Decoding
  Short : Decoding
  Unknown : Decoding

-- what was read of so many bytes
abbrev pub decoding_of : ℕ → Result (Instr × List ℕ) Miss → Decoding
decoding_of n (Ok x) = Read x.0 (n - length x.1)
decoding_of n (Err Ends) = Short
decoding_of n (Err Differs) = Unknown

-- the instruction at the front of the bytes
unfoldable pub decoded : List ℕ → Decoding
decoded bytes = decoding_of (length bytes) (any_at forms bytes)

-- how many bytes the instruction has, 0 where there is none
abbrev pub read_length : Decoding → ℕ
read_length (Read i len) = len
read_length Short = 0
read_length Unknown = 0

-- Each answer comes exactly where its cause holds.
pub record IsAnswer (bytes : List ℕ) (answer : Decoding) : Type 0 where
  pub read : (i : Instr) (len : ℕ) → (answer ≡ Read i len) ↔ Begins bytes i len
  pub short : (answer ≡ Short) ↔ IsPart bytes
  pub unknown : (answer ≡ Unknown) ↔ (((i : Instr) (len : ℕ) → ¬ Begins bytes i len) × ¬ IsPart bytes)
