-- How an encoding begins, and what a row reads behind its opcode. Source: Intel SDM volume 2, chapter 2, instruction format.
use Rattle.std.specs.Prelude.{ℕ, ◌+◌, ◌*◌, ◌/◌, ◌%◌, Bool, true, false, ◌==◌, ◌&&◌, ◌||◌, if◌then◌else◌, List, [], ◌∷◌, Option, Some, None, Result, Ok, slice_get, slice_index}
use Rattle.cet_isa.specs.declared.instructions.Instr.{Instr}
use Rattle.cet_isa.specs.declared.instructions.Operand.{Operand}
use Rattle.cet_isa.specs.Form.{Pattern, Rex, NoRex, ClearRex, SetRex}
use Rattle.cet_isa.specs.Form as table
use Rattle.cet_isa.specs.Meaning.{sib_len, disp_len, operand_of, signed_of, Fields, instr_of}
use Rattle.cet_isa.specs.Spells.{has, allows, imm_len}
use Rattle.cet_isa.specs.Reader.{Miss, ◌>>=◌}
use Rattle.cet_isa.specs.Reading.{byte_at, bytes_at}
use Rattle.cet_decode.specs.declared.forms.Form.{Form}
use Rattle.cet_decode.specs.Views.{form_view}
use Rattle.cet_rows.specs.declared.Row.{Row}
use Rattle.cet_decode.specs.declared.maps.TheConstants.{ONE_BYTE, TWO_BYTE, PICKS, PREFIXED, PREFIXED_TWO_BYTE}
use Rattle.cet_decode.specs.Index.{picks_by, picks_at}

-- ---- what stands before the opcode

-- the prefix, REX (0 where there is none), whether 0f stands before the opcode, the opcode (or the byte behind 0f, where
-- that is another before the opcode), the bytes behind it
pub record LeadData : Type 0 where
  pub prefix : Option ℕ
  pub rex : ℕ
  pub escaped : Bool
  pub opcode : ℕ
  pub rest : List ℕ

abbrev pub lead : Option ℕ → ℕ → Bool → ℕ → List ℕ → LeadData
lead prefix rex escaped opcode rest = record { prefix = prefix; rex = rex; escaped = escaped; opcode = opcode; rest = rest }

-- a prefix other than REX that a row of the table begins by
abbrev pub is_prefix : ℕ → Bool
is_prefix b = (b == 0x3e) || ((b == 0x66) || ((b == 0xf0) || (b == 0xf3)))

-- a byte that is a row's second prefix
abbrev pub is_longer : ℕ → Bool
is_longer b = (b == 0x66) || (b == 0x2e)

abbrev pub behind_escape : Option ℕ → (rex : ℕ) → List ℕ → Option LeadData
behind_escape prefix rex [] = None
behind_escape prefix rex (b ∷ bytes) = Some (lead prefix rex true b bytes)

abbrev pub behind_rex : Option ℕ → (rex : ℕ) → List ℕ → Option LeadData
behind_rex prefix rex [] = None
behind_rex prefix rex (b ∷ bytes) = if b == 0x0f then behind_escape prefix rex bytes else Some (lead prefix rex false b bytes)

-- REX is 40 to 4f
abbrev pub behind_prefix : Option ℕ → List ℕ → Option LeadData
behind_prefix prefix [] = None
behind_prefix prefix (b ∷ bytes) = if b / 16 == 4 then behind_rex prefix b bytes else behind_rex prefix 0 (b ∷ bytes)

abbrev pub behind_one : (prefix : ℕ) → List ℕ → Option LeadData
behind_one prefix [] = None
behind_one prefix (b ∷ bytes) = if is_longer b then None else behind_prefix (Some prefix) (b ∷ bytes)

-- an opcode behind one prefix, REX and 0f at most
abbrev pub lead_at : List ℕ → Option LeadData
lead_at [] = None
lead_at (b ∷ bytes) = if is_prefix b then behind_one b bytes else behind_prefix None (b ∷ bytes)

-- more than one prefix of one row
abbrev pub has_long_prefix : List ℕ → Bool
has_long_prefix [] = false
has_long_prefix (b ∷ []) = false
has_long_prefix (b ∷ c ∷ bytes) = (b == 0x66) && is_longer c

-- ---- a row behind its opcode

abbrev pub rex_at : ℕ → Rex
rex_at rex = if rex == 0 then NoRex else (if rex / 8 % 2 == 1 then SetRex else ClearRex)

-- what mod and rm name, by the SIB and displacement that follow
abbrev pub operand_behind : (rex modrm : ℕ) → List ℕ → Result (Operand × List ℕ) Miss
operand_behind rex modrm bytes = do
  sib ← bytes_at (sib_len modrm) bytes
  disp ← bytes_at (disp_len modrm (slice_index sib.0 0)) sib.1
  Ok (operand_of rex modrm (slice_index sib.0 0) (signed_of disp.0), disp.1)

abbrev pub fields_of : (rex opcode modrm : ℕ) → Operand → List ℕ → Fields
fields_of rex opcode modrm rm imm = record { rex = rex; opcode = opcode; modrm = modrm; rm = rm; imm = imm }

-- The opcode of a row that was found by a byte: this byte, or the next one where this is the second before the opcode.
abbrev pub opcode_from : (escape2 : Option Pattern) → Pattern → (found : ℕ) → List ℕ → Result (ℕ × List ℕ) Miss
opcode_from None opcode found bytes = Ok (found, bytes)
opcode_from (Some p) opcode found bytes = byte_at (Some opcode) bytes

-- an instruction by a row, from behind the byte by which it was found on
unfoldable pub row_behind : table.Form → (rex found : ℕ) → List ℕ → Result (Instr × List ℕ) Miss
row_behind f rex found bytes = do
  opcode ← opcode_from f.escape2 f.opcode found bytes
  modrm ← byte_at f.modrm opcode.1
  rm ← operand_behind rex modrm.0 modrm.1
  imm ← bytes_at (imm_len f.imm) rm.1
  Ok (instr_of f.kind (fields_of rex opcode.0 modrm.0 rm.0 imm.0), imm.1)

-- ---- the row that takes these bytes

-- what a row has behind the byte by which it is found: ModRM, or its opcode
abbrev pub next_of : (escape2 : Option Pattern) → Pattern → (modrm : Option Pattern) → Option Pattern
next_of None opcode modrm = modrm
next_of (Some p) opcode modrm = Some opcode

-- the first of the bytes may stand there
abbrev pub takes_next : Option Pattern → List ℕ → Bool
takes_next None bytes = true
takes_next (Some p) [] = true
takes_next (Some p) (b ∷ bytes) = has p b

abbrev pub takes : table.Form → (rex : ℕ) → List ℕ → Bool
takes f rex bytes = allows f.wide (rex_at rex) && takes_next (next_of f.escape2 f.opcode f.modrm) bytes

abbrev pub form_if : Bool → Form → Option Form
form_if true f = Some f
form_if false f = None

abbrev pub taker : Option Form → (rex : ℕ) → List ℕ → Option Form
taker None rex bytes = None
taker (Some f) rex bytes = form_if (takes (form_view f) rex bytes) f

abbrev pub or_later : Option Form → Option Form → Option Form
or_later None later = later
or_later (Some f) later = Some f

-- the first of the rows with these numbers that takes the bytes
unfoldable pub chosen : List Form → List ℕ → (rex : ℕ) → List ℕ → Option Form
chosen rows [] rex bytes = None
chosen rows (k ∷ ks) rex bytes = or_later (taker (slice_get rows k) rex bytes) (chosen rows ks rex bytes)

-- the numbers that a map has for an opcode
abbrev pub mapped : List ℕ → List (List ℕ) → (opcode : ℕ) → List ℕ
mapped map picks opcode = picks_by (slice_get map opcode) picks

-- the same, by the second map for an opcode behind 0f
abbrev pub mapped_by : (escaped : Bool) → (one two : List ℕ) → List (List ℕ) → (opcode : ℕ) → List ℕ
mapped_by false one two picks opcode = mapped one picks opcode
mapped_by true one two picks opcode = mapped two picks opcode

-- a prefix and the opcode behind it, as one key
abbrev pub key_of : (prefix opcode : ℕ) → ℕ
key_of prefix opcode = 256 * prefix + opcode

-- the numbers that a table has for a key, the second table for an opcode behind 0f
abbrev pub prefixed_by : (escaped : Bool) → (one two : List Row) → List (List ℕ) → (key : ℕ) → List ℕ
prefixed_by false one two picks key = picks_at one picks key
prefixed_by true one two picks key = picks_at two picks key

-- the numbers of the rows for an opcode: by the maps where no prefix stands there, else by the tables
abbrev pub numbers_by : Option ℕ → (escaped : Bool) → (opcode : ℕ) → List ℕ
numbers_by None escaped opcode = mapped_by escaped ONE_BYTE TWO_BYTE PICKS opcode
numbers_by (Some prefix) escaped opcode = prefixed_by escaped PREFIXED.rows PREFIXED_TWO_BYTE.rows PICKS (key_of prefix opcode)
