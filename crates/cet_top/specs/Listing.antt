-- The listing of an image's code: an instruction a line, with its address, its bytes and its text. Source: own; which bytes
-- spell which instruction is the Intel SDM's (volume 2).
use Rattle.std.specs.Prelude.{◌≡◌, ℕ, ◌+◌, ◌-◌, Bool, true, false, List, [], ◌∷◌, ◌++◌, length, replicate, codes}
use Rattle.std.specs.List.{flat_map}
use Rattle.cet_words.specs.declared.images.Segment.{Segment}
use Rattle.cet_isa.specs.declared.instructions.Instr.{Instr}
use Rattle.cet_isa.specs.Spells.{Spells, Begins}
use Rattle.cet_base.specs.Digits.{hex2, hex16}
use Rattle.cet_encode.specs.Text.{text_of}
use Rattle.cet_trace.specs.Line.{line}

-- what a line shows: an instruction in one of its spellings, or a byte with which no instruction begins
pub data Piece : Type 0 where
  Instruction : (instr : Instr) (spelling : List ℕ) → Piece
  Lone : (byte : ℕ) → Piece

abbrev pub piece_bytes : Piece → List ℕ
piece_bytes (Instruction instr spelling) = spelling
piece_bytes (Lone byte) = byte ∷ []

-- the piece is what such code begins with
abbrev pub IsFirst : Piece → (code : List ℕ) → Type 0
IsFirst (Instruction instr spelling) code = Spells spelling instr
IsFirst (Lone byte) code = (instr : Instr) (len : ℕ) → ¬ Begins code instr len

-- the code is these pieces, one after another
abbrev pub IsCut : List Piece → (code : List ℕ) → Type 0
IsCut [] code = code ≡ []
IsCut (p ∷ ps) code = (rest : List ℕ) × IsFirst p code × (code ≡ piece_bytes p ++ rest) × IsCut ps rest

abbrev pub piece_text : Piece → List ℕ
piece_text (Instruction instr spelling) = text_of instr
piece_text (Lone byte) = codes ".byte 0x" ++ hex2 byte

-- address, bytes and text
abbrev pub piece_line : ℕ → Piece → List ℕ
piece_line addr p = line (hex16 addr) (flat_map hex2 (piece_bytes p) ∷ piece_text p ∷ [])

-- the lines of the pieces, the first of which stands at this address
abbrev pub piece_lines : ℕ → List Piece → List ℕ
piece_lines addr [] = []
piece_lines addr (p ∷ ps) = piece_line addr p ++ piece_lines (addr + length (piece_bytes p)) ps

-- the lines of code that stands at this address
pub record Lists (addr : ℕ) (code text : List ℕ) : Type 0 where
  pub pieces : List Piece
  pub cut : IsCut pieces code
  pub lines : text ≡ piece_lines addr pieces

-- all bytes of a segment: those of the file, and zeros up to its size
abbrev pub segment_code : Segment → List ℕ
segment_code s = s.bytes ++ replicate (s.size - length s.bytes) 0

-- the lines of a segment, by whether it is executable
abbrev pub ListsIf : Bool → Segment → List ℕ → Type 0
ListsIf true s text = Lists s.start (segment_code s) text
ListsIf false s text = text ≡ []

-- the listing of an image with these segments: the lines of the executable ones, in their order
abbrev pub IsListing : List Segment → List ℕ → Type 0
IsListing [] text = text ≡ []
IsListing (s ∷ ss) text = (first : List ℕ) × (rest : List ℕ) × ListsIf s.exec s first × IsListing ss rest × (text ≡ first ++ rest)
