-- One line of the assembler by itself: its labels, and what it states. Source: own.
use Rattle.std.specs.Prelude.{ℕ, ◌^◌, zero, suc, ℤ, Bool, true, false, not, ◌&&◌, ◌==◌, if◌then◌else◌, List, [], ◌∷◌, length, Option, Some, None, is_some, codes}
use Rattle.std.specs.List.{list_all}
use Rattle.std.specs.Str.{bytes_eq, is_utf8}
use Rattle.cet_isa.specs.Spelled.{has_spelling}
use Rattle.cet_isa.specs.declared.instructions.Instr.{Instr}
use Rattle.cet_syntax.specs.declared.classes.Class.TheVariants.{Blank, Solid, NameByte, BeforeComment}
use Rattle.cet_syntax.specs.declared.mnemonics.Mnemonic.{Mnemonic}
use Rattle.cet_syntax.specs.declared.rules.Rule.{Rule}
use Rattle.cet_syntax.specs.declared.rules.Rule.TheVariants as rules
use Rattle.cet_syntax.specs.Tokens.{front, behind, Token, tokens, ◌>>=◌}
use Rattle.cet_syntax.specs.Words.{Place, Number, Label, is_label, unsigned_field, byte_field, quad_field}
use Rattle.cet_syntax.specs.Operands.{Operands, One, Value, operands, is_list, items, listed}
use Rattle.cet_syntax.specs.Mnemonics.{mnemonic_of, locked_mnemonic, untracked_mnemonic}
use Rattle.cet_syntax.specs.Instructions.{Fixups, Built, built}

-- an item of `.quad`
pub data Item : Type 0 where
  Known : (word : ℕ) → Item
  Named : (label : List ℕ) → Item

-- What a line states. `Broken` is the first rule that it breaks by itself, `Zero` a number of zero bytes. `Code` is an
-- instruction with 0 where labels are used.
pub data Statement : Type 0 where
  Nothing : Statement
  Broken : Rule → Statement
  TextSection : Statement
  DataSection : Statement
  Mark : (value : ℕ) → Statement
  Zero : (count : ℕ) → Statement
  Values : (bytes : List ℕ) → Statement
  Quads : (items : List Item) → Statement
  Code : Instr → Fixups → Statement

pub record Line : Type 0 where
  pub labels : List (List ℕ)
  pub statement : Statement

-- ---- instructions

-- operands that the instruction doesn't have are tested before numbers that don't fit
abbrev pub judged : Built → Statement
judged b = if not (has_spelling b.instr) then Broken rules.Operand else if b.fits then Code b.instr b.fixups else Broken rules.Number

abbrev pub stated : Option Built → Statement
stated None = Broken rules.Operand
stated (Some b) = judged b

-- a mnemonic, and the text after it
unfoldable pub instruction : Option Mnemonic → List ℕ → Statement
instruction None text = Broken rules.Mnemonic
instruction (Some m) text = stated (operands (tokens text) >>= built m)

-- ---- directives

-- `.text` or `.data`, which have no operands
abbrev pub section_stated : Bool → List Token → Statement
section_stated is_text [] = if is_text then TextSection else DataSection
section_stated is_text ts = Broken rules.Operand

-- the number that stands alone; a label is as one that doesn't fit
abbrev pub number_alone : Option Operands → Option (Option ℤ)
number_alone (Some (One (Value (Number value)))) = Some value
number_alone (Some (One (Value (Label name)))) = Some None
number_alone o = None

abbrev pub number_stated : (ℕ → Statement) → Option ℕ → Statement
number_stated f None = Broken rules.Number
number_stated f (Some n) = f n

-- what is stated of a number below the count
abbrev pub numbered : ℕ → (ℕ → Statement) → Option (Option ℤ) → Statement
numbered count f None = Broken rules.Operand
numbered count f (Some value) = number_stated f (value >>= unsigned_field count)

abbrev pub mark_stated : Option (Option ℤ) → Statement
mark_stated value = numbered 4 (λ n. Mark n) value

abbrev pub zero_stated : Option (Option ℤ) → Statement
zero_stated value = numbered (2 ^ 64) (λ n. Zero n) value

abbrev pub byte_of : Place → Option ℕ
byte_of (Number (Some z)) = byte_field z
byte_of p = None

abbrev pub known : Option ℕ → Option Item
known None = None
known (Some n) = Some (Known n)

abbrev pub quad_of : Place → Option Item
quad_of (Number (Some z)) = known (quad_field z)
quad_of (Number None) = None
quad_of (Label name) = Some (Named name)

-- the bytes and the words of a list
unfoldable pub bytes_in : List Token → List ℕ
bytes_in ts = items byte_of ts

unfoldable pub quads_in : List Token → List Item
quads_in ts = items quad_of ts

-- whether all items fit, or None for what is no list
unfoldable pub list_fits : (Place → Bool) → List Token → Option Bool
list_fits fits ts = if is_list ts then Some (list_all fits (listed ts)) else None

abbrev pub list_stated : Option Bool → Statement → Statement
list_stated None s = Broken rules.Operand
list_stated (Some fits) s = if fits then s else Broken rules.Number

abbrev pub is_byte : Place → Bool
is_byte p = is_some (byte_of p)

abbrev pub is_quad : Place → Bool
is_quad p = is_some (quad_of p)

abbrev pub bytes_stated : List Token → Statement
bytes_stated ts = list_stated (list_fits is_byte ts) (Values (bytes_in ts))

abbrev pub quads_stated : List Token → Statement
quads_stated ts = list_stated (list_fits is_quad ts) (Quads (quads_in ts))

unfoldable pub directive : List ℕ → List ℕ → Statement
directive w text =
    if bytes_eq w (codes ".text") then section_stated true (tokens text)
    else if bytes_eq w (codes ".data") then section_stated false (tokens text)
    else if bytes_eq w (codes ".mark") then mark_stated (number_alone (operands (tokens text)))
    else if bytes_eq w (codes ".zero") then zero_stated (number_alone (operands (tokens text)))
    else if bytes_eq w (codes ".byte") then bytes_stated (tokens text)
    else if bytes_eq w (codes ".quad") then quads_stated (tokens text)
    else Broken rules.Directive

-- ---- the line

abbrev pub skip_blanks : List ℕ → List ℕ
skip_blanks text = behind Blank text

-- the word at the front ends at a blank
abbrev pub second_word : List ℕ → List ℕ
second_word text = front Solid (skip_blanks text)

abbrev pub after_second : List ℕ → List ℕ
after_second text = behind Solid (skip_blanks text)

-- after `lock`, or after `notrack`
abbrev pub prefixed : Bool → List ℕ → Statement
prefixed lock text =
    instruction (if lock then locked_mnemonic (second_word text) else untracked_mnemonic (second_word text)) (after_second text)

-- a word, and the text after it
unfoldable pub begun : List ℕ → List ℕ → Statement
begun [] text = Nothing
begun (b ∷ w) text =
    if b == 46 then directive (b ∷ w) text
    else if bytes_eq (b ∷ w) (codes "lock") then prefixed true text
    else if bytes_eq (b ∷ w) (codes "notrack") then prefixed false text
    else instruction (mnemonic_of (b ∷ w)) text

unfoldable pub statement_of : List ℕ → Statement
statement_of text = begun (second_word text) (after_second text)

abbrev pub after_colon : List ℕ → List ℕ → Option (List ℕ × List ℕ)
after_colon name [] = None
after_colon name (b ∷ bytes) = if (b == 58) && is_label name then Some (name, bytes) else None

-- a label and the colon directly after it, with what follows
unfoldable pub first_label : List ℕ → Option (List ℕ × List ℕ)
first_label text = after_colon (front NameByte (skip_blanks text)) (behind NameByte (skip_blanks text))

-- a label before those that the function finds in what follows
abbrev pub continued : List ℕ → (List ℕ → List (List ℕ) × List ℕ) → Option (List ℕ × List ℕ) → List (List ℕ) × List ℕ
continued text further None = ([], text)
continued text further (Some x) = let y = further x.1 in (x.0 ∷ y.0, y.1)

-- at most so many labels, and what follows them
unfoldable pub labelled : ℕ → List ℕ → List (List ℕ) × List ℕ
labelled zero text = ([], text)
labelled (suc n) text = continued text (λ rest. labelled n rest) (first_label text)

-- the labels at the front, of which there are at most as many as bytes, and what follows them
unfoldable pub labels_of : List ℕ → List (List ℕ)
labels_of text = (labelled (length text) text).0

unfoldable pub after_labels : List ℕ → List ℕ
after_labels text = (labelled (length text) text).1

-- a line that isn't UTF-8 has no labels
unfoldable pub line_of : List ℕ → Line
line_of bytes =
    if is_utf8 bytes then (record { labels = labels_of (front BeforeComment bytes); statement = statement_of (after_labels (front BeforeComment bytes)) })
    else (record { labels = []; statement = Broken rules.NotUtf8 })
