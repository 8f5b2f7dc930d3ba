-- What a text assembles to: its definitions, the rules that each line breaks, and its bytes. Source: own.
use Rattle.std.specs.Prelude.{◌≡◌, ℕ, ℤ, ◌+◌, Bool, true, false, not, ◌&&◌, ◌||◌, ◌==◌, List, [], ◌∷◌, ◌++◌, map, Option, Some, None, is_some, codes, replicate}
use Rattle.std.specs.List.{find, list_all, list_any, flat_map, slice_split}
use Rattle.std.specs.Int.{w64, to_le_bytes}
use Rattle.std.specs.Option.{option_or}
use Rattle.std.specs.Str.{bytes_eq}
use Rattle.cet_isa.specs.Canonical.{canonical_spelling, fits_byte, one_byte}
use Rattle.cet_isa.specs.Code.{cond_number}
use Rattle.cet_isa.specs.declared.instructions.Instr.{Instr}
use Rattle.cet_isa.specs.declared.instructions.Instr.TheVariants as instrs
use Rattle.cet_syntax.specs.Instructions.{Fixups}
use Rattle.cet_syntax.specs.Line.{Item, Known, Named, Statement, Broken, Mark, Zero, Values, Quads, Code, Line, line_of}
use Rattle.cet_asm.specs.Layout.{filled, text_start, size_of, is_too_long, after, symbol_of, start, address_of, distance}
use Rattle.cet_asm.specs.declared.program.Program.{Program}
use Rattle.cet_syntax.specs.declared.rules.Rule.{Rule}
use Rattle.cet_syntax.specs.declared.rules.Rule.TheVariants as rules
use Rattle.cet_asm.specs.declared.sections.Section.{Section}
use Rattle.cet_asm.specs.declared.sections.Section.TheVariants as sections
use Rattle.cet_asm.specs.declared.sections.LocationCounter.{LocationCounter}
use Rattle.cet_asm.specs.declared.sections.SymbolValue.{SymbolValue}

abbrev pub lines_of : List ℕ → List Line
lines_of source = map line_of (slice_split (λ b. b == 10) source)

-- the number of a rule in the answer
abbrev pub rule_number : Rule → ℕ
rule_number rules.Mnemonic = 1
rule_number rules.Operand = 2
rule_number rules.Number = 3
rule_number rules.UnknownLabel = 4
rule_number rules.DefinedBefore = 5
rule_number rules.OutOfReach = 6
rule_number rules.Directive = 7
rule_number rules.TooLong = 8
rule_number rules.NotUtf8 = 9

-- ---- definitions

-- a label and its value
pub record Entry : Type 0 where
  pub name : List ℕ
  pub symbol : SymbolValue

abbrev pub entries_of : SymbolValue → List (List ℕ) → List Entry
entries_of symbol names = map (λ name. record { name = name; symbol = symbol }) names

-- the labels of the lines, the first of which stands here
abbrev pub entries_from : LocationCounter → List Line → List Entry
entries_from h [] = []
entries_from h (l ∷ ls) = entries_of (symbol_of h) l.labels ++ entries_from (after h l.statement) ls

-- where the lines end
abbrev pub end_from : LocationCounter → List Line → LocationCounter
end_from h [] = h
end_from h (l ∷ ls) = end_from (after h l.statement) ls

abbrev pub symbol_in : Option Entry → Option SymbolValue
symbol_in None = None
symbol_in (Some e) = Some e.symbol

-- the place of a label's first definition
abbrev pub place_of : List Entry → List ℕ → Option SymbolValue
place_of entries name = symbol_in (find (λ e. bytes_eq e.name name) entries)

-- the symbols of a text, and how many bytes its text section has
pub record Symbols : Type 0 where
  pub place : List ℕ → Option SymbolValue
  pub text_size : ℕ

abbrev pub symbols_of : List Line → Symbols
symbols_of lines = record { place = place_of (entries_from start lines); text_size = (end_from start lines).text }

abbrev pub address_in : ℕ → Option SymbolValue → Option ℕ
address_in text None = None
address_in text (Some symbol) = Some (address_of text symbol)

-- the address of a label, where it is defined
unfoldable pub label_address : Symbols → List ℕ → Option ℕ
label_address w name = address_in w.text_size (w.place name)

abbrev pub or_start : Option ℕ → ℕ
or_start None = text_start
or_start (Some a) = a

-- the address of a label, where an unknown one counts as the start
abbrev pub symbol_address : Symbols → List ℕ → ℕ
symbol_address w name = or_start (label_address w name)

-- ---- the rules of one line

abbrev pub knows : Symbols → Option (List ℕ) → Bool
knows w None = true
knows w (Some name) = is_some (label_address w name)

abbrev pub knows_item : Symbols → Item → Bool
knows_item w (Known n) = true
knows_item w (Named name) = is_some (label_address w name)

abbrev pub knows_fixups : Symbols → Fixups → Bool
knows_fixups w u = knows w u.displacement && (knows w u.immediate && (knows w u.target && knows w u.short))

-- whether all labels that a line uses are defined
unfoldable pub knows_all : Symbols → Statement → Bool
knows_all w (Code i u) = knows_fixups w u
knows_all w (Quads items) = list_all (knows_item w) items
knows_all w s = true

-- whether one of the names is among those before it
abbrev pub is_twice : List (List ℕ) → List (List ℕ) → Bool
is_twice above [] = false
is_twice above (name ∷ names) = list_any (bytes_eq name) above || is_twice (above ++ name ∷ []) names

-- from the byte after a short jump that stands here to its label
abbrev pub short_distance : Symbols → LocationCounter → List ℕ → ℤ
short_distance w h name = distance (address_of w.text_size (symbol_of h) + 2) (symbol_address w name)

unfoldable pub is_in_reach : Symbols → LocationCounter → Statement → Bool
is_in_reach w h (Code i u) = go u.short
  where
    go : Option (List ℕ) → Bool
    go None = true
    go (Some name) = fits_byte (short_distance w h name)
is_in_reach w h s = true

abbrev pub own_fault : Statement → Option Rule
own_fault (Broken rules.Directive) = None
own_fault (Broken rule) = Some rule
own_fault s = None

abbrev pub directive_fault : Statement → Option Rule
directive_fault (Broken rules.Directive) = Some rules.Directive
directive_fault s = None

abbrev pub rule_unless : Bool → Rule → Option Rule
rule_unless true rule = None
rule_unless false rule = Some rule

-- the first rule that a line breaks which stands here, by whether one of its labels is defined before
unfoldable pub broken_at : Symbols → Bool → LocationCounter → Statement → Option Rule
broken_at w twice h s =
    option_or (own_fault s)
    (option_or (rule_unless (knows_all w s) rules.UnknownLabel)
    (option_or (rule_unless (not twice) rules.DefinedBefore)
    (option_or (rule_unless (is_in_reach w h s) rules.OutOfReach)
    (option_or (directive_fault s)
    (rule_unless (not (is_too_long h s)) rules.TooLong)))))

-- the first rule that a line breaks, which stands here below these labels
abbrev pub broken_by : Symbols → List (List ℕ) → LocationCounter → Line → Option Rule
broken_by w above h l = broken_at w (is_twice above l.labels) h l.statement

-- a line that breaks a rule
pub record Fault : Type 0 where
  pub line : ℕ
  pub rule : ℕ

abbrev pub fault_at : ℕ → Option Rule → Option Fault
fault_at number None = None
fault_at number (Some rule) = Some (record { line = number; rule = rule_number rule })

-- the first faulty line of these, which begin by this number, below these labels, and here
abbrev pub fault_from : Symbols → ℕ → List (List ℕ) → LocationCounter → List Line → Option Fault
fault_from w number above h [] = None
fault_from w number above h (l ∷ ls) =
    option_or (fault_at number (broken_by w above h l)) (fault_from w (number + 1) (above ++ l.labels) (after h l.statement) ls)

-- ---- bytes

abbrev pub item_bytes : Symbols → Item → List ℕ
item_bytes w (Known n) = to_le_bytes w64 n
item_bytes w (Named name) = to_le_bytes w64 (symbol_address w name)

abbrev pub short_opcode : Instr → ℕ
short_opcode (instrs.Jcc cond d) = 0x70 + cond_number cond
short_opcode i = 0xeb

abbrev pub code_bytes : Symbols → LocationCounter → Instr → Fixups → List ℕ
code_bytes w h i u = go u.short
  where
    go : Option (List ℕ) → List ℕ
    go None = canonical_spelling (filled (symbol_address w) (address_of w.text_size (symbol_of h) + size_of (Code i u)) u i)
    go (Some name) = short_opcode i ∷ one_byte (short_distance w h name)

unfoldable pub bytes_of : Symbols → LocationCounter → Statement → List ℕ
bytes_of w h (Zero n) = replicate n 0
bytes_of w h (Values bytes) = bytes
bytes_of w h (Quads items) = flat_map (item_bytes w) items
bytes_of w h (Code i u) = code_bytes w h i u
bytes_of w h s = []

abbrev pub in_section : Section → Section → List ℕ → List ℕ
in_section sections.Text sections.Text bytes = bytes
in_section sections.Data sections.Data bytes = bytes
in_section s t bytes = []

-- the bytes of a section, where no line breaks a rule
abbrev pub section_from : Symbols → Section → LocationCounter → List Line → List ℕ
section_from w s h [] = []
section_from w s h (l ∷ ls) = in_section s h.section (bytes_of w h l.statement) ++ section_from w s (after h l.statement) ls

-- the mark so far, after a line
abbrev pub mark_after : ℕ → Statement → ℕ
mark_after m (Mark n) = n
mark_after m s = m

-- after these lines
abbrev pub mark_from : ℕ → List Line → ℕ
mark_from m [] = m
mark_from m (l ∷ ls) = mark_from (mark_after m l.statement) ls

-- ---- the language

abbrev pub fault_of : List ℕ → Option Fault
fault_of source = let ls = lines_of source in fault_from (symbols_of ls) 1 [] start ls

-- The text has this program: no line breaks a rule, and these are the bytes of the sections, the address of `_start` or
-- else the start, and the last mark, or else 2.
pub record IsProgram (source : List ℕ) (program : Program) : Type 0 where
  pub sound : fault_of source ≡ None
  pub text : program.text ≡ section_from (symbols_of (lines_of source)) sections.Text start (lines_of source)
  pub static_data : program.static_data ≡ section_from (symbols_of (lines_of source)) sections.Data start (lines_of source)
  pub entry : program.entry ≡ symbol_address (symbols_of (lines_of source)) (codes "_start")
  pub mark : program.mark ≡ mark_from 2 (lines_of source)

-- The first line that breaks a rule, and the first rule that it breaks, by its number.
abbrev pub IsFirstFault : List ℕ → ℕ → ℕ → Type 0
IsFirstFault source line rule = fault_of source ≡ Some (record { line = line; rule = rule })
