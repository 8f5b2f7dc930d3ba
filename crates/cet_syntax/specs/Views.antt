-- The code's tokens, operands and lines without where their bytes lie. Source: own.
use Rattle.std.specs.Prelude.{◌≡◌, ℕ, ◌<◌, Bool, true, length, List, [], ◌∷◌, Option, Some, None}
use Rattle.std.specs.Borrow.{Bor}
use Rattle.cet_isa.specs.Spelled.{has_spelling, InstrFits}
use Rattle.cet_syntax.specs.declared.tokens.Token as token
use Rattle.cet_syntax.specs.declared.tokens.Token.TheVariants as token_variants
use Rattle.cet_syntax.specs.declared.places.Place as place
use Rattle.cet_syntax.specs.declared.places.Place.TheVariants as place_variants
use Rattle.cet_syntax.specs.declared.places.Item as item
use Rattle.cet_syntax.specs.declared.places.Item.TheVariants as item_variants
use Rattle.cet_syntax.specs.declared.addresses.Address as address
use Rattle.cet_syntax.specs.declared.operands.ParsedOperand as parsed
use Rattle.cet_syntax.specs.declared.operands.ParsedOperand.TheVariants as parsed_variants
use Rattle.cet_syntax.specs.declared.operands.Operands as operands
use Rattle.cet_syntax.specs.declared.operands.Operands.TheVariants as operands_variants
use Rattle.cet_syntax.specs.declared.lists.ListKind as kind
use Rattle.cet_syntax.specs.declared.lists.ListKind.TheVariants as kinds
use Rattle.cet_syntax.specs.declared.mnemonics.Named as named
use Rattle.cet_syntax.specs.declared.instructions.Fixups as fixups
use Rattle.cet_syntax.specs.declared.instructions.Field as field
use Rattle.cet_syntax.specs.declared.instructions.Argument as argument
use Rattle.cet_syntax.specs.declared.instructions.Built as built
use Rattle.cet_syntax.specs.declared.statements.Statement as statement
use Rattle.cet_syntax.specs.declared.statements.Statement.TheVariants as statement_variants
use Rattle.cet_syntax.specs.declared.lines.Line as line
use Rattle.cet_syntax.specs.Tokens.{Token, Word, Sign, Minus, tokens, word_first, sign_first}
use Rattle.cet_syntax.specs.Words.{Place, Number, Label}
use Rattle.cet_syntax.specs.Operands.{Address, ParsedOperand, Register, Counter, Value, Memory, Dword, Byte, Relative, Short, Operands, Absent, One, Two}
use Rattle.cet_syntax.specs.Mnemonics as mnemonics
use Rattle.cet_syntax.specs.Instructions.{Fixups, Field, Argument, Built}
use Rattle.cet_syntax.specs.Line.{Item, Known, Named, Statement, Nothing, Broken, TextSection, DataSection, Mark, Zero, Values, Quads, Code, Line, bytes_in, quads_in, is_byte, is_quad, labels_of}

abbrev pub token_view : token.Token → Token
token_view (token_variants.Word w) = Word w.now
token_view (token_variants.Sign b) = Sign b
token_view token_variants.Minus = Minus

abbrev pub name_view : Option (Bor (List ℕ)) → Option (List ℕ)
name_view None = None
name_view (Some name) = Some name.now

abbrev pub place_view : place.Place → Place
place_view (place_variants.Number value) = Number value
place_view (place_variants.Label name) = Label name.now

abbrev pub item_view : item.Item → Item
item_view (item_variants.Known n) = Known n
item_view (item_variants.Named name) = Named name.now

abbrev pub disp_view : Option place.Place → Option Place
disp_view None = None
disp_view (Some p) = Some (place_view p)

abbrev pub address_view : address.Address → Address
address_view a = record { base = a.base; index = a.index; scale = a.scale; disp = disp_view a.disp }

abbrev pub address_option_view : Option address.Address → Option Address
address_option_view None = None
address_option_view (Some a) = Some (address_view a)

abbrev pub part_view : Option (address.Address × Bor (List ℕ)) → Option (Address × List Token)
part_view None = None
part_view (Some x) = Some (address_view x.0, tokens x.1.now)

abbrev pub parsed_view : parsed.ParsedOperand → ParsedOperand
parsed_view (parsed_variants.Register size r) = Register size r
parsed_view parsed_variants.Counter = Counter
parsed_view (parsed_variants.Value p) = Value (place_view p)
parsed_view (parsed_variants.Memory a) = Memory (address_view a)
parsed_view (parsed_variants.Dword a) = Dword (address_view a)
parsed_view (parsed_variants.Byte a) = Byte (address_view a)
parsed_view (parsed_variants.Relative value) = Relative value
parsed_view (parsed_variants.Short name) = Short name.now

abbrev pub parsed_option_view : Option parsed.ParsedOperand → Option ParsedOperand
parsed_option_view None = None
parsed_option_view (Some g) = Some (parsed_view g)

abbrev pub operand_view : Option (parsed.ParsedOperand × Bor (List ℕ)) → Option (ParsedOperand × List Token)
operand_view None = None
operand_view (Some x) = Some (parsed_view x.0, tokens x.1.now)

abbrev pub operands_view : operands.Operands → Operands
operands_view operands_variants.Absent = Absent
operands_view (operands_variants.One g) = One (parsed_view g)
operands_view (operands_variants.Two g h) = Two (parsed_view g) (parsed_view h)

abbrev pub named_view : named.Named → mnemonics.Named
named_view n = record { name = n.name.now; mnemonic = n.mnemonic }

abbrev pub operands_option_view : Option operands.Operands → Option Operands
operands_option_view None = None
operands_option_view (Some o) = Some (operands_view o)

abbrev pub fixups_view : fixups.Fixups → Fixups
fixups_view u = record { displacement = name_view u.displacement; immediate = name_view u.immediate; target = name_view u.target; short = name_view u.short }

abbrev pub field_view : field.Field → Field
field_view f = record { value = f.value; fits = f.fits; label = name_view f.label }

abbrev pub argument_view : argument.Argument → Argument
argument_view x = record { operand = x.operand; fits = x.fits; displacement = name_view x.displacement; immediate = name_view x.immediate }

abbrev pub argument_option_view : Option argument.Argument → Option Argument
argument_option_view None = None
argument_option_view (Some x) = Some (argument_view x)

abbrev pub built_view : built.Built → Built
built_view b = record { instr = b.instr; fits = b.fits; fixups = fixups_view b.fixups }

abbrev pub built_option_view : Option built.Built → Option Built
built_option_view None = None
built_option_view (Some b) = Some (built_view b)

abbrev pub statement_view : statement.Statement → Statement
statement_view statement_variants.Nothing = Nothing
statement_view (statement_variants.Broken rule) = Broken rule
statement_view statement_variants.TextSection = TextSection
statement_view statement_variants.DataSection = DataSection
statement_view (statement_variants.Mark n) = Mark n
statement_view (statement_variants.Zero n) = Zero n
statement_view (statement_variants.Values text) = Values (bytes_in (tokens text.now))
statement_view (statement_variants.Quads text) = Quads (quads_in (tokens text.now))
statement_view (statement_variants.Code i u) = Code i (fixups_view u)

abbrev pub line_view : line.Line → Line
line_view l = record { labels = labels_of l.labels.now; statement = statement_view l.statement }

-- an instruction of a line has a spelling, and its numbers are those of its fields' types
abbrev pub IsSpelledStatement : statement.Statement → Type 0
IsSpelledStatement (statement_variants.Code i u) = (has_spelling i ≡ true) × InstrFits i
IsSpelledStatement s = Unit {0}

-- ---- reading item by item

-- the first label of a text and the text after it, or none
abbrev pub IsFirstLabel : List ℕ → Option (Bor (List ℕ) × Bor (List ℕ)) → Type 0
IsFirstLabel text None = labels_of text ≡ []
IsFirstLabel text (Some x) = labels_of text ≡ x.0.now ∷ labels_of x.1.now

abbrev pub label_view : Option (Bor (List ℕ) × Bor (List ℕ)) → Option (List ℕ × List ℕ)
label_view None = None
label_view (Some x) = Some (x.0.now, x.1.now)

-- the first byte of a list and the text after it, or none
abbrev pub IsFirstByte : List ℕ → Option (ℕ × Bor (List ℕ)) → Type 0
IsFirstByte text None = bytes_in (tokens text) ≡ []
IsFirstByte text (Some x) = bytes_in (tokens text) ≡ x.0 ∷ bytes_in (tokens x.1.now)

-- the first word of a list and the text after it, or none
abbrev pub IsFirstQuad : List ℕ → Option (item.Item × Bor (List ℕ)) → Type 0
IsFirstQuad text None = quads_in (tokens text) ≡ []
IsFirstQuad text (Some x) = quads_in (tokens text) ≡ item_view x.0 ∷ quads_in (tokens x.1.now)

-- ---- token by token

-- the first token of a text and the text after it, or none
abbrev pub IsFirstToken : List ℕ → Option (token.Token × Bor (List ℕ)) → Type 0
IsFirstToken text None = tokens text ≡ []
IsFirstToken text (Some x) = tokens text ≡ token_view x.0 ∷ tokens x.1.now

abbrev pub rest_view : Option (Bor (List ℕ)) → Option (List Token)
rest_view None = None
rest_view (Some rest) = Some (tokens rest.now)

abbrev pub word_view : Option (Bor (List ℕ) × Bor (List ℕ)) → Option (List ℕ × List Token)
word_view None = None
word_view (Some x) = Some (x.0.now, tokens x.1.now)

abbrev pub IsAfterSign : ℕ → List ℕ → Option (Bor (List ℕ)) → Type 0
IsAfterSign sign text result = rest_view result ≡ sign_first sign (tokens text)

abbrev pub IsAfterWord : List ℕ → Option (Bor (List ℕ) × Bor (List ℕ)) → Type 0
IsAfterWord text result = word_view result ≡ word_first (tokens text)

abbrev pub after_view : Option (Bor (List ℕ)) → Option (List Token)
after_view None = None
after_view (Some rest) = Some (tokens rest.now)

abbrev pub list_item_view : Option (place.Place × Option (Bor (List ℕ))) → Option (Place × Option (List Token))
list_item_view None = None
list_item_view (Some x) = Some (place_view x.0, after_view x.1)

-- the test of an item by the list's kind
abbrev pub fits_kind : kind.ListKind → Place → Bool
fits_kind kinds.Bytes p = is_byte p
fits_kind kinds.Quads p = is_quad p

abbrev pub item_option_view : Option item.Item → Option Item
item_option_view None = None
item_option_view (Some x) = Some (item_view x)

-- what follows an item is shorter
abbrev pub IsShorter : List ℕ → Option (place.Place × Option (Bor (List ℕ))) → Type 0
IsShorter text None = Unit {0}
IsShorter text (Some x) = go x.1
  where
    go : Option (Bor (List ℕ)) → Type 0
    go None = Unit {0}
    go (Some rest) = length rest.now < length text
