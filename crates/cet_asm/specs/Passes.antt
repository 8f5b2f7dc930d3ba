-- What the two passes over a text keep. Source: own.
use Rattle.std.specs.Prelude.{ℕ, ◌+◌, ◌≤◌, Bool, false, ◌||◌, ◌==◌, if◌then◌else◌, List, [], ◌∷◌, Option, Some, None, is_some}
use Rattle.std.specs.Borrow.{Bor}
use Rattle.std.specs.BTreeMap.{BTreeMap, get_by}
use Rattle.std.specs.Cmp.Lexicographic.{slice_cmp}
use Rattle.std.specs.Ordering.{nat_cmp}
use Rattle.std.specs.Str.{bytes_eq}
use Rattle.std.specs.Option.{option_or}
use Rattle.cet_syntax.specs.Line.{Line}
use Rattle.cet_asm.specs.Layout.{after, symbol_of, program_limit}
use Rattle.cet_asm.specs.Program.{Symbols, Fault, fault_at, broken_at}
use Rattle.cet_asm.specs.declared.sections.LocationCounter.{LocationCounter}
use Rattle.cet_asm.specs.declared.sections.SymbolValue.{SymbolValue}

-- the place that a map has for a label
abbrev pub place_in : BTreeMap (Bor (List ℕ)) SymbolValue → List ℕ → Option SymbolValue
place_in m name = get_by (λ k. slice_cmp nat_cmp name k.now) m

abbrev pub only_at : SymbolValue → Bool → Option SymbolValue
only_at symbol t = if t then Some symbol else None

-- with a label at this place where it has none yet
abbrev pub with_label : (List ℕ → Option SymbolValue) → SymbolValue → List ℕ → List ℕ → Option SymbolValue
with_label places symbol name q = option_or (places q) (only_at symbol (bytes_eq name q))

-- with all of these
abbrev pub with_labels : (List ℕ → Option SymbolValue) → SymbolValue → List (List ℕ) → List ℕ → Option SymbolValue
with_labels places symbol [] = places
with_labels places symbol (name ∷ names) = with_labels (with_label places symbol name) symbol names

-- whether one of them has a place before it
abbrev pub has_one : (List ℕ → Option SymbolValue) → SymbolValue → List (List ℕ) → Bool
has_one places symbol [] = false
has_one places symbol (name ∷ names) = is_some (places name) || has_one (with_label places symbol name) symbol names

-- neither section is longer than a program may be
abbrev pub IsWithin : LocationCounter → Type 0
IsWithin h = (h.text ≤ program_limit) × (h.static_data ≤ program_limit)

-- the places of labels, those of these lines after those that are there
abbrev pub places_from : (List ℕ → Option SymbolValue) → LocationCounter → List Line → List ℕ → Option SymbolValue
places_from places h [] = places
places_from places h (l ∷ ls) = places_from (with_labels places (symbol_of h) l.labels) (after h l.statement) ls

-- the first of these lines, which begin by this number, with a label that has a place before it
abbrev pub twice_from : ℕ → (List ℕ → Option SymbolValue) → LocationCounter → List Line → Option ℕ
twice_from number places h [] = None
twice_from number places h (l ∷ ls) =
    if has_one places (symbol_of h) l.labels then Some number
    else twice_from (number + 1) (with_labels places (symbol_of h) l.labels) (after h l.statement) ls

abbrev pub number_if : Bool → ℕ → Option ℕ
number_if t number = if t then Some number else None

abbrev pub no_places : List ℕ → Option SymbolValue
no_places name = None

abbrev pub is_number : ℕ → Option ℕ → Bool
is_number number None = false
is_number number (Some n) = n == number

-- the first faulty line of these, by the first line with a label that is defined before
abbrev pub fault_by : Symbols → Option ℕ → ℕ → LocationCounter → List Line → Option Fault
fault_by w twice number h [] = None
fault_by w twice number h (l ∷ ls) =
    option_or (fault_at number (broken_at w (is_number number twice) h l.statement)) (fault_by w twice (number + 1) (after h l.statement) ls)
