-- The rows that an index names, one after another. Source: own.
use Rattle.std.specs.Prelude.{ℕ, List, [], ◌∷◌, Option, Some, None, Result, Err, slice_get}
use Rattle.cet_isa.specs.declared.instructions.Instr.{Instr}
use Rattle.cet_isa.specs.Reader.{Miss, Differs, or_else}
use Rattle.cet_isa.specs.Reading.{row_at}
use Rattle.cet_rows.specs.declared.Row.{Row}
use Rattle.cet_rows.specs.Keys.{value_of}
use Rattle.cet_decode.specs.declared.forms.Form.{Form}
use Rattle.cet_decode.specs.Views.{form_view}

abbrev pub maybe_row_at : Option Form → List ℕ → Result (Instr × List ℕ) Miss
maybe_row_at None bytes = Err Differs
maybe_row_at (Some f) bytes = row_at (form_view f) bytes

-- an instruction by the rows with these numbers
unfoldable pub some_at : List Form → List ℕ → List ℕ → Result (Instr × List ℕ) Miss
some_at rows [] bytes = Err Differs
some_at rows (k ∷ ks) bytes = or_else (maybe_row_at (slice_get rows k) bytes) (some_at rows ks bytes)

abbrev pub all_of : Option (List ℕ) → List ℕ
all_of None = []
all_of (Some ks) = ks

abbrev pub picks_by : Option ℕ → List (List ℕ) → List ℕ
picks_by None picks = []
picks_by (Some value) picks = all_of (slice_get picks value)

-- the numbers that the index has for a key
abbrev pub picks_at : List Row → List (List ℕ) → ℕ → List ℕ
picks_at index picks key = picks_by (value_of key index) picks
