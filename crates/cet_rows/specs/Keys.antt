-- Rows by their keys. Source: own.
use Rattle.std.specs.Prelude.{◌≡◌, ◌≢◌, ℕ, ◌==◌, List, Option, find, option_map, Any}
use Rattle.cet_rows.specs.declared.Row.{Row}

-- the value of the first row with the key
abbrev pub value_of : ℕ → List Row → Option ℕ
value_of key rows = option_map (λ (row : Row). row.value) (find (λ (row : Row). row.key == key) rows)

abbrev pub HasKey : ℕ → List Row → Type 0
HasKey key rows = Any (λ (row : Row). row.key ≡ key) rows

abbrev pub DifferInKey : Row → Row → Type 0
DifferInKey a b = a.key ≢ b.key
