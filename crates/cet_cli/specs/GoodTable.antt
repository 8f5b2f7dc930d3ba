-- Which tables of a grammar are good ones, as a test of all their rows. Source: own.
use Rattle.std.specs.Prelude.{ℕ, ◌==◌, ◌&&◌, not, nat_lt, Bool, true, false, List, [], ◌∷◌, Option, Some, None}
use Rattle.std.specs.List.{list_all, list_any}
use Rattle.std.specs.Str.{bytes_eq}
use Rattle.cet_cli.specs.Grammar.{CommandRow, OptionRow}
use Rattle.cet_cli.specs.Reader.{equals}
use Rattle.cet_cli.specs.Values.{Value, example, fits}

-- the sign doesn't stand in the word
abbrev pub has_no : (sign : ℕ) → List ℕ → Bool
has_no sign [] = true
has_no sign (c ∷ cs) = not (c == sign) && has_no sign cs

-- no two rows have the same word
module _ {A : Type 0} (word : A → List ℕ) where
  abbrev pub differs : List ℕ → List A → Bool
  differs w [] = true
  differs w (r ∷ rs) = not (bytes_eq w (word r)) && differs w rs

  abbrev pub distinct : List A → Bool
  distinct [] = true
  distinct (r ∷ rs) = differs (word r) rs && distinct rs

-- there is a text that is the value
abbrev pub has_example : Option Value → Bool
has_example None = true
has_example (Some v) = fits v (example v)

abbrev pub good_option : {O : Type 0} → OptionRow O → Bool
good_option o = has_no equals o.word && (nat_lt o.part 8 && has_example o.value)

abbrev pub good_values : List Value → Bool
good_values [] = true
good_values (v ∷ vs) = fits v (example v) && good_values vs

-- of each part that a line needs there is an option
abbrev pub good_row : {C O : Type 0} → CommandRow C O → Bool
good_row row =
    distinct (λ o. o.word) row.options && (list_all good_option row.options && (good_values row.operands
    && list_all (λ p. list_any (λ o. o.part == p) row.options) row.needs))

abbrev pub has_rows : {A : Type 0} → List A → Bool
has_rows [] = false
has_rows (r ∷ rs) = true

abbrev pub good_table : {C O : Type 0} → List (CommandRow C O) → Bool
good_table rows = has_rows rows && (distinct (λ r. r.word) rows && list_all good_row rows)
