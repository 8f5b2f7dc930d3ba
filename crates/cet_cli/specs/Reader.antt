-- How a line is read by a grammar's table, one word after another. Source: own.
use Rattle.std.specs.Prelude.{ℕ, ◌+◌, ◌≡◌, ◌↔◌, not, replicate, Bool, true, false, cond, List, [], ◌∷◌, Option, Some, None, slice_get, slice_set, unwrap_or, find}
use Rattle.std.specs.List.{list_all}
use Rattle.std.specs.Str.{bytes_eq}
use Rattle.cet_cli.specs.Grammar.{CommandRow, FaultyWord, Given, IsIn, OptionRow}
use Rattle.cet_cli.specs.Parts.{back, front}
use Rattle.cet_cli.specs.Values.{Value, fits}

-- the code of `=`, behind which a value may stand in its option's word
abbrev pub equals : ℕ
equals = 61

-- What was read of a line, and what may still come: the words without a name that are still to come, the option whose value is,
-- for each part whether there is an option of it, and what is kept of the options so far.
pub record Reader (C O S : Type 0) : Type 0 where
  pub row : CommandRow C O
  pub operands : List Value
  pub wants : Option (OptionRow O)
  pub filled : List Bool
  pub kept : S

abbrev pub find_option : {O : Type 0} → List (OptionRow O) → List ℕ → Option (OptionRow O)
find_option rows word = find (λ r. bytes_eq r.word word) rows

abbrev pub find_command : {C O : Type 0} → List (CommandRow C O) → List ℕ → Option (CommandRow C O)
find_command rows word = find (λ r. bytes_eq r.word word) rows

-- there is no option of the part yet, and there may be one
abbrev pub is_open : List Bool → (part : ℕ) → Bool
is_open filled part = not (unwrap_or (slice_get filled part) true)

abbrev pub is_filled : List Bool → (part : ℕ) → Bool
is_filled filled part = unwrap_or (slice_get filled part) false

-- no option of eight parts
abbrev pub none_filled : List Bool
none_filled = replicate 8 false

abbrev pub start : {C O S : Type 0} → CommandRow C O → S → Reader C O S
start row kept = record { row = row; operands = row.operands; wants = None; filled = none_filled; kept = kept }

abbrev pub ends_by : {C O S : Type 0} → Reader C O S → Option (OptionRow O) → List Value → Bool
ends_by r (Some o) vs = false
ends_by r None (v ∷ vs) = false
ends_by r None [] = list_all (is_filled r.filled) r.row.needs

-- the line may end here
abbrev pub may_end : {C O S : Type 0} → Reader C O S → Bool
may_end r = ends_by r r.wants r.operands

-- what is kept with one option more
module _ {C O S : Type 0} (keep : S → Given O → S) where
  -- with one option more
  abbrev pub filled_by : Reader C O S → OptionRow O → (value : List ℕ) → Reader C O S
  filled_by r o value = record r { wants = None; filled = slice_set r.filled o.part true; kept = keep r.kept (record { option = o; value = value }) }

  abbrev pub value_step : Reader C O S → OptionRow O → Option Value → (word : List ℕ) → Option (Reader C O S)
  value_step r o None word = None
  value_step r o (Some v) word = cond (fits v word) (Some (filled_by r o word)) None

  abbrev pub operand_step : Reader C O S → Value → List Value → (word : List ℕ) → Option (Reader C O S)
  operand_step r v vs word = cond (fits v word) (Some (record r { operands = vs })) None

  -- an option's word, and what stands behind `=`
  abbrev pub option_begins : Reader C O S → OptionRow O → Option Value → Option (List ℕ) → Option (Reader C O S)
  option_begins r o None None = Some (filled_by r o [])
  option_begins r o None (Some text) = None
  option_begins r o (Some v) None = Some (record r { wants = Some o })
  option_begins r o (Some v) (Some text) = value_step r o (Some v) text

  abbrev pub option_by : Reader C O S → Option (OptionRow O) → Option (List ℕ) → Option (Reader C O S)
  option_by r None text = None
  option_by r (Some o) text = cond (is_open r.filled o.part) (option_begins r o o.value text) None

  abbrev pub step_by : Reader C O S → Option (OptionRow O) → List Value → (word : List ℕ) → Option (Reader C O S)
  step_by r (Some o) vs word = value_step r o o.value word
  step_by r None (v ∷ vs) word = operand_step r v vs word
  step_by r None [] word = option_by r (find_option r.row.options (front equals word)) (back equals word)

  -- one word more; none where no line goes on with it
  abbrev pub step : Reader C O S → (word : List ℕ) → Option (Reader C O S)
  step r word = step_by r r.wants r.operands word

-- nothing is kept
abbrev pub forget : {O : Type 0} → Unit {0} → Given O → Unit {0}
forget kept g = kept

-- ---- the option whose words end with a word, where it is one

abbrev pub option_ends : {O : Type 0} → OptionRow O → Option Value → Option (List ℕ) → Option (Given O)
option_ends o None text = Some (record { option = o; value = [] })
option_ends o (Some v) None = None
option_ends o (Some v) (Some text) = Some (record { option = o; value = text })

abbrev pub found_ends : {O : Type 0} → Option (OptionRow O) → Option (List ℕ) → Option (Given O)
found_ends None text = None
found_ends (Some o) text = option_ends o o.value text

abbrev pub ends_in : {C O S : Type 0} → Reader C O S → Option (OptionRow O) → List Value → (word : List ℕ) → Option (Given O)
ends_in r (Some o) vs word = Some (record { option = o; value = word })
ends_in r None (v ∷ vs) word = None
ends_in r None [] word = found_ends (find_option r.row.options (front equals word)) (back equals word)

abbrev pub given_by : {C O S : Type 0} → Reader C O S → (word : List ℕ) → Option (Given O)
given_by r word = ends_in r r.wants r.operands word

-- ---- lists of words

-- the number of the word at which the reader stops, or of a word that is missing, where the list isn't read to its end
abbrev pub stop_from : {C O : Type 0} → Option (Reader C O (Unit {0})) → (words : List (List ℕ)) → (number : ℕ) → Option ℕ
stop_from None words number = Some number
stop_from (Some r) [] number = cond (may_end r) None (Some (number + 1))
stop_from (Some r) (w ∷ ws) number = stop_from (step forget r w) ws (number + 1)

abbrev pub stop_of : {C O : Type 0} → Option (CommandRow C O) → (words : List (List ℕ)) → Option ℕ
stop_of None words = Some 1
stop_of (Some row) words = stop_from (Some (start row tt)) words 1

abbrev pub stop : {C O : Type 0} → List (CommandRow C O) → (words : List (List ℕ)) → Option ℕ
stop table [] = Some 1
stop table (w ∷ ws) = stop_of (find_command table w) ws

-- the reader takes exactly the lines of a table, and stops at the first faulty word of each other list
pub record IsReadBy {C O : Type 0} (table : List (CommandRow C O)) : Type 0 where
  pub lines : (words : List (List ℕ)) → (stop table words ≡ None) ↔ IsIn table words
  pub faults : (words : List (List ℕ)) (number : ℕ) → (stop table words ≡ Some number) ↔ FaultyWord (IsIn table) words number
