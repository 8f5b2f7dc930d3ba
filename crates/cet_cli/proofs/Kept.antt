-- A reader that keeps something else goes the same way, and what it keeps is made by the options whose words end.
use Rattle.std.proofs.Common.{ℕ, ◌≡◌, List, [], ◌∷◌, Option, Some, None, ap}
use Rattle.std.proofs.lemmas.Option.{cond_some}
use Rattle.cet_cli.specs.Grammar.{Given, OptionRow}
use Rattle.cet_cli.specs.Reader.{Reader, ends_in, equals, filled_by, find_option, found_ends, given_by, is_open, option_begins, option_by, option_ends, step, step_by, value_step}
use Rattle.cet_cli.specs.Parts.{back, front}
use Rattle.cet_cli.specs.Values.{Value, fits}
use Rattle.cet_cli.proofs.WordSteps.{if_taken}

abbrev pub with_kept : {C O S T : Type 0} → Reader C O S → T → Reader C O T
with_kept r t = record { row = r.row; operands = r.operands; wants = r.wants; filled = r.filled; kept = t }

abbrev pub kept_by : {O T : Type 0} → (T → Given O → T) → T → Option (Given O) → T
kept_by keep t None = t
kept_by keep t (Some g) = keep t g

module _ {C O S T : Type 0} (keep : S → Given O → S) (other : T → Given O → T) (r : Reader C O S) (t : T) where
  other_value : (o : OptionRow O) (value : Option Value) (w : List ℕ) (next : Reader C O S) → value_step keep r o value w ≡ Some next
      → value_step other (with_kept r t) o value w ≡ Some (with_kept next (other t (record { option = o; value = w })))
  other_value o None w next e = cc
  other_value o (Some v) w next e =
      let c = cond_some (fits v w) (filled_by keep r o w) next e in
      rw c.0 (ap (λ (n : Reader C O S). Some (with_kept n (other t (record { option = o; value = w })))) c.1)

  other_begins : (o : OptionRow O) (value : Option Value) (text : Option (List ℕ)) (next : Reader C O S) → option_begins keep r o value text ≡ Some next
      → option_begins other (with_kept r t) o value text ≡ Some (with_kept next (kept_by other t (option_ends o value text)))
  other_begins o None None next e =
      let same : filled_by keep r o [] ≡ next = cc in
      ap (λ (n : Reader C O S). Some (with_kept n (other t (record { option = o; value = [] })))) same
  other_begins o None (Some text) next e = cc
  other_begins o (Some v) None next e =
      let begun : Reader C O S = record r { wants = Some o } in
      let same : begun ≡ next = cc in
      ap (λ (n : Reader C O S). Some (with_kept n t)) same
  other_begins o (Some v) (Some text) next e = other_value o (Some v) text next e

  other_found : (found : Option (OptionRow O)) (text : Option (List ℕ)) (next : Reader C O S) → option_by keep r found text ≡ Some next
      → option_by other (with_kept r t) found text ≡ Some (with_kept next (kept_by other t (found_ends found text)))
  other_found None text next e = cc
  other_found (Some o) text next e =
      let c = if_taken keep (is_open r.filled o.part) (option_begins keep r o o.value text) next e in
      rw c.0 (other_begins o o.value text next c.1)

  other_state : (wants : Option (OptionRow O)) (vs : List Value) (w : List ℕ) (next : Reader C O S) → step_by keep r wants vs w ≡ Some next
      → step_by other (with_kept r t) wants vs w ≡ Some (with_kept next (kept_by other t (ends_in r wants vs w)))
  other_state (Some o) vs w next e = other_value o o.value w next e
  other_state None (v ∷ vs) w next e =
      let more : Reader C O S = record r { operands = vs } in
      let c = cond_some (fits v w) more next e in
      rw c.0 (ap (λ (n : Reader C O S). Some (with_kept n t)) c.1)
  other_state None [] w next e = other_found (find_option r.row.options (front equals w)) (back equals w) next e

  pub other_step : (w : List ℕ) (next : Reader C O S) → step keep r w ≡ Some next → step other (with_kept r t) w ≡ Some (with_kept next (kept_by other t (given_by r w)))
  other_step w next e = other_state r.wants r.operands w next e
