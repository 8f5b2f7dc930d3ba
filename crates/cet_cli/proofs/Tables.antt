-- What the test of a table tells of its rows.
use Rattle.std.proofs.Common.{ℕ, ◌≡◌, Bool, true, false, ◌&&◌, ◌||◌, cond, List, [], ◌∷◌, Some, refl, sym, ap, ◌∙◌, subst, inl, inr}
use Rattle.std.specs.Prelude.{not, ◌==◌, find, nat_lt}
use Rattle.std.specs.List.{list_all, list_any}
use Rattle.std.specs.Str.{bytes_eq}
use Rattle.std.proofs.lemmas.Bool.{and_parts}
use Rattle.std.proofs.lemmas.Bool.Decides.{eqb_tells}
use Rattle.std.proofs.lemmas.Slice.Eq.{bytes_eq-Decides}
use Rattle.cet_cli.specs.Grammar.{CommandRow, IsAmong, OptionRow}
use Rattle.cet_cli.specs.GoodTable.{differs, distinct, good_option, good_row, good_table, good_values, has_example, has_no, has_rows}
use Rattle.cet_cli.specs.Reader.{equals, find_command, find_option}
use Rattle.cet_cli.proofs.Signs.{not_true}

-- ---- rows by their words
module _ {A : Type 0} (word : A → List ℕ) where
  differs_among : (w : List ℕ) (o : A) (rs : List A) → differs word w rs ≡ true → IsAmong o rs → bytes_eq w (word o) ≡ false
  differs_among w o [] d m = absurd m
  differs_among w o (r ∷ rs) d m =
      let p = and_parts (not (bytes_eq w (word r))) (differs word w rs) d in
      elim m [
        | inl e ↦ ap (λ (x : A). bytes_eq w (word x)) e ∙ not_true (bytes_eq w (word r)) p.0
        | inr more ↦ differs_among w o rs p.1 more
      ]

  same_word : (w : List ℕ) → bytes_eq w w ≡ true
  same_word w = (bytes_eq-Decides w w).1 refl

  -- each row is found by its word
  pub found : (rs : List A) (o : A) → distinct word rs ≡ true → IsAmong o rs → find (λ r. bytes_eq (word r) (word o)) rs ≡ Some o
  found [] o d m = absurd m
  found (r ∷ rs) o d m =
      let p = and_parts (differs word (word r) rs) (distinct word rs) d in
      elim m [
        | inl e ↦ subst (λ (x : A). find (λ q. bytes_eq (word q) (word x)) (r ∷ rs) ≡ Some x) (sym e) (rw (same_word (word r)) refl)
        | inr more ↦ rw (differs_among (word r) o rs p.0 more) (found rs o p.1 more)
      ]

  here_or_later : (w : List ℕ) (r o : A) (rs : List A) (b : Bool) → bytes_eq (word r) w ≡ b → cond b (Some r) (find (λ x. bytes_eq (word x) w) rs) ≡ Some o
      → (find (λ x. bytes_eq (word x) w) rs ≡ Some o → IsAmong o rs × (word o ≡ w)) → IsAmong o (r ∷ rs) × (word o ≡ w)
  here_or_later w r o rs true q e later = (let same : r ≡ o = cc in (inl (sym same), ap word (sym same) ∙ (bytes_eq-Decides (word r) w).0 q))
  here_or_later w r o rs false q e later = (let more = later e in (inr more.0, more.1))

  -- what is found is one of the rows, and has the word
  pub found_among : (w : List ℕ) (rs : List A) (o : A) → find (λ r. bytes_eq (word r) w) rs ≡ Some o → IsAmong o rs × (word o ≡ w)
  found_among w [] o e = cc
  found_among w (r ∷ rs) o e = here_or_later w r o rs (bytes_eq (word r) w) refl e (λ later. found_among w rs o later)

-- what a test says of all rows it says of each
pub all_among : {A : Type 0} (p : A → Bool) (rs : List A) (o : A) → list_all p rs ≡ true → IsAmong o rs → p o ≡ true
all_among p [] o h m = absurd m
all_among p (r ∷ rs) o h m =
    let q = and_parts (p r) (list_all p rs) h in
    elim m [ inl e ↦ ap p e ∙ q.0 | inr more ↦ all_among p rs o q.1 more ]

-- a row with which a test comes out true
this_or_more : {A : Type 0} (p : A → Bool) (r : A) (rs : List A) (b : Bool) → p r ≡ b → (b || list_any p rs) ≡ true → (list_any p rs ≡ true → (o : A) × IsAmong o rs × (p o ≡ true)) →
    (o : A) × IsAmong o (r ∷ rs) × (p o ≡ true)
this_or_more p r rs true q e more = (r, inl refl, q)
this_or_more p r rs false q e more = (let m = more e in (m.0, inr m.1, m.2))

any_among : {A : Type 0} (p : A → Bool) (rs : List A) → list_any p rs ≡ true → (o : A) × IsAmong o rs × (p o ≡ true)
any_among p [] h = cc
any_among p (r ∷ rs) h = this_or_more p r rs (p r) refl h (λ later. any_among p rs later)

-- ---- what it tells

pub record GoodOption {O : Type 0} (o : OptionRow O) : Type 0 where
  pub sign : has_no equals o.word ≡ true
  pub room : nat_lt o.part 8 ≡ true
  pub example : has_example o.value ≡ true

pub record GoodRow {C O : Type 0} (row : CommandRow C O) : Type 0 where
  pub one : (o : OptionRow O) → IsAmong o row.options → find_option row.options o.word ≡ Some o
  pub option : (o : OptionRow O) → IsAmong o row.options → GoodOption o
  pub values : good_values row.operands ≡ true
  pub needs : (p : ℕ) → IsAmong p row.needs → (o : OptionRow O) × IsAmong o row.options × (o.part ≡ p)

option_good : {O : Type 0} (o : OptionRow O) → good_option o ≡ true → GoodOption o
option_good o h =
    let p = and_parts (has_no equals o.word) (nat_lt o.part 8 && has_example o.value) h in
    let q = and_parts (nat_lt o.part 8) (has_example o.value) p.1 in
    record { sign = p.0; room = q.0; example = q.1 }

part_is : (a b : ℕ) → (a == b) ≡ true → a ≡ b
part_is a b h = elim (eqb_tells a b) [ inl u ↦ u.1 | inr u ↦ (let n = u.0 in cc) ]

row_good : {C O : Type 0} (row : CommandRow C O) → good_row row ≡ true → GoodRow row
row_good {O = O} row h =
    let p = and_parts (distinct (λ (o : OptionRow O). o.word) row.options) _ h in
    let q = and_parts (list_all good_option row.options) _ p.1 in
    let r = and_parts (good_values row.operands) _ q.1 in
    record {
      one = λ o m. found (λ (x : OptionRow O). x.word) row.options o p.0 m;
      option = λ o m. option_good o (all_among good_option row.options o q.0 m);
      values = r.0;
      needs = λ n m.
          let a = any_among (λ (o : OptionRow O). o.part == n) row.options (all_among (λ n. list_any (λ (o : OptionRow O). o.part == n) row.options) row.needs n r.1 m) in
          (a.0, a.1, part_is a.0.part n a.2);
    }

first_among : {A : Type 0} (rs : List A) → has_rows rs ≡ true → (row : A) × IsAmong row rs
first_among [] h = cc
first_among (r ∷ rs) h = (r, inl refl)

module _ {C O : Type 0} (table : List (CommandRow C O)) (good : good_table table ≡ true) where
  pub good_among : (row : CommandRow C O) → IsAmong row table → GoodRow row
  good_among row m =
      let p = and_parts (distinct (λ (r : CommandRow C O). r.word) table) (list_all good_row table) (and_parts (has_rows table) _ good).1 in
      row_good row (all_among good_row table row p.1 m)

  pub first_row : (row : CommandRow C O) × IsAmong row table
  first_row = first_among table (and_parts (has_rows table) _ good).0

  pub command_found : (row : CommandRow C O) → IsAmong row table → find_command table row.word ≡ Some row
  command_found row m =
      let p = and_parts (distinct (λ (r : CommandRow C O). r.word) table) (list_all good_row table) (and_parts (has_rows table) _ good).1 in
      found (λ (r : CommandRow C O). r.word) table row p.0 m

pub option_found : {O : Type 0} (rows : List (OptionRow O)) (word : List ℕ) (o : OptionRow O) → find_option rows word ≡ Some o → IsAmong o rows × (o.word ≡ word)
option_found {O} rows word o e = found_among (λ (r : OptionRow O). r.word) word rows o e

pub command_among : {C O : Type 0} (rows : List (CommandRow C O)) (word : List ℕ) (row : CommandRow C O) → find_command rows word ≡ Some row → IsAmong row rows × (row.word ≡ word)
command_among {C} {O} rows word row e = found_among (λ (r : CommandRow C O). r.word) word rows row e
