-- What the parts of a script come to, one by one. Source: own.
use Rattle.std.proofs.Common.{zero, suc, arith, ap, ◌∙◌, mul-suc}
use Rattle.std.specs.Prelude.{◌≡◌, ℕ, ◌+◌, ◌-◌, ◌*◌, ◌<◌, ◌≤◌, min, List, [], ◌∷◌, length, take, drop, slice_index, Option, Some, None, Result, Ok, Err}
use Rattle.cet_words.specs.declared.accesses.Access.TheVariants as access
use Rattle.cet_words.specs.Change.{Change}
use Rattle.cet_words.specs.Layout.{page_at}
use Rattle.cet_page.specs.Plays.{Refines, Marks}
use Rattle.cet_page.specs.declared.checks.Kind.{Kind}
use Rattle.cet_page.specs.declared.checks.Who.{Who}
use Rattle.cet_page.specs.declared.cursors.Mark.TheVariants as marks
use Rattle.cet_page.specs.declared.cursors.Suspended.{Suspended}
use Rattle.cet_page.specs.declared.cursors.Suspended.TheVariants as suspended
use Rattle.cet_page.specs.Script.{play, done, no_changes, Played, Completed, Wants}
use Rattle.cet_page.specs.Parts.{stores, store_each, loads, look, look_as, look_in_as}
use Rattle.cet_page.proofs.ScriptLaws.{play_bind, resume}

abbrev pub wants_store : (word value : ℕ) → Played (Unit {0})
wants_store word value = Wants (access.Store word value) no_changes

abbrev pub stored : (left : ℕ) → List ℕ → Played (Unit {0})
stored left values = Completed tt left values

-- a run of stores that is over
pub play_stores_over : (count word value step n : ℕ) (values : List ℕ) → count ≤ n → play (stores count word value step) n values ≡ stored (n - count) values
unfolding stores
play_stores_over zero word value step n values l = ap (λ k. stored k values) (omega arith)
play_stores_over (suc count) word value step zero values l = absurd (omega arith)
play_stores_over (suc count) word value step (suc n) values l =
    let k : n - count ≡ suc n - suc count = omega arith in
    play_stores_over count (word + 1) (value + step) step n values (omega arith) ∙ ap (λ k. stored k values) k

-- one that isn't goes on with the store whose index is the number of accesses
pub play_stores_wants : (count word value step n : ℕ) (values : List ℕ) → n < count → play (stores count word value step) n values ≡ wants_store (word + n) (value + step * n)
unfolding stores
play_stores_wants zero word value step n values l = absurd (omega arith)
play_stores_wants (suc count) word value step zero values l =
    let w : word ≡ word + 0 = omega arith in
    let v : value ≡ value + step * 0 = omega arith in
    ap (λ k. wants_store k value) w ∙ ap (λ k. wants_store (word + 0) k) v
play_stores_wants (suc count) word value step (suc n) values l =
    let w : word + 1 + n ≡ word + suc n = omega arith in
    let v : value + step + step * n ≡ value + step * suc n = omega (arith, mul-suc step n) in
    play_stores_wants count (word + 1) (value + step) step n values (omega arith)
    ∙ ap (λ k. wants_store k (value + step + step * n)) w ∙ ap (λ k. wants_store (word + suc n) k) v

-- the stores of a list that are over
pub play_each_over : (word : ℕ) (stored_values : List ℕ) (n : ℕ) (values : List ℕ) → length stored_values ≤ n → play (store_each word stored_values) n values ≡ stored (n - length stored_values) values
unfolding store_each
play_each_over word [] n values l = ap (λ k. stored k values) (omega arith)
play_each_over word (value ∷ rest) zero values l = absurd (omega arith)
play_each_over word (value ∷ rest) (suc n) values l =
    let k : n - length rest ≡ suc n - suc (length rest) = omega arith in
    play_each_over (word + 1) rest n values (omega arith) ∙ ap (λ k. stored k values) k

-- those that aren't go on with the value whose index is the number of accesses
pub play_each_wants : (word : ℕ) (stored_values : List ℕ) (n : ℕ) (values : List ℕ) → n < length stored_values → play (store_each word stored_values) n values ≡ wants_store (word + n) (slice_index stored_values n)
unfolding store_each
play_each_wants word [] n values l = absurd (omega arith)
play_each_wants word (value ∷ rest) zero values l =
    let w : word ≡ word + 0 = omega arith in
    ap (λ k. wants_store k value) w
play_each_wants word (value ∷ rest) (suc n) values l =
    let w : word + 1 + n ≡ word + suc n = omega arith in
    play_each_wants (word + 1) rest n values (omega arith) ∙ ap (λ k. wants_store k (slice_index rest n)) w

abbrev pub wants_load : (word : ℕ) → Played (List ℕ)
wants_load word = Wants (access.Load word) no_changes

abbrev pub loaded : (left : ℕ) → (answers rest : List ℕ) → Played (List ℕ)
loaded left answers rest = Completed answers left rest

-- what loads come to of which the first has this answer
first_loaded : (count word value n : ℕ) (values : List ℕ) → play (loads (suc count) word) (suc n) (value ∷ values) ≡ resume (play (loads count (word + 1)) n values) (λ rest. done (value ∷ rest))
unfolding loads
first_loaded count word value n values = play_bind (loads count (word + 1)) (λ rest. done (value ∷ rest)) n values

-- loads that are over
pub play_loads_over : (count word n : ℕ) (values : List ℕ) → count ≤ n → count ≤ length values → play (loads count word) n values ≡ loaded (n - count) (take count values) (drop count values)
unfolding loads
play_loads_over zero word n values l m = ap (λ k. loaded k [] values) (omega arith)
play_loads_over (suc count) word zero values l m = absurd (omega arith)
play_loads_over (suc count) word (suc n) [] l m = absurd (omega arith)
play_loads_over (suc count) word (suc n) (value ∷ values) l m =
    let k : n - count ≡ suc n - suc count = omega arith in
    first_loaded count word value n values
    ∙ ap (λ p. resume p (λ rest. done (value ∷ rest))) (play_loads_over count (word + 1) n values (omega arith) (omega arith))
    ∙ ap (λ k. loaded k (value ∷ take count values) (drop count values)) k

-- those that aren't go on with the load whose index is the number of accesses, or of answers where these are fewer
pub play_loads_wants : (count word n : ℕ) (values : List ℕ) → min n (length values) < count → play (loads count word) n values ≡ wants_load (word + min n (length values))
unfolding loads
play_loads_wants zero word n values l = absurd (omega arith)
play_loads_wants (suc count) word zero values l = ap wants_load (omega arith)
play_loads_wants (suc count) word (suc n) [] l = ap wants_load (omega arith)
play_loads_wants (suc count) word (suc n) (value ∷ values) l =
    first_loaded count word value n values
    ∙ ap (λ p. resume p (λ rest. done (value ∷ rest))) (play_loads_wants count (word + 1) n values (omega arith))
    ∙ ap wants_load (omega arith)

-- a look that comes to something without changes comes to the same with changes that its mark needn't tell
look_in_changes : (changes : ℕ → List Change) (at : Option ℕ) (k : Kind) (w : Who) (addr : ℕ) (n : ℕ) (values : List ℕ) (result : Result ℕ Suspended) (left : ℕ) (rest : List ℕ)
    → Marks marks.Plain changes → Refines (play (look_in_as no_changes at k w addr) n values) result left rest
    → Refines (play (look_in_as changes at k w addr) n values) result left rest
unfolding look_in_as
look_in_changes changes None k w addr n values result left rest m h = h
look_in_changes changes (Some page) k w addr zero values (Ok x) left rest m h = cc
look_in_changes changes (Some page) k w addr zero values (Err (suspended.Access a mark)) left rest m h = (h.0, ((λ answer held. m.0 answer held ∙ h.1.0 answer held), (λ answer. m.1 answer ∙ h.1.1 answer)), h.2)
look_in_changes changes (Some page) k w addr zero values (Err (suspended.Fault e)) left rest m h = cc
look_in_changes changes (Some page) k w addr (suc n) [] (Ok x) left rest m h = cc
look_in_changes changes (Some page) k w addr (suc n) [] (Err (suspended.Access a mark)) left rest m h = (h.0, ((λ answer held. m.0 answer held ∙ h.1.0 answer held), (λ answer. m.1 answer ∙ h.1.1 answer)), h.2)
look_in_changes changes (Some page) k w addr (suc n) [] (Err (suspended.Fault e)) left rest m h = cc
look_in_changes changes (Some page) k w addr (suc n) (value ∷ values) result left rest m h = h

pub look_changes : (changes : ℕ → List Change) (w : Who) (k : Kind) (addr : ℕ) (n : ℕ) (values : List ℕ) (result : Result ℕ Suspended) (left : ℕ) (rest : List ℕ)
    → Marks marks.Plain changes → Refines (play (look k w addr) n values) result left rest
    → Refines (play (look_as changes k w addr) n values) result left rest
unfolding look_as
look_changes changes w k addr n values result left rest m h = look_in_changes changes (page_at addr) k w addr n values result left rest m h
