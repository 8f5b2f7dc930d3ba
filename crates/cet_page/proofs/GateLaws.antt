-- What ends with the gate's way out is the book's affair alone. Source: own.
use Rattle.std.proofs.Common.{zero, suc}
use Rattle.std.specs.Prelude.{ℕ, List, [], ◌∷◌, Result, Ok, Err}
use Rattle.cet_page.specs.Script.{◌>>=◌, play}
use Rattle.cet_page.specs.Parts.{load_as, compare_exchange_as}
use Rattle.cet_page.specs.Gate.{gate_out}
use Rattle.cet_page.specs.Plays.{Refines}
use Rattle.cet_page.specs.declared.cursors.Suspended.{Suspended}
use Rattle.cet_page.specs.declared.cursors.Suspended.TheVariants as suspended
use Rattle.cet_page.specs.declared.finishes.Leaving.{Leaving}
use Rattle.cet_page.specs.declared.finishes.Leaving.TheVariants as leaving

-- what comes of the way out is the same, whatever ends with it
pub comes_out : (ends : Leaving) (k n : ℕ) (values : List ℕ) (result : Result (Unit {0}) Suspended) (left : ℕ) (rest : List ℕ) → Refines (play (gate_out leaving.Back k) n values) result left rest →
    Refines (play (gate_out ends k) n values) result left rest
unfolding gate_out ◌>>=◌ load_as compare_exchange_as
comes_out leaving.Back k n values result left rest h = h
comes_out ends k zero values result left rest h = h
comes_out ends k (suc n) [] result left rest h = h
comes_out leaving.Popped k (suc zero) (v ∷ values) (Ok x) left rest h = cc
comes_out leaving.Popped k (suc zero) (v ∷ values) (Err (suspended.Access a mark)) left rest h = h
comes_out leaving.Popped k (suc zero) (v ∷ values) (Err (suspended.Fault e)) left rest h = cc
comes_out leaving.Popped k (suc (suc n)) (v ∷ []) (Ok x) left rest h = cc
comes_out leaving.Popped k (suc (suc n)) (v ∷ []) (Err (suspended.Access a mark)) left rest h = h
comes_out leaving.Popped k (suc (suc n)) (v ∷ []) (Err (suspended.Fault e)) left rest h = cc
comes_out (leaving.Ended status) k (suc zero) (v ∷ values) (Ok x) left rest h = cc
comes_out (leaving.Ended status) k (suc zero) (v ∷ values) (Err (suspended.Access a mark)) left rest h = h
comes_out (leaving.Ended status) k (suc zero) (v ∷ values) (Err (suspended.Fault e)) left rest h = cc
comes_out (leaving.Ended status) k (suc (suc n)) (v ∷ []) (Ok x) left rest h = cc
comes_out (leaving.Ended status) k (suc (suc n)) (v ∷ []) (Err (suspended.Access a mark)) left rest h = h
comes_out (leaving.Ended status) k (suc (suc n)) (v ∷ []) (Err (suspended.Fault e)) left rest h = cc
comes_out ends k (suc (suc n)) (v ∷ w ∷ values) result left rest h = h
