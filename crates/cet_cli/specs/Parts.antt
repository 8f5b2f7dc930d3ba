-- A text up to the first of its signs, and what stands behind that. Source: own.
use Rattle.std.specs.Prelude.{ℕ, ◌==◌, cond, List, [], ◌∷◌, Option, Some, None}

abbrev pub front : (sign : ℕ) → List ℕ → List ℕ
front sign [] = []
front sign (c ∷ cs) = cond (c == sign) [] (c ∷ front sign cs)

abbrev pub back : (sign : ℕ) → List ℕ → Option (List ℕ)
back sign [] = None
back sign (c ∷ cs) = cond (c == sign) (Some cs) (back sign cs)
