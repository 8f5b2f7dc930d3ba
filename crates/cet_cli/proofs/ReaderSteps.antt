-- What is read of several words, one after another. Source: own.
use Rattle.std.specs.Prelude.{ℕ, List, [], ◌∷◌, Option, Some, option_and_then}
use Rattle.cet_cli.specs.Grammar.{Given}
use Rattle.cet_cli.specs.Reader.{Reader, step}

module _ {C O S : Type 0} (keep : S → Given O → S) where
  abbrev pub steps : Reader C O S → (words : List (List ℕ)) → Option (Reader C O S)
  steps r [] = Some r
  steps r (w ∷ ws) = option_and_then (λ s. steps s ws) (step keep r w)
