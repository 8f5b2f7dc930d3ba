-- Pieces of a text after one another.
use Rattle.std.proofs.Common.{◌≡◌, ℕ, List, [], ◌∷◌, ◌++◌, refl}
use Rattle.cet_encode.specs.Text.{Piece, bytes_of, onto}

pub onto_append : (text : List ℕ) (ps qs : List Piece) → onto text (ps ++ qs) ≡ onto (onto text ps) qs
onto_append text [] qs = refl
onto_append text (p ∷ ps) qs = onto_append (text ++ bytes_of p) ps qs
