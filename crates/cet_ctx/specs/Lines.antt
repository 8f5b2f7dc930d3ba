-- Texts of lines. Source: own.
use Rattle.std.specs.Prelude.{ℕ, List, [], ◌∷◌, ◌++◌}
use Rattle.std.specs.List.{flat_map}

-- a line and its newline
abbrev pub ended : List ℕ → List ℕ
ended line = line ++ 10 ∷ []

-- lines, each ended by a newline, the last one too
abbrev pub text_of : List (List ℕ) → List ℕ
text_of lines = flat_map ended lines

-- lines, the first one behind a label
abbrev pub labelled : List ℕ → List (List ℕ) → List (List ℕ)
labelled label [] = []
labelled label (line ∷ lines) = (label ++ line) ∷ lines

-- the most bytes of a text here
abbrev pub most_text : ℕ
most_text = 4096
