-- A line of words. Source: own.
use Rattle.std.specs.Prelude.{ℕ, List, [], ◌∷◌, ◌++◌}
use Rattle.std.specs.List.{flat_map}
use Rattle.std.specs.Fmt.{decimal}
use Rattle.cet_base.specs.Digits.{hex16}
use Rattle.cet_trace.specs.declared.lines.Word.{Word}
use Rattle.cet_trace.specs.declared.lines.Word.TheVariants.{Text, Decimal, Hex}

abbrev pub word_text : Word → List ℕ
word_text (Text text) = text.now
word_text (Decimal n) = decimal n
word_text (Hex n) = hex16 n

-- a word after a space
abbrev pub spaced : List ℕ → List ℕ
spaced word = 32 ∷ word

-- the first word, each other after a space, and a newline
unfoldable pub line : List ℕ → List (List ℕ) → List ℕ
line first others = first ++ flat_map spaced others ++ 10 ∷ []
