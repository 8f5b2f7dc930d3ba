-- The lines that are left of a text. Source: own.
use Rattle.std.specs.Prelude.{ℕ, List, map, Option}
use Rattle.std.specs.Borrow.{Bor}
use Rattle.cet_syntax.specs.Line.{Line, line_of}
use Rattle.cet_syntax.specs.Parts.{parts_left}

abbrev pub lines_left : Option (Bor (List ℕ)) → List Line
lines_left text = map line_of (parts_left text)
