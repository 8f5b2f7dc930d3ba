-- The help: a line for each command, and one for the options of a run. Source: own.
use Rattle.std.specs.Prelude.{ℕ, List, [], ◌∷◌, ◌++◌, codes}
use Rattle.std.specs.List.{flat_map}

-- a command with what follows it; `ITEMS` and `NUMBER` stand for a value, brackets for what may be left out
abbrev pub help_lines : List (List ℕ)
help_lines =
    codes "cetvm asm [--runtime]" ∷ codes "cetvm dis" ∷ codes "cetvm check" ∷ codes "cetvm run [common]"
    ∷ codes "cetvm replay [common] --schedule ITEMS or --mix NUMBER" ∷ codes "cetvm bench NUMBER"
    ∷ codes "cetvm smp [common] [--workers NUMBER]" ∷ codes "common: --limit NUMBER --procs NUMBER --trace full or last --signals ITEMS" ∷ []

-- the lines, each ended by a newline
abbrev pub help : List ℕ
help = flat_map (λ line. line ++ 10 ∷ []) help_lines
