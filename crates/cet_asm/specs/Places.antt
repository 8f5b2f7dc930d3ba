-- What the code's table of labels says of a text. Source: own.
use Rattle.std.specs.Prelude.{ℕ, ◌≤◌, List, IfSome}
use Rattle.cet_asm.specs.Layout.{program_limit}
use Rattle.cet_asm.specs.Program.{Symbols}
use Rattle.cet_asm.specs.Passes.{place_in}
use Rattle.cet_asm.specs.declared.labels.Labels.{Labels}

abbrev pub symbols_view : Labels → Symbols
symbols_view l = record { place = place_in l.places; text_size = l.text_size }

-- all places are within what a program may be
abbrev pub IsSmall : Symbols → Type 0
IsSmall w = (w.text_size ≤ program_limit) × ((name : List ℕ) → IfSome (w.place name) (λ symbol. symbol.offset ≤ program_limit))
