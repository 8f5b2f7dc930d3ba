use Rattle.std.proofs.Common.{◌≡◌, length}
use Rattle.std.specs.List.{list_all}
use Rattle.cet_syntax.specs.Tokens.{tokens}
use Rattle.cet_syntax.specs.Line.{quads_in}
use Rattle.cet_asm.specs.Program.{knows_item}
use Rattle.cet_asm.specs.Places.{symbols_view}
use Rattle.cet_asm.proofs.labels.knows_items.Given as goal

abbrev pub invariant-loop-item : goal.invariant-loop-item
invariant-loop-item l = list_all (knows_item (symbols_view l.labels)) (quads_in (tokens l.rest)) ≡ list_all (knows_item (symbols_view l.labels)) (quads_in (tokens l.text))

abbrev pub decreases-loop-item : goal.decreases-loop-item
decreases-loop-item l = length (quads_in (tokens l.rest))
