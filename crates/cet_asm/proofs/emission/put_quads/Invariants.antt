use Rattle.std.proofs.Common.{◌≡◌, ◌++◌, length}
use Rattle.std.specs.List.{flat_map}
use Rattle.cet_syntax.specs.Tokens.{tokens}
use Rattle.cet_syntax.specs.Line.{quads_in}
use Rattle.cet_asm.specs.Program.{item_bytes}
use Rattle.cet_asm.specs.Places.{symbols_view}
use Rattle.cet_asm.proofs.emission.put_quads.Given as goal

abbrev pub invariant-loop-item : goal.invariant-loop-item
invariant-loop-item l = l.out ++ flat_map (item_bytes (symbols_view l.labels)) (quads_in (tokens l.rest)) ≡ l.fn.out ++ flat_map (item_bytes (symbols_view l.labels)) (quads_in (tokens l.text))

abbrev pub decreases-loop-item : goal.decreases-loop-item
decreases-loop-item l = length (quads_in (tokens l.rest))
