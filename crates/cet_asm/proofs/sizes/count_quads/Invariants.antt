use Rattle.std.proofs.Common.{◌≡◌, ◌+◌, length}
use Rattle.cet_syntax.specs.Tokens.{tokens}
use Rattle.cet_syntax.specs.Line.{quads_in}
use Rattle.cet_asm.proofs.sizes.count_quads.Given as goal

abbrev pub invariant-loop-item : goal.invariant-loop-item
invariant-loop-item l = l.count + length (quads_in (tokens l.rest)) ≡ length (quads_in (tokens l.text))

abbrev pub decreases-loop-item : goal.decreases-loop-item
decreases-loop-item l = length (quads_in (tokens l.rest))
