use Rattle.std.proofs.Common.{◌≡◌, ◌+◌, length}
use Rattle.cet_syntax.specs.Tokens.{tokens}
use Rattle.cet_syntax.specs.Line.{bytes_in}
use Rattle.cet_asm.proofs.sizes.count_values.Given as goal

abbrev pub invariant-loop-value : goal.invariant-loop-value
invariant-loop-value l = l.count + length (bytes_in (tokens l.rest)) ≡ length (bytes_in (tokens l.text))

abbrev pub decreases-loop-value : goal.decreases-loop-value
decreases-loop-value l = length (bytes_in (tokens l.rest))
