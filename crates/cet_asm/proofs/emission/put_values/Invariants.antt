use Rattle.std.proofs.Common.{◌≡◌, ◌++◌, length}
use Rattle.cet_syntax.specs.Tokens.{tokens}
use Rattle.cet_syntax.specs.Line.{bytes_in}
use Rattle.cet_asm.proofs.emission.put_values.Given as goal

abbrev pub invariant-loop-byte : goal.invariant-loop-byte
invariant-loop-byte l = l.out ++ bytes_in (tokens l.rest) ≡ l.fn.out ++ bytes_in (tokens l.text)

abbrev pub decreases-loop-byte : goal.decreases-loop-byte
decreases-loop-byte l = length (bytes_in (tokens l.rest))
