use Rattle.std.proofs.Common.{◌≡◌, ◌≤◌, length}
use Rattle.cet_syntax.specs.Tokens.{tokens}
use Rattle.cet_syntax.proofs.tokens.next.Given as goal

abbrev pub invariant-loop-rest : goal.invariant-loop-rest
invariant-loop-rest l = record {
  same : tokens l.rest ≡ tokens l.text;
  within : length l.rest ≤ length l.text;
}

abbrev pub decreases-loop-rest : goal.decreases-loop-rest
decreases-loop-rest l = length l.rest
