use Rattle.std.proofs.Common.{◌≡◌, length}
use Rattle.cet_syntax.specs.Line.{after_labels}
use Rattle.cet_syntax.proofs.lines.after_labels.Given as goal

abbrev pub invariant-loop-after : goal.invariant-loop-after
invariant-loop-after l = after_labels l.rest ≡ after_labels l.text

abbrev pub decreases-loop-after : goal.decreases-loop-after
decreases-loop-after l = length l.rest
