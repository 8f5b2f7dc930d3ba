use Rattle.cet_base.proofs.DigitLemmas.{IsLeft}
use Rattle.cet_base.proofs.write.write_digits.Given as goal

abbrev pub invariant-loop-rest : goal.invariant-loop-rest
invariant-loop-rest l = IsLeft l.radix l.value l.at l.rest l.out

abbrev pub decreases-loop-rest : goal.decreases-loop-rest
decreases-loop-rest l = l.at
