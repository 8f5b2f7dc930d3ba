use Rattle.cet_elf.specs.Refusals.{HoldBelow}
use Rattle.cet_elf.proofs.loads.refuse_broken.Given as goal

abbrev pub invariant-loop-index : goal.invariant-loop-index
invariant-loop-index l = HoldBelow l.index l.breaches
