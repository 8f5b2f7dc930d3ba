use Rattle.cet_cpu.specs.Cpu.{IsCpu}
use Rattle.cet_cpu.proofs.tests.answer_each.Given as goal

abbrev pub invariant-loop-want : goal.invariant-loop-want
invariant-loop-want g l = IsCpu l.job l.cpu
