use Rattle.std.proofs.Common.{◌≡◌, ◌++◌, take}
use Rattle.std.specs.List.{flat_map}
use Rattle.cet_trace.specs.Report.{stack_text}
use Rattle.cet_trace.proofs.reports.put_stacks.Given as goal

abbrev pub invariant-loop-stack : goal.invariant-loop-stack
invariant-loop-stack l = l.out ≡ l.initial.out ++ flat_map stack_text (take l.stack-index l.stacks)
