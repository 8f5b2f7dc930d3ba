use Rattle.std.proofs.Common.{◌≡◌, ◌++◌, take}
use Rattle.cet_own.specs.Told.{told_in}
use Rattle.cet_run.proofs.told_stacks.push_all_told.Given as goal

abbrev pub invariant-loop-noted : goal.invariant-loop-noted
invariant-loop-noted l = l.spans.items ≡ l.initial.spans.items ++ told_in (take l.noted-index l.records)
