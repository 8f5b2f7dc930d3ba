use Rattle.std.proofs.Common.{◌≡◌, drop}
use Rattle.cet_run.specs.Outcome.{first_limit}
use Rattle.cet_run.proofs.ends.first_limit.Given as goal

abbrev pub invariant-loop-number : goal.invariant-loop-number
invariant-loop-number l = first_limit (drop l.number l.outs) l.number ≡ first_limit l.outs 0
