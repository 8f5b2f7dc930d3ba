use Rattle.std.proofs.Common.{◌≡◌, ◌∷◌, take}
use Rattle.std.specs.List.{flat_map}
use Rattle.cet_own.specs.Told.{first_span, told_in}
use Rattle.cet_run.specs.declared.outcomes.ThreadOut.{ThreadOut}
use Rattle.cet_run.proofs.told_stacks.told_spans.Given as goal

abbrev pub invariant-loop-out : goal.invariant-loop-out
invariant-loop-out l = l.spans.items ≡ first_span ∷ flat_map (λ (out : ThreadOut). told_in out.records) (take l.out-index l.outs)
