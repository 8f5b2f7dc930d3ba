use Rattle.std.proofs.Common.{ap, ◌∙◌}
use Rattle.cet_asm.specs.Layout.{with_immediate, with_target, distance}
use Rattle.cet_asm.specs.Filling.{on_address}
use Rattle.cet_asm.proofs.filling.filled.Goals as goal

pub returns : goal.returns
returns c =
    c.on_target.ensures
    ∙ ap (on_address c.args.resolved.target (λ a. with_target (distance c.args.next a)))
    (c.on_immediate.ensures ∙ ap (on_address c.args.resolved.immediate with_immediate) c.on_displacement-placed.ensures)
