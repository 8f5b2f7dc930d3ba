use Rattle.std.proofs.Common.{sym, ◌∙◌}
use Rattle.cet_pool.proofs.Steps.{went_childless}
use Rattle.cet_pool.proofs.lives.step.Goals as goal

pub returns-else-is_some-clause-went : goal.returns-else-is_some-clause-went
returns-else-is_some-clause-went c =
    went_childless c.args.shared.now c.args.live.now c.access.new.live c.args.born.now.items c.requires.ready c.access.new.child (sym c.is_some.ensures ∙ c.if-is_some.false)
    c.in_ok-access.ensures.step
