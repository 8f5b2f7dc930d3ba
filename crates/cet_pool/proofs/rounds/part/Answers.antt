use Rattle.std.proofs.Common.{◌≡◌, ◌≢◌, None, sym, ◌∙◌, subst}
use Rattle.cet_pool.proofs.Settling.{is_going, is_over, part_aside, part_going}
use Rattle.cet_pool.proofs.rounds.part.Goals as goal

pub loop-live-preserved-in-Continue-1 : goal.loop-live-preserved-in-Continue-1
loop-live-preserved-in-Continue-1 c =
    part_aside c.args.waiting.items c.args.lives.now.items c.args.ended.now.items c.loop-live.waiting.items c.pop.new.self.items c.loop-live.lives.items c.loop-live.ended.items c.in-Some.live
    c.loop-live.invariant c.in-Some.ensures.items c.push.new.self.items c.in_ok-push.ensures.items
    (subst (λ o. o ≢ None) c.end.ensures.end (is_over c.end.result c.is_some.result c.is_some.ensures c.if-is_some.true))

pub loop-live-preserved : goal.loop-live-preserved
loop-live-preserved c =
    part_going c.args.waiting.items c.args.lives.now.items c.args.ended.now.items c.loop-live.waiting.items c.pop.new.self.items c.loop-live.lives.items c.loop-live.ended.items c.in-Some.live
    c.loop-live.invariant c.in-Some.ensures.items c.push-else-is_some.new.self.items c.in_ok-push-2.ensures.items
    (record { goes = sym c.end.ensures.end ∙ is_going c.end.result c.is_some.result c.is_some.ensures c.if-is_some.false; state = c.end.ensures.state })
