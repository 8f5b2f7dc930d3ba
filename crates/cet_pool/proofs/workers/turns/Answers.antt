use Rattle.std.proofs.Common.{◌≡◌, sym, ◌∙◌}
use Rattle.std.proofs.Common.{Some}
use Rattle.std.proofs.lemmas.List.Elements.{All-pop}
use Rattle.cet_pool.specs.Going.{IsReady}
use Rattle.cet_pool.proofs.Turns.{turning_next, turning_done}
use Rattle.cet_pool.proofs.workers.turns.Goals as goal

pub loop-live-preserved : goal.loop-live-preserved
loop-live-preserved g c =
    turning_next c.args.shared.now c.args.lives.items c.loop-live.waiting.items c.pop.new.self.items c.loop-live.had.items c.turn.new.born.items c.push.new.self.items c.in-Some.live
    c.turn.new.live
    c.loop-live.invariant c.in-Some.ensures.items c.in_ok-turn.ensures c.in_ok-push.ensures.items

pub returns : goal.returns
returns g c = turning_done c.args.shared.now c.args.lives.items c.loop-live.waiting.items c.loop-live.had.items c.loop-live.invariant (sym c.loop-live.waiting.ok.0 ∙ c.in_default.ensures.cases.0)

pub turn-requires-clause-ready : goal.turn-requires-clause-ready
turn-requires-clause-ready g c = (All-pop (IsReady c.args.shared.now) c.loop-live.waiting.items c.pop.new.self.items (Some c.in-Some.live) c.in-Some.ensures.items c.loop-live.invariant.ready).1
