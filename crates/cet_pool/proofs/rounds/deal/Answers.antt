use Rattle.std.proofs.Common.{◌≡◌, ◌<◌, ◌%◌, ◌++◌, List, length, sym, ap, ◌∙◌, subst, arith}
use Rattle.std.specs.List.Sorted.{IsPermutation}
use Rattle.cet_pool.specs.declared.lives.Live.{Live}
use Rattle.cet_pool.specs.Rounds.{spread}
use Rattle.cet_pool.proofs.Dealing.{dealing_init, dealing_next}
use Rattle.cet_pool.proofs.Turns.{none_in}
use Rattle.cet_pool.proofs.rounds.deal.Goals as goal

pub loop-live-init : goal.loop-live-init
loop-live-init c = record {
  count = c.in_ok-bins.ensures.count;
  dealt = dealing_init c.args.lives.items c.in_ok-bins.bins.items c.in_ok-bins.ensures.none;
}

pub loop-live-preserved : goal.loop-live-preserved
loop-live-preserved c =
    let l = c.loop-live.bins.ok.0 in
    let inside : c.from.result % c.args.workers < length c.loop-live.bins.items = omega (arith, c.loop-live.invariant.count, c.requires) in
    record {
      count = c.loop-live.invariant.count;
      dealt = dealing_next c.args.lives.items c.loop-live.waiting.items c.pop.new.self.items c.in-Some.live c.loop-live.bins.items (c.from.result % c.args.workers) c.index_mut.result.now
          (record { worker = c.index_mut.result.now.worker; lives = c.push.new.self }) c.loop-live.invariant.dealt c.in-Some.ensures.items inside c.index_mut.ensures.value c.in_ok-push.ensures.items;
    }

pub returns : goal.returns
returns c = subst (λ (l : List Live). IsPermutation c.args.lives.items (l ++ spread c.loop-live.bins.items)) (none_in c.loop-live.waiting.items (sym c.loop-live.waiting.ok.0
    ∙ c.in_default.ensures.cases.0)) c.loop-live.invariant.dealt
