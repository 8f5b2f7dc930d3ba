use Rattle.std.proofs.Common.{◌≡◌, ◌+◌, ◌∷◌, [], ap, ◌∙◌}
use Rattle.cet_pool.specs.declared.workers.Bin.{Bin}
use Rattle.cet_pool.specs.Rounds.{spread}
use Rattle.cet_pool.proofs.Dealing.{spread_none}
use Rattle.cet_pool.proofs.rounds.empty_bins.Goals as goal

pub loop-worker-preserved : goal.loop-worker-preserved
loop-worker-preserved c =
    let b : Bin = record { worker = c.loop-worker.worker; lives = c.new.result } in
    record {
      count = c.in_ok-push.ensures.len ∙ ap (λ n. n + 1) c.loop-worker.invariant.count;
      none = ap spread c.in_ok-push.ensures.items ∙ spread_none c.loop-worker.bins.items b c.loop-worker.invariant.none c.new.ensures.items;
    }
