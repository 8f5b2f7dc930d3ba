use Rattle.std.proofs.Common.{◌≡◌, ◌++◌, vec_len}
use Rattle.std.specs.List.Sorted.{IsPermutation}
use Rattle.cet_pool.specs.Rounds.{spread}
use Rattle.cet_pool.proofs.rounds.deal.Given as goal

abbrev pub invariant-loop-live : goal.invariant-loop-live
invariant-loop-live l = record {
  count : vec_len l.bins ≡ l.workers;
  dealt : IsPermutation l.fn.lives.items (l.waiting.items ++ spread l.bins.items);
}

abbrev pub decreases-loop-live : goal.decreases-loop-live
decreases-loop-live l = vec_len l.waiting
