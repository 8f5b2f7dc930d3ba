use Rattle.std.proofs.Common.{◌≡◌, [], vec_len}
use Rattle.cet_pool.specs.Rounds.{spread}
use Rattle.cet_pool.proofs.rounds.empty_bins.Given as goal

abbrev pub invariant-loop-worker : goal.invariant-loop-worker
invariant-loop-worker l = record { count : vec_len l.bins ≡ l.worker; none : spread l.bins.items ≡ [] }
