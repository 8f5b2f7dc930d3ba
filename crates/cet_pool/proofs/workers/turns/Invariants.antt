use Rattle.std.proofs.Common.{vec_len}
use Rattle.cet_pool.specs.Rounds.{Turning}
use Rattle.cet_pool.proofs.workers.turns.Given as goal

abbrev pub invariant-loop-live : goal.invariant-loop-live
invariant-loop-live g l = Turning l.shared l.fn.lives.items l.waiting.items l.had.items

abbrev pub decreases-loop-live : goal.decreases-loop-live
decreases-loop-live g l = vec_len l.waiting
