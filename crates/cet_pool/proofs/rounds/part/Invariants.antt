use Rattle.std.proofs.Common.{vec_len}
use Rattle.cet_pool.specs.Rounds.{Parted}
use Rattle.cet_pool.proofs.rounds.part.Given as goal

abbrev pub invariant-loop-live : goal.invariant-loop-live
invariant-loop-live l = Parted l.fn.waiting.items l.fn.lives.items l.fn.ended.items l.waiting.items l.lives.items l.ended.items

abbrev pub decreases-loop-live : goal.decreases-loop-live
decreases-loop-live l = vec_len l.waiting
