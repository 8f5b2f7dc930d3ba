use Rattle.std.proofs.Common.{take}
use Rattle.std.specs.Prelude.{All}
use Rattle.cet_pool.specs.Rounds.{IsGoing}
use Rattle.cet_pool.proofs.workers.all_go.Given as goal

abbrev pub invariant-loop-live : goal.invariant-loop-live
invariant-loop-live l = All IsGoing (take l.live-index l.lives)
