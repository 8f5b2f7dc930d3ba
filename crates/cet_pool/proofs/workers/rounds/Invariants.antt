use Rattle.cet_pool.specs.Rounds.{Turned}
use Rattle.cet_pool.proofs.workers.rounds.Given as goal

abbrev pub invariant-loop : goal.invariant-loop
invariant-loop g l = Turned l.shared l.fn.bin.lives.items l.had.items
