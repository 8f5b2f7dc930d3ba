use Rattle.cet_pool.proofs.Turns.{turned_then}
use Rattle.cet_pool.proofs.workers.rounds.Goals as goal

pub loop-preserved : goal.loop-preserved
loop-preserved g c = turned_then c.args.shared.now c.args.bin.lives.items c.loop.had.items c.in_ok-had-2.had.items c.loop.invariant (c.in_ok-had-2.ensures {u = tt})
