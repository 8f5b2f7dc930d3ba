use Rattle.cet_run.proofs.LiveThreads.{live_more}
use Rattle.cet_run.proofs.guests.live_numbers.Goals as goal

pub loop-at-preserved : goal.loop-at-preserved
loop-at-preserved c = live_more _ _ c.index-all_traced-at.result _ _ c.loop-at-test.true c.index-all_traced-at.is c.in_ok-push_live.ensures c.loop-at.invariant
