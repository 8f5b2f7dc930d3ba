use Rattle.cet_run.proofs.ToldStacks.{told_here}
use Rattle.cet_run.proofs.told_stacks.push_all_told.Goals as goal

pub push_told-requires : goal.push_told-requires
push_told-requires c = told_here c.args.records.now c.loop-noted.noted-index _ c.loop-noted-test.true c.requires
