use Rattle.cet_run.proofs.Steps.{still}
use Rattle.cet_run.proofs.turns.give_turn.Goals as goal

pub returns-else-goes_on-clause-step : goal.returns-else-goes_on-clause-step
returns-else-goes_on-clause-step g c = still c.args.job.now _ c.args.number (c.goes_on.ensures.ended c.if-goes_on.false)
