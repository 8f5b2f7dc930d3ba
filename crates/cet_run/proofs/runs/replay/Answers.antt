use Rattle.std.proofs.Common.{◌++◌}
use Rattle.std.proofs.lemmas.Result.{IfOk-weaker}
use Rattle.cet_run.proofs.Finished.{by_schedule, full_by, full_finishes}
use Rattle.cet_run.proofs.runs.replay.Goals as goal

pub finish-requires : goal.finish-requires
finish-requires c =
    let r = c.in_ok-give_robin.ensures.ran in
    (_, c.args.schedule.now ++ r.turns, full_finishes c.args.job.now _ _ _ c.args.schedule.now c.in_ok-words.ensures.starts c.in_ok-give_turns.ensures.ran r)

pub returns : goal.returns
returns c =
    let r = c.in_ok-give_robin.ensures.ran in
    IfOk-weaker c.finish.result _ _
    (λ outcome safe. by_schedule c.args.job.now _ (c.args.schedule.now ++ r.turns) _ outcome (full_by c.args.job.now _ _ _ c.args.schedule.now c.in_ok-give_turns.ensures.ran r) safe)
    (c.finish.ensures _ (c.args.schedule.now ++ r.turns) (full_finishes c.args.job.now _ _ _ c.args.schedule.now c.in_ok-words.ensures.starts c.in_ok-give_turns.ensures.ran r))
