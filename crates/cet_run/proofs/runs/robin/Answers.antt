use Rattle.std.proofs.lemmas.Result.{IfOk-weaker}
use Rattle.cet_run.proofs.Finished.{by_schedule, robined_finishes}
use Rattle.cet_run.proofs.runs.robin.Goals as goal

pub finish-requires : goal.finish-requires
finish-requires c =
    let r = c.in_ok-give_robin.ensures.ran in
    (_, r.turns, robined_finishes c.args.job.now _ _ c.in_ok-words.ensures.starts r)

pub returns : goal.returns
returns c =
    let r = c.in_ok-give_robin.ensures.ran in
    IfOk-weaker c.finish.result _ _
    (λ outcome safe. by_schedule c.args.job.now _ r.turns _ outcome r.robin safe)
    (c.finish.ensures _ r.turns (robined_finishes c.args.job.now _ _ c.in_ok-words.ensures.starts r))
