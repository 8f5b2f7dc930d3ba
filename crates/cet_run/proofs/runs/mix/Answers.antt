use Rattle.std.proofs.lemmas.Result.{IfOk-weaker}
use Rattle.cet_run.proofs.Finished.{by_schedule, mixed_finishes}
use Rattle.cet_run.proofs.runs.mix.Goals as goal

pub finish-requires : goal.finish-requires
finish-requires c =
    let r = c.in_ok-give_mix.ensures.ran in
    (_, r.turns, mixed_finishes c.args.job.now c.args.seed _ _ c.in_ok-words.ensures.starts r)

pub returns : goal.returns
returns c =
    let r = c.in_ok-give_mix.ensures.ran in
    IfOk-weaker c.finish.result _ _
    (λ outcome safe. by_schedule c.args.job.now _ r.turns _ outcome r.mix safe)
    (c.finish.ensures _ r.turns (mixed_finishes c.args.job.now c.args.seed _ _ c.in_ok-words.ensures.starts r))
