use Rattle.std.proofs.Common.{List, ℕ, IfOk, subst, sym}
use Rattle.cet_cli.specs.declared.options.Plan.{Plan}
use Rattle.cet_run.specs.SafeRun.{SafeRun}
use Rattle.cet_run.specs.Schedule.{IsFull}
use Rattle.cet_top.specs.Answer.{by_plan}
use Rattle.cet_top.proofs.runs.run_planned.Goals as goal

pub returns-in-Schedule : goal.returns-in-Schedule
returns-in-Schedule c =
    subst (λ (p : Plan). IfOk c.replay.result (SafeRun c.args.job.now (by_plan p c.args.job.now))) (sym c.in-Schedule.is)
    (subst (λ (l : List ℕ). IfOk c.replay.result (SafeRun c.args.job.now (λ start turns. IsFull c.args.job.now start l turns))) c.as_slice.ensures c.replay.ensures)

pub returns-in-Mix : goal.returns-in-Mix
returns-in-Mix c = subst (λ (p : Plan). IfOk c.mix.result (SafeRun c.args.job.now (by_plan p c.args.job.now))) (sym c.in-Mix.is) c.mix.ensures
