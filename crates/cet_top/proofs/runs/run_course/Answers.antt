use Rattle.std.proofs.Common.{IfOk, subst, sym}
use Rattle.cet_run.specs.SafeRun.{SafeRun}
use Rattle.cet_top.specs.Answer.{by_course}
use Rattle.cet_top.specs.declared.runs.Course.{Course}
use Rattle.cet_top.proofs.runs.run_course.Goals as goal

pub returns-in-Robin : goal.returns-in-Robin
returns-in-Robin c = subst (λ (x : Course). IfOk c.robin.result (SafeRun c.args.job.now (by_course x c.args.job.now))) (sym c.in-Robin.is) c.robin.ensures

pub returns-in-Planned : goal.returns-in-Planned
returns-in-Planned c = subst (λ (x : Course). IfOk c.run_planned.result (SafeRun c.args.job.now (by_course x c.args.job.now))) (sym c.in-Planned.is) c.run_planned.ensures
