use Rattle.std.proofs.Common.{subst}
use Rattle.cet_cli.specs.Settings.{SettingsData}
use Rattle.cet_run.specs.SafeRun.{SafeRun}
use Rattle.cet_run.specs.Schedule.{ByRobin}
use Rattle.cet_top.specs.Answer.{job_with}
use Rattle.cet_top.proofs.runs.measure_image.Goals as goal

pub returns : goal.returns
returns c = record {
  outcome = c.in_ok-outcome.outcome;
  ran = subst (λ (s : SettingsData). SafeRun (job_with s c.args.image.now) (ByRobin (job_with s c.args.image.now)) c.in_ok-outcome.outcome)
      c.defaults-settings.ensures (c.in_ok-outcome.ensures {u = tt});
  ends = c.status_of.ensures;
  told = c.in_ok-output.ensures {u = tt};
}
