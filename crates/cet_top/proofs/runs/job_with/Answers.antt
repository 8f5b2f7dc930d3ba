use Rattle.std.proofs.Common.{◌≤◌, ◌≡◌, List, length, subst, sym, ap, ◌∙◌, arith}
use Rattle.std.specs.Prelude.{All}
use Rattle.cet_words.specs.Job.{ImageData, IsImage, IsSignal}
use Rattle.cet_words.specs.declared.images.Signal.{Signal}
use Rattle.cet_cli.specs.Settings.{SettingsData}
use Rattle.cet_top.specs.Answer.{job_with}
use Rattle.cet_top.proofs.runs.job_with.Goals as goal

pub invariant_of-result : goal.invariant_of-result
invariant_of-result c = record {
  image = subst (λ (i : ImageData). IsImage i.entry i.segments) c.image.view_is c.image.invariant;
  procs_low = omega arith;
  procs_high = omega arith;
  limit_low = omega arith;
  limit_high = omega arith;
  few = subst (λ (l : List Signal). length l ≤ 256) (sym c.as_slice.ensures) c.settings.invariant.few;
  signals = subst (λ (l : List Signal). All IsSignal l) (sym c.as_slice.ensures) c.settings.invariant.signals;
}
