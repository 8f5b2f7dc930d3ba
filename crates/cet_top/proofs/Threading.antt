-- What a threaded run is answered with.
use Rattle.std.proofs.Common.{◌≡◌, ℕ, List, Option, Some, refl, sym, subst}
use Rattle.cet_words.specs.Job.{ImageData}
use Rattle.cet_elf.specs.Accepts.{Accepts, image_of}
use Rattle.cet_run.specs.SafeRun.{SafeRun}
use Rattle.cet_run.specs.declared.outcomes.Outcome.{Outcome}
use Rattle.cet_cli.specs.Settings.{SettingsData}
use Rattle.cet_top.specs.Answer.{AnswersThreaded, ReportsOf, by_any, job_with}
use Rattle.cet_top.specs.declared.status.Status.{Status}

-- a run of the image that is in the file, and its report
pub threaded : (settings : SettingsData) (image : ImageData) (bytes : List ℕ) (ran : Option Outcome) (s : Status) (output : List ℕ) → Accepts bytes → image ≡ image_of bytes → (outcome : Outcome)
    → ran ≡ Some outcome → SafeRun (job_with settings image) (by_any (job_with settings image)) outcome → ReportsOf outcome settings.style s output → AnswersThreaded settings ran bytes s output
threaded settings image bytes ran s output accepted is outcome there run told =
    subst (λ (o : Option Outcome). AnswersThreaded settings o bytes s output) (sym there) (
      record {
        accepted = accepted;
        reported = record { outcome = outcome; ran = subst (λ (i : ImageData). SafeRun (job_with settings i) (by_any (job_with settings i)) outcome) is run; told = told };
      },
      refl,
    )
