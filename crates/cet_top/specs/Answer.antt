-- What a command answers: its status and its output, by the words and the bytes of the source. Source: own.
use Rattle.std.specs.Prelude.{◌≡◌, ℕ, ◌⊎◌, Bool, true, false, List, [], ◌∷◌, ◌++◌, codes, Option, Some, None}
use Rattle.cet_words.specs.Job.{ImageData, JobData}
use Rattle.cet_asm.specs.Program.{IsProgram, IsFirstFault}
use Rattle.cet_asm.specs.declared.program.Program.{Program}
use Rattle.cet_ctx.specs.Bench.{bench}
use Rattle.cet_ctx.specs.Runtime.{runtime}
use Rattle.cet_elf.specs.Accepts.{Accepts, FirstBroken, image_of}
use Rattle.cet_elf.specs.Written.{written}
use Rattle.cet_page.specs.Machine.{Machine}
use Rattle.cet_top.specs.Listing.{IsListing}
use Rattle.cet_trace.specs.Report.{report_of}
use Rattle.cet_trace.specs.Summary.{summary_of}
use Rattle.cet_run.specs.SafeRun.{SafeRun}
use Rattle.cet_run.specs.Schedule.{ByRobin, IsFull, IsMix}
use Rattle.cet_cli.specs.Settings.{SettingsData}
use Rattle.cet_cli.specs.Words.{default_settings}
use Rattle.cet_run.specs.declared.outcomes.Outcome.{Outcome}
use Rattle.cet_run.specs.declared.outcomes.ProcessEnd.{ProcessEnd}
use Rattle.cet_run.specs.declared.outcomes.ProcessEnd.TheVariants as process
use Rattle.cet_base.specs.declared.styles.Style.{Style}
use Rattle.cet_top.specs.declared.status.Status.{Status}
use Rattle.cet_top.specs.declared.status.Status.TheVariants as status
use Rattle.cet_cli.specs.declared.options.Plan.{Plan}
use Rattle.cet_cli.specs.declared.options.Plan.TheVariants.{Mix, Schedule}
use Rattle.cet_cli.specs.declared.words.Command.{Command}
use Rattle.cet_cli.specs.declared.words.Command.TheVariants.{Run, Replay, Dis, Asm, Check, Bench, Smp}
use Rattle.cet_top.specs.declared.runs.Course.{Course}
use Rattle.cet_top.specs.declared.runs.Course.TheVariants as course

-- the job of an image by these settings
abbrev pub job_with : SettingsData → ImageData → JobData
job_with settings image = record { image = image; procs = settings.procs; limit = settings.limit; signals = settings.signals }

abbrev pub job_of : SettingsData → List ℕ → JobData
job_of settings bytes = job_with settings (image_of bytes)

-- the status of a run whose process ended so
abbrev pub status_of : ProcessEnd → Status
status_of (process.Exit code) = status.Done
status_of (process.Killed signal) = status.Killed signal
status_of (process.Limit thread) = status.Limit thread

-- the status of an outcome, and its report
pub record ReportsOf (outcome : Outcome) (style : Style) (s : Status) (output : List ℕ) : Type 0 where
  pub ends : s ≡ status_of outcome.process
  pub reports : output ≡ report_of outcome style

-- those of a run of the job with these turns
pub record Reports (job : JobData) (Turned : Machine → List ℕ → Type 0) (style : Style) (s : Status) (output : List ℕ) : Type 0 where
  pub outcome : Outcome
  pub ran : SafeRun job Turned outcome
  pub told : ReportsOf outcome style s output

-- a file that breaks a rule of the loader is refused by the first of them, at its place
pub record Refuses (bytes : List ℕ) (s : Status) (output : List ℕ) : Type 0 where
  pub rule : ℕ
  pub offset : ℕ
  pub broken : FirstBroken bytes rule offset
  pub refused : s ≡ status.Refused rule offset
  pub nothing : output ≡ []

-- which turns a run of a job has
abbrev pub Turns : Type 1
Turns = JobData → Machine → (turns : List ℕ) → Type 0

-- by a plan of the words: its turns and then Robin, or the numbers of Mix from its own on
abbrev pub by_plan : Plan → Turns
by_plan (Schedule given) job start turns = IsFull job start given turns
by_plan (Mix number) job start turns = IsMix job start number turns

abbrev pub by_course : Course → Turns
by_course course.Robin job start turns = ByRobin job start turns
by_course (course.Planned plan) job start turns = by_plan plan.now job start turns

-- any turns
abbrev pub by_any : Turns
by_any job start turns = Unit {0}

-- a file that is accepted runs by these settings with these turns, and is reported in their style
pub record Runs (by : Turns) (settings : SettingsData) (bytes : List ℕ) (s : Status) (output : List ℕ) : Type 0 where
  pub accepted : Accepts bytes
  pub reported : Reports (job_of settings bytes) (by (job_of settings bytes)) settings.style s output

-- a file that is accepted is listed
pub record Disassembles (bytes : List ℕ) (s : Status) (output : List ℕ) : Type 0 where
  pub accepted : Accepts bytes
  pub done : s ≡ status.Done
  pub listed : IsListing (image_of bytes).segments output

-- a file that is accepted is told so
pub record Checks (bytes : List ℕ) (s : Status) (output : List ℕ) : Type 0 where
  pub accepted : Accepts bytes
  pub done : s ≡ status.Done
  pub told : output ≡ codes "accepted" ++ 10 ∷ []

-- a text that breaks a rule is refused at its first faulty line, by the first rule that this breaks
pub record Faults (bytes : List ℕ) (s : Status) (output : List ℕ) : Type 0 where
  pub line : ℕ
  pub rule : ℕ
  pub broken : IsFirstFault bytes line rule
  pub refused : s ≡ status.AsmRefused line rule
  pub nothing : output ≡ []

-- any other text is assembled to the file of its program
pub record Assembles (bytes : List ℕ) (s : Status) (output : List ℕ) : Type 0 where
  pub program : Program
  pub assembled : IsProgram bytes program
  pub done : s ≡ status.Done
  pub file : output ≡ written program

-- ---- the runtime

-- the text, a newline, and the runtime
abbrev pub with_runtime : (text : List ℕ) → List ℕ
with_runtime text = text ++ 10 ∷ runtime

-- the text that is assembled: the given one, with the runtime behind it or without
abbrev pub source_of : (with : Bool) → (text : List ℕ) → List ℕ
source_of true text = with_runtime text
source_of false text = text

-- the status of a run of the job, the live threads in turn, and the line that tells of it
pub record Measured (n : ℕ) (job : JobData) (s : Status) (output : List ℕ) : Type 0 where
  pub outcome : Outcome
  pub ran : SafeRun job (ByRobin job) outcome
  pub ends : s ≡ status_of outcome.process
  pub told : output ≡ summary_of n outcome

-- a file that is accepted runs by the default settings
pub record Measures (n : ℕ) (bytes : List ℕ) (s : Status) (output : List ℕ) : Type 0 where
  pub accepted : Accepts bytes
  pub measured : Measured n (job_of default_settings bytes) s output

-- The program of a text that breaks no rule is run as the file of any program is: where the loader refuses it that is told.
pub record Benches (n : ℕ) (text : List ℕ) (s : Status) (output : List ℕ) : Type 0 where
  pub program : Program
  pub assembled : IsProgram text program
  pub ran : Refuses (written program) s output ⊎ Measures n (written program) s output

-- each command but the bench reads the source
abbrev pub reads : Command → Bool
reads (Run settings) = true
reads (Replay settings plan) = true
reads Dis = true
reads (Asm with) = true
reads Check = true
reads (Bench n) = false
reads (Smp settings workers) = true

abbrev pub Answers : Command → (bytes : List ℕ) → Status → (output : List ℕ) → Type 0
Answers (Run settings) bytes s output = Refuses bytes s output ⊎ Runs ByRobin settings bytes s output
Answers (Replay settings plan) bytes s output = Refuses bytes s output ⊎ Runs (by_plan plan) settings bytes s output
Answers Dis bytes s output = Refuses bytes s output ⊎ Disassembles bytes s output
Answers (Asm with) bytes s output = Faults (source_of with bytes) s output ⊎ Assembles (source_of with bytes) s output
Answers Check bytes s output = Refuses bytes s output ⊎ Checks bytes s output
Answers (Bench n) bytes s output = Faults (with_runtime (bench n)) s output ⊎ Benches n (with_runtime (bench n)) s output
Answers (Smp settings workers) bytes s output = Refuses bytes s output ⊎ Runs by_any settings bytes s output

-- ---- threaded runs

-- What a threaded run is answered with, beside the outcome that is handed out: the file is refused, and there is none; or it ran, by
-- some turns, and that is the outcome of this very run.
abbrev pub AnswersThreaded : SettingsData → Option Outcome → (bytes : List ℕ) → Status → (output : List ℕ) → Type 0
AnswersThreaded settings None bytes s output = Refuses bytes s output
AnswersThreaded settings (Some outcome) bytes s output = (runs : Runs by_any settings bytes s output) × (runs.reported.outcome ≡ outcome)

-- a report was written, wholly or up to a write that failed
abbrev pub has_run : Status → Bool
has_run status.Done = true
has_run (status.Usage word) = false
has_run status.ReadFault = false
has_run status.WriteFault = true
has_run (status.Refused rule offset) = false
has_run (status.AsmRefused line rule) = false
has_run status.TooLong = false
has_run (status.Killed signal) = true
has_run (status.Limit thread) = true
has_run status.NoMemory = false
