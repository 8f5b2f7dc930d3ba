-- The words that are commands, and what they mean. Source: own.
use Rattle.std.specs.Prelude.{ℕ, ◌-◌, ◌^◌, ◌≡◌, ◌≤◌, Bool, true, false, List, [], ◌∷◌, ◌++◌, fold, codes, Option, Some, None, if◌then◌else◌, option_map, unwrap_or}
use Rattle.std.specs.Str.{bytes_eq}
use Rattle.cet_base.specs.declared.styles.Style.{Style}
use Rattle.cet_base.specs.declared.styles.Style.TheVariants as style
use Rattle.cet_cli.specs.Grammar.{CommandRow, Given, IsAmong, IsLine, OptionRow}
use Rattle.cet_cli.specs.Values.{Number, OneOf, Signals, Turns, number_within, schedule_of, signals_of}
use Rattle.cet_cli.specs.Settings.{SettingsData, most_records}
use Rattle.cet_cli.specs.declared.options.Choices.{Choices}
use Rattle.cet_cli.specs.declared.options.OptionName.{OptionName}
use Rattle.cet_cli.specs.declared.options.OptionName.TheVariants as option
use Rattle.cet_cli.specs.declared.options.Plan.{Plan}
use Rattle.cet_cli.specs.declared.options.Plan.TheVariants as plan
use Rattle.cet_cli.specs.declared.words.Command.{Command}
use Rattle.cet_cli.specs.declared.words.Command.TheVariants as command
use Rattle.cet_cli.specs.declared.words.CommandName.{CommandName}
use Rattle.cet_cli.specs.declared.words.CommandName.TheVariants as name

-- ---- the options

abbrev pub limit : OptionRow OptionName
limit = record { name = option.Limit; word = codes "--limit"; value = Some (Number 1 most_records); part = 0 }

abbrev pub procs : OptionRow OptionName
procs = record { name = option.Procs; word = codes "--procs"; value = Some (Number 1 8); part = 1 }

abbrev pub signals : OptionRow OptionName
signals = record { name = option.Signals; word = codes "--signals"; value = Some Signals; part = 2 }

abbrev pub trace : OptionRow OptionName
trace = record { name = option.Trace; word = codes "--trace"; value = Some (OneOf (codes "full") (codes "last" ∷ [])); part = 4 }

-- those of every run
abbrev pub common : List (OptionRow OptionName)
common = limit ∷ procs ∷ signals ∷ trace ∷ []

abbrev pub schedule : OptionRow OptionName
schedule = record { name = option.Schedule; word = codes "--schedule"; value = Some Turns; part = 3 }

abbrev pub mix : OptionRow OptionName
mix = record { name = option.Mix; word = codes "--mix"; value = Some (Number 0 18446744073709551615); part = 3 }

-- the most workers of a threaded run
abbrev pub most_workers : ℕ
most_workers = 16

abbrev pub workers : OptionRow OptionName
workers = record { name = option.Workers; word = codes "--workers"; value = Some (Number 1 most_workers); part = 5 }

-- which turns a run has: one of them is given
abbrev pub plans : List (OptionRow OptionName)
plans = schedule ∷ mix ∷ []

-- the runtime is assembled behind the text
abbrev pub runtime : OptionRow OptionName
runtime = record { name = option.Runtime; word = codes "--runtime"; value = None; part = 0 }

-- ---- the commands

abbrev pub plain_row : CommandName → (word : List ℕ) → List (OptionRow OptionName) → CommandRow CommandName OptionName
plain_row name word options = record { name = name; word = word; operands = []; options = options; needs = [] }

abbrev pub replay : CommandRow CommandName OptionName
replay = record { name = name.Replay; word = codes "replay"; operands = []; options = common ++ plans; needs = 3 ∷ [] }

-- the most swaps of the bench
abbrev pub most_swaps : ℕ
most_swaps = 1000

abbrev pub bench : CommandRow CommandName OptionName
bench = record { name = name.Bench; word = codes "bench"; operands = Number 1 most_swaps ∷ []; options = []; needs = [] }

abbrev pub smp_word : List ℕ
smp_word = codes "smp"

abbrev pub smp : CommandRow CommandName OptionName
smp = plain_row name.Smp smp_word (common ++ workers ∷ [])

abbrev pub commands : List (CommandRow CommandName OptionName)
commands =
    plain_row name.Run (codes "run") common ∷ replay ∷ plain_row name.Dis (codes "dis") []
    ∷ plain_row name.Asm (codes "asm") (runtime ∷ []) ∷ plain_row name.Check (codes "check") [] ∷ bench ∷ smp ∷ []

-- ---- what they set

-- the settings where no option is given
abbrev pub default_settings : SettingsData
default_settings = record { limit = most_records; procs = 4; signals = []; style = style.Full }

-- what is set where no option is given
abbrev pub defaults : Choices
defaults = record { settings = default_settings; plan = plan.Schedule []; runtime = false; workers = 4 }

abbrev pub with_limit : SettingsData → (value : List ℕ) → SettingsData
with_limit s value = record s { limit = unwrap_or (number_within 1 most_records value) s.limit }

abbrev pub with_procs : SettingsData → (value : List ℕ) → SettingsData
with_procs s value = record s { procs = unwrap_or (number_within 1 8 value) s.procs }

abbrev pub with_signals : SettingsData → (value : List ℕ) → SettingsData
with_signals s value = record s { signals = unwrap_or (signals_of value) s.signals }

-- the style that a text names
abbrev pub style_of : (value : List ℕ) → Option Style
style_of value = if bytes_eq value (codes "full") then Some style.Full else if bytes_eq value (codes "last") then Some style.Last else None

abbrev pub with_style : SettingsData → (value : List ℕ) → SettingsData
with_style s value = record s { style = unwrap_or (style_of value) s.style }

abbrev pub with_schedule : Plan → (value : List ℕ) → Plan
with_schedule p value = unwrap_or (option_map (λ turns. plan.Schedule turns) (schedule_of value)) p

abbrev pub with_mix : Plan → (value : List ℕ) → Plan
with_mix p value = unwrap_or (option_map (λ number. plan.Mix number) (number_within 0 (2 ^ 64 - 1) value)) p

abbrev pub with_workers : (workers : ℕ) → (value : List ℕ) → ℕ
with_workers workers value = unwrap_or (number_within 1 most_workers value) workers

-- an option sets what it is for to what its value means
abbrev pub with_option : Choices → OptionName → (value : List ℕ) → Choices
with_option c option.Limit value = record c { settings = with_limit c.settings value }
with_option c option.Procs value = record c { settings = with_procs c.settings value }
with_option c option.Signals value = record c { settings = with_signals c.settings value }
with_option c option.Trace value = record c { settings = with_style c.settings value }
with_option c option.Runtime value = record c { runtime = true }
with_option c option.Schedule value = record c { plan = with_schedule c.plan value }
with_option c option.Mix value = record c { plan = with_mix c.plan value }
with_option c option.Workers value = record c { workers = with_workers c.workers value }

abbrev pub with_given : Choices → Given OptionName → Choices
with_given c g = with_option c g.option.name g.value

abbrev pub with_any : Choices → Option (Given OptionName) → Choices
with_any c None = c
with_any c (Some g) = with_given c g

abbrev pub choices_of : List (Given OptionName) → Choices
choices_of given = fold with_given defaults given

-- ---- what they mean

-- the number of swaps that the first of these words is
abbrev pub swaps_of : (operands : List (List ℕ)) → ℕ
swaps_of [] = 0
swaps_of (word ∷ words) = unwrap_or (number_within 1 most_swaps word) 0

-- the command of this name with these words without a name, and with what its options set
abbrev pub command_of : CommandName → (operands : List (List ℕ)) → Choices → Command
command_of name.Run operands choices = command.Run choices.settings
command_of name.Replay operands choices = command.Replay choices.settings choices.plan
command_of name.Dis operands choices = command.Dis
command_of name.Asm operands choices = command.Asm choices.runtime
command_of name.Check operands choices = command.Check
command_of name.Bench operands choices = command.Bench (swaps_of operands)
command_of name.Smp operands choices = command.Smp choices.settings choices.workers

-- the words, each as its bytes, are this command
pub record Means (words : List (List ℕ)) (command : Command) : Type 0 where
  pub row : CommandRow CommandName OptionName
  pub among : IsAmong row commands
  pub operands : List (List ℕ)
  pub given : List (Given OptionName)
  pub line : IsLine row operands given words
  pub is : command ≡ command_of row.name operands (choices_of given)

-- the words are some command
abbrev pub IsCommand : List (List ℕ) → Type 0
IsCommand words = (command : Command) × Means words command

-- a bench has a number of swaps that it may have, and a threaded run a number of workers
abbrev pub HasNumber : Command → Type 0
HasNumber (command.Bench n) = (1 ≤ n) × (n ≤ most_swaps)
HasNumber (command.Smp _ workers) = (1 ≤ workers) × (workers ≤ most_workers)
HasNumber (command.Run _) = Unit {0}
HasNumber (command.Replay _ _) = Unit {0}
HasNumber command.Dis = Unit {0}
HasNumber (command.Asm _) = Unit {0}
HasNumber command.Check = Unit {0}

-- ---- the two calls that serve commands: `smp` serves threaded runs, and `plain` all others

abbrev pub is_threaded : Command → Bool
is_threaded (command.Smp _ _) = true
is_threaded (command.Run _) = false
is_threaded (command.Replay _ _) = false
is_threaded command.Dis = false
is_threaded (command.Asm _) = false
is_threaded command.Check = false
is_threaded (command.Bench _) = false

-- the first word is `smp`
abbrev pub begins_smp : List (List ℕ) → Bool
begins_smp [] = false
begins_smp (word ∷ words) = bytes_eq word smp_word

-- the words are this command, and it is no threaded run
pub record MeansPlain (words : List (List ℕ)) (command : Command) : Type 0 where
  pub means : Means words command
  pub plain : is_threaded command ≡ false

abbrev pub IsPlain : List (List ℕ) → Type 0
IsPlain words = (command : Command) × MeansPlain words command

-- the words are a threaded run with these settings and so many workers
abbrev pub MeansSmp : List (List ℕ) → SettingsData → (workers : ℕ) → Type 0
MeansSmp words settings workers = Means words (command.Smp settings workers)

abbrev pub IsSmp : List (List ℕ) → Type 0
IsSmp words = (settings : SettingsData) × (workers : ℕ) × MeansSmp words settings workers
