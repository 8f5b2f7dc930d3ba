-- The settings of a run, which its options set. Source: own.
use Rattle.std.specs.Prelude.{ℕ, ◌≤◌, List, length, All}
use Rattle.cet_words.specs.Job.{IsSignal}
use Rattle.cet_base.specs.declared.styles.Style.{Style}
use Rattle.cet_words.specs.declared.images.Signal.{Signal}

-- the most records of a thread
abbrev pub most_records : ℕ
most_records = 100000

-- at most so many records for each thread, so many processors, these signals, and how much of each thread is reported
pub record SettingsData : Type 0 where
  pub limit : ℕ
  pub procs : ℕ
  pub signals : List Signal
  pub style : Style

pub record IsSettings (settings : SettingsData) : Type 0 where
  pub limit_low : 1 ≤ settings.limit
  pub limit_high : settings.limit ≤ most_records
  pub procs_low : 1 ≤ settings.procs
  pub procs_high : settings.procs ≤ 8
  pub few : length settings.signals ≤ 256
  pub signals : All IsSignal settings.signals
