-- What holds of a listed signal that is due. Source: own.
use Rattle.std.specs.Prelude.{ℕ, ◌<◌, ◌≤◌}
use Rattle.cet_isa.specs.declared.threads.Arch.{Arch}

-- it is a signal, and the thread has posted fewer than a job lists
pub record IsDue (arch : Arch) (signal : ℕ) : Type 0 where
  pub low : 1 ≤ signal
  pub high : signal ≤ 31
  pub few : arch.posted < 256
