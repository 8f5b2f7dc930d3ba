-- What a source over a reader of std counts. Source: own.
use Rattle.std.specs.Prelude.{ℕ}
use Rattle.cet_io.specs.Stream.{Tally}

pub record StdSourceState : Type 0 where
  pub faults : ℕ
  pub tally : Tally
