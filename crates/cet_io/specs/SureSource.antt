-- A source in memory that never fails. Source: own.
use Rattle.std.specs.Prelude.{ℕ, List}
use Rattle.cet_io.specs.Stream.{Tally}

pub record SureSourceState : Type 0 where
  pub left : List ℕ
  -- how many bytes its reads have given, and how many reads found the end, up to 2^64 - 1
  pub given : ℕ
  pub ends : ℕ

abbrev pub tally_of : SureSourceState → Tally
tally_of s = record { given = s.given; ends = s.ends }
