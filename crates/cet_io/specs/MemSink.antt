-- A sink in memory, which takes a part of each piece and fails where it was told to. Source: own.
use Rattle.std.specs.Prelude.{ℕ, ◌-◌, min, List, ◌++◌, length, take, Bool, ◌||◌, ◌&&◌, ◌==◌, nat_lt, nat_le, if◌then◌else◌}
use Rattle.std.specs.List.{list_any}
use Rattle.cet_io.specs.Stream.{raised}

pub record MemSinkState : Type 0 where
  pub written : List ℕ
  pub faults : ℕ
  pub calls : ℕ
  -- the numbers of the calls that fail, counted from 1
  pub fails : List ℕ
  -- how many bytes it takes in all, and of one piece
  pub room : ℕ
  pub piece : ℕ

-- it was told to fail at this call, or it is full and there is a byte to take
abbrev pub refuses : MemSinkState → List ℕ → Bool
refuses s piece =
    list_any (λ n. n == raised s.calls) s.fails || (nat_lt 0 (length piece) && nat_le s.room (length s.written))

-- how many bytes of a piece it takes
abbrev pub taken : MemSinkState → List ℕ → ℕ
taken s piece = min (min s.piece (length piece)) (s.room - length s.written)

-- the sink after a call
abbrev pub after_write : MemSinkState → List ℕ → MemSinkState
after_write s piece =
    if refuses s piece
    then record s { faults = raised s.faults; calls = raised s.calls }
    else record s { written = s.written ++ take (taken s piece) piece; calls = raised s.calls }
