-- A source in memory, which gives a part of its bytes in each read and fails where it was told to. Source: own.
use Rattle.std.specs.Prelude.{ℕ, min, List, length, drop, Ok, Bool, ◌==◌, if◌then◌else◌}
use Rattle.std.specs.List.{list_any}
use Rattle.cet_io.specs.Stream.{Tally, counted, raised}

pub record MemSourceState : Type 0 where
  pub left : List ℕ
  pub faults : ℕ
  pub tally : Tally
  pub calls : ℕ
  -- the numbers of the calls that fail, counted from 1
  pub fails : List ℕ
  -- how many bytes it gives in one read
  pub piece : ℕ

-- it was told to fail at this call
abbrev pub breaks : MemSourceState → Bool
breaks s = list_any (λ n. n == raised s.calls) s.fails

-- how many bytes it gives to a buffer of this room
abbrev pub given : MemSourceState → ℕ → ℕ
given s room = min (min s.piece room) (length s.left)

-- the source after a call
abbrev pub after_read : MemSourceState → ℕ → MemSourceState
after_read s room =
    if breaks s
    then record s { faults = raised s.faults; calls = raised s.calls }
    else record s { left = drop (given s room) s.left; tally = counted {E = ⊥} s.tally room (Ok (given s room)); calls = raised s.calls }
