-- What the calls of a source or a sink do to its bytes and its counts. Source: own.
use Rattle.std.specs.Prelude.{ℕ, ◌+◌, ◌-◌, ◌^◌, ◌<◌, ◌≤◌, ◌≡◌, min, Bool, ◌&&◌, ◌==◌, nat_lt, if◌then◌else◌, List, length, take, Option, Some, None, Result, Ok, Err, IfOk, OnErr, ⊤}
use Rattle.std.specs.Io.KnownBytes.{Consumes, Appends, IsAtEnd}

-- ---- counts

-- n more, in a count that stands still at its last value
abbrev pub added : ℕ → ℕ → ℕ
added count n = min (count + n) (2 ^ 64 - 1)

-- one more
abbrev pub raised : ℕ → ℕ
raised count = added count 1

-- a count has risen; one that stands at its last value counts as risen
abbrev pub Rose : ℕ → ℕ → Type 0
Rose before now = raised before ≤ now

-- a count has risen by n, but for what would pass its last value
abbrev pub RoseBy : ℕ → ℕ → ℕ → Type 0
RoseBy n before now = (added before n ≤ now) × (now ≤ before + n)

-- What has come of the reads of a source that didn't fail.
pub record Tally : Type 0 where
  -- the bytes that they gave
  pub given : ℕ
  -- those that found the end
  pub ends : ℕ

-- a read of a buffer of this room finds the end where it has room and comes to no byte
abbrev pub is_end : ℕ → ℕ → Bool
is_end room n = nat_lt 0 room && (n == 0)

-- the tally after a read of a buffer of this room
abbrev pub counted : {E : Type 0} → Tally → ℕ → Result ℕ E → Tally
counted t room (Ok n) = record { given = added t.given n; ends = if is_end room n then raised t.ends else t.ends }
counted t room (Err e) = t

-- the same, where the source keeps a tally
abbrev pub tallied : {E : Type 0} → Option Tally → ℕ → Result ℕ E → Option Tally
tallied None room result = None
tallied (Some t) room result = Some (counted t room result)

-- a count of faults after a call
abbrev pub faults_after : {T E : Type 0} → ℕ → Result T E → ℕ
faults_after faults (Ok x) = faults
faults_after faults (Err e) = raised faults

-- a source that keeps a tally counts each read that fails as one fault, and nothing else
abbrev pub CountsFaults : {T E : Type 0} → Option Tally → (before now : ℕ) → Result T E → Type 0
CountsFaults None before now result = ⊤
CountsFaults (Some t) before now result = now ≡ faults_after before result

-- ---- one call

-- the count never falls, and a call fails only where it rose
pub record HasCause {T E : Type 0} (before now : ℕ) (result : Result T E) : Type 0 where
  pub later : before ≤ now
  pub failed : OnErr result (Rose before now)

-- a call that doesn't fail leaves the count as it was
abbrev pub Steady : {T E : Type 0} → (before now : ℕ) → Result T E → Type 0
Steady before now result = IfOk result (λ x. now ≡ before)

-- at most n known bytes were taken from the front
abbrev pub TakesUpTo : ℕ → Option (List ℕ) → Option (List ℕ) → Type 0
TakesUpTo n old new = (bytes : List ℕ) × (length bytes ≤ n) × Consumes old new bytes

-- some first bytes of the piece were appended
abbrev pub AppendsSome : Option (List ℕ) → Option (List ℕ) → List ℕ → Type 0
AppendsSome old new piece = (n : ℕ) × (n ≤ length piece) × Appends old new (take n piece)

-- A read that answers n moves n bytes from the front of what is left to the front of the buffer.
pub record Reads {E : Type 0} (old new : Option (List ℕ)) (buf : List ℕ) (result : Result ℕ E) : Type 0 where
  pub within : IfOk result (λ n. n ≤ length buf)
  pub moved : IfOk result (λ n. Consumes old new (take n buf))
  -- none only at the end, or where the buffer has no room
  pub ended : IfOk result (λ n. n ≡ 0 → 0 < length buf → IsAtEnd new)
  pub failed : OnErr result (TakesUpTo (length buf) old new)

-- A write that answers n appends the first n bytes of the piece.
pub record Writes {E : Type 0} (old new : Option (List ℕ)) (piece : List ℕ) (result : Result ℕ E) : Type 0 where
  pub within : IfOk result (λ n. n ≤ length piece)
  pub appended : IfOk result (λ n. Appends old new (take n piece))
  -- it takes a byte, where there is one
  pub some : IfOk result (λ n. 0 < length piece → 0 < n)
  pub failed : OnErr result (AppendsSome old new piece)
