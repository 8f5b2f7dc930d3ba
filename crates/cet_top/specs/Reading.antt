-- What all reads of a command do to a source. Source: own.
use Rattle.std.specs.Prelude.{ℕ, ◌<◌, ◌≤◌, ◌≡◌, List, [], ◌++◌, length, Option, Some, None, IfSome, ⊤}
use Rattle.std.specs.Io.KnownBytes.{Consumes}
use Rattle.cet_io.specs.Stream.{Rose, RoseBy, Tally, raised}

-- the most bytes that an input may have: 8 MiB
abbrev pub most_input : ℕ
most_input = 8388608

-- the known bytes were exactly these, and none is left
abbrev pub TakesAll : Option (List ℕ) → Option (List ℕ) → List ℕ → Type 0
TakesAll None new bytes = ⊤
TakesAll (Some xs) None bytes = ⊥
TakesAll (Some xs) (Some ys) bytes = (bytes ≡ xs) × (ys ≡ [])

-- a source: the bytes left, where it tells them, its count of faults, and its tally, where it keeps one
pub record SourceState : Type 0 where
  pub left : Option (List ℕ)
  pub faults : ℕ
  pub tally : Option Tally

abbrev pub source_state : Option (List ℕ) → ℕ → Option Tally → SourceState
source_state left faults tally = record { left = left; faults = faults; tally = tally }

-- by how much the counts of a tally have risen
pub record CountsBy (bytes stops : ℕ) (before now : Tally) : Type 0 where
  pub given : RoseBy bytes before.given now.given
  pub ends : RoseBy stops before.ends now.ends

-- the same, where the source keeps a tally
abbrev pub TalliesBy : ℕ → ℕ → Option Tally → Option Tally → Type 0
TalliesBy given ends None new = ⊤
TalliesBy given ends (Some t) None = ⊥
TalliesBy given ends (Some t) (Some u) = CountsBy given ends t u

-- no read failed, where the source keeps a tally and so counts each that fails
abbrev pub NoneFailed : SourceState → SourceState → Type 0
NoneFailed src src' = IfSome src.tally (λ t. src'.faults ≡ src.faults)

-- one read failed, likewise
abbrev pub OneFailed : SourceState → SourceState → Type 0
OneFailed src src' = IfSome src.tally (λ t. src'.faults ≡ raised src.faults)

-- The source gave these bytes, at most 8,388,608, and none is left. No read failed, and one found the end.
pub record ReadToEnd (src src' : SourceState) (bytes : List ℕ) : Type 0 where
  pub all : TakesAll src.left src'.left bytes
  pub short : length bytes ≤ most_input
  pub reads : TalliesBy (length bytes) 1 src.tally src'.tally
  pub calm : NoneFailed src src'

-- The source gave these bytes, at most 8,388,608, and may have lost more to the one read that failed. No read found the end.
pub record ReadUntilFault (src src' : SourceState) : Type 0 where
  pub bytes : List ℕ
  pub lost : List ℕ
  pub taken : Consumes src.left src'.left (bytes ++ lost)
  pub short : length bytes ≤ most_input
  pub reads : TalliesBy (length bytes) 0 src.tally src'.tally
  pub once : OneFailed src src'
  pub cause : Rose src.faults src'.faults

-- The source gave these bytes, more than 8,388,608. No read failed or found the end.
pub record ReadTooMuch (src src' : SourceState) : Type 0 where
  pub bytes : List ℕ
  pub taken : Consumes src.left src'.left bytes
  pub long : most_input < length bytes
  pub reads : TalliesBy (length bytes) 0 src.tally src'.tally
  pub calm : NoneFailed src src'

-- The source gave these bytes, and no read failed; at most one found the end.
pub record ReadSome (src src' : SourceState) : Type 0 where
  pub bytes : List ℕ
  pub taken : Consumes src.left src'.left bytes
  pub ends : ℕ
  pub once : ends ≤ 1
  pub reads : TalliesBy (length bytes) ends src.tally src'.tally
  pub calm : NoneFailed src src'
