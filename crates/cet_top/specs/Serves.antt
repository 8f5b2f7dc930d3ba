-- What serving a command does to a source and a sink, whatever its answers are. Source: own.
use Rattle.std.specs.Prelude.{◌≡◌, ℕ, ◌+◌, ◌<◌, ◌≤◌, ◌⊎◌, Bool, true, false, List, [], ◌∷◌, length, Option, Some, None}
use Rattle.std.specs.Io.KnownBytes.{Appends}
use Rattle.cet_io.specs.Stream.{Rose, AppendsSome, Tally}
use Rattle.cet_top.specs.Reading.{most_input, SourceState, ReadToEnd, ReadUntilFault, ReadTooMuch, ReadSome}
use Rattle.cet_top.specs.declared.status.Status.{Status}
use Rattle.cet_top.specs.declared.status.Status.TheVariants as status

-- the status is an answer to what was read, for which reading, memory and writing sufficed
abbrev pub IsAnswered : Status → Type 0
IsAnswered status.Done = Unit {0}
IsAnswered (status.Usage word) = Unit {0}
IsAnswered status.ReadFault = ⊥
IsAnswered status.WriteFault = ⊥
IsAnswered (status.Refused rule offset) = Unit {0}
IsAnswered (status.AsmRefused line rule) = Unit {0}
IsAnswered status.TooLong = ⊥
IsAnswered (status.Killed signal) = Unit {0}
IsAnswered (status.Limit thread) = Unit {0}
IsAnswered status.NoMemory = ⊥

-- a sink: the bytes written, where it tells them, and its count of faults
pub record SinkState : Type 0 where
  pub written : Option (List ℕ)
  pub faults : ℕ

abbrev pub sink_state : Option (List ℕ) → ℕ → SinkState
sink_state written faults = record { written = written; faults = faults }

-- the status and the output that bytes are answered with
abbrev pub Answering : Type 1
Answering = (bytes : List ℕ) → Status → (output : List ℕ) → Type 0

-- what is read: all that the source has, or nothing, where the command doesn't read
abbrev pub Takes : (reads : Bool) → SourceState → SourceState → (bytes : List ℕ) → Type 0
Takes true src src' bytes = ReadToEnd src src' bytes
Takes false src src' bytes = (src' ≡ src) × (bytes ≡ [])

-- the same where memory was short before the end
abbrev pub TakesSome : (reads : Bool) → SourceState → SourceState → Type 0
TakesSome true src src' = ReadSome src src'
TakesSome false src src' = src' ≡ src

-- the output was appended, and the count of faults is as it was; where there is none, the sink wasn't used
abbrev pub Wrote : SinkState → SinkState → (output : List ℕ) → Type 0
Wrote sink sink' [] = sink' ≡ sink
Wrote sink sink' (b ∷ bs) = Appends sink.written sink'.written (b ∷ bs) × (sink'.faults ≡ sink.faults)

-- what was read, and what it is answered with
pub record Read (reads : Bool) (Answer : Answering) (src src' : SourceState) (s : Status) (output : List ℕ) : Type 0 where
  pub bytes : List ℕ
  pub whole : Takes reads src src' bytes
  pub answer : Answer bytes s output

-- all of the answer was written
pub record Answered (reads : Bool) (Answer : Answering) (src src' : SourceState) (sink sink' : SinkState) (s : Status) : Type 0 where
  pub output : List ℕ
  pub read : Read reads Answer src src' s output
  pub written : Wrote sink sink' output

-- there was something to write, a first part of it was written, and the sink's count of faults rose
pub record Cut (reads : Bool) (Answer : Answering) (src src' : SourceState) (sink sink' : SinkState) : Type 0 where
  pub status : Status
  pub output : List ℕ
  pub read : Read reads Answer src src' status output
  pub some : 0 < length output
  pub written : AppendsSome sink.written sink'.written output
  pub cause : Rose sink.faults sink'.faults

-- Each status of a command that is served comes with its cause. Nothing is written before all was read and answered, and where
-- there is nothing to write the sink stays as it was. Unless memory is short, what ends the reads is the first of these: the
-- end, a read that fails, the read that passes 8,388,608 bytes.
pub record Serves (reads : Bool) (Answer : Answering) (src src' : SourceState) (sink sink' : SinkState) (s : Status) : Type 0 where
  pub answered : IsAnswered s → Answered reads Answer src src' sink sink' s
  pub write_fault : s ≡ status.WriteFault → Cut reads Answer src src' sink sink'
  pub read_fault : s ≡ status.ReadFault → (reads ≡ true) × ReadUntilFault src src' × (sink' ≡ sink)
  pub too_long : s ≡ status.TooLong → (reads ≡ true) × ReadTooMuch src src' × (sink' ≡ sink)
  pub no_memory : s ≡ status.NoMemory → TakesSome reads src src' × (sink' ≡ sink)
  pub src_later : src.faults ≤ src'.faults
  pub sink_later : sink.faults ≤ sink'.faults

-- neither was used
pub record IsUntouched (src src' : SourceState) (sink sink' : SinkState) : Type 0 where
  pub source : src' ≡ src
  pub target : sink' ≡ sink

-- Where no count of faults rose, the whole answer is written, but for too long an input and for want of memory.
abbrev pub Completes : (reads : Bool) → Answering → (src src' : SourceState) → (sink sink' : SinkState) → Status → Type 0
Completes reads Answer src src' sink sink' s = ¬ Rose src.faults src'.faults → ¬ Rose sink.faults sink'.faults →
    (s ≡ status.NoMemory) ⊎ ((s ≡ status.TooLong) × ReadTooMuch src src') ⊎ Answered reads Answer src src' sink sink' s

-- more than 8,388,608 of the known bytes have gone
abbrev pub LostTooMuch : Option (List ℕ) → Option (List ℕ) → Type 0
LostTooMuch None new = ⊥
LostTooMuch (Some xs) None = ⊥
LostTooMuch (Some xs) (Some ys) = length ys + most_input < length xs

-- more than 8,388,608 bytes more are counted as given
abbrev pub CountsTooMuch : Option Tally → Option Tally → Type 0
CountsTooMuch None new = ⊥
CountsTooMuch (Some t) None = ⊥
CountsTooMuch (Some t) (Some u) = t.given + most_input < u.given

-- The source gave more than 8,388,608 bytes, by its count of them, or by what is left of its bytes where no fault rose; for a
-- read that fails may lose bytes that it doesn't give.
abbrev pub GaveTooMuch : SourceState → SourceState → Type 0
GaveTooMuch src src' = CountsTooMuch src.tally src'.tally ⊎ (LostTooMuch src.left src'.left × ¬ Rose src.faults src'.faults)
