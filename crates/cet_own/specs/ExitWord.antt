-- What the word EXIT says of how a process ends. Source: own.
use Rattle.std.specs.Prelude.{◌≡◌, ℕ, ◌+◌, ◌<◌, ◌≤◌, ◌⊎◌, slice_index}
use Rattle.cet_words.specs.Layout.{exit_word}
use Rattle.cet_page.specs.Machine.{Machine}

-- a process that has ended: by exit_group with this status, or by a kill with this signal
pub data IsEnding (word : ℕ) : Type 0 where
  exited : (status : ℕ) → status < 256 → word ≡ 0x100 + status → IsEnding word
  killed : (signal : ℕ) → 1 ≤ signal → signal ≤ 31 → word ≡ 0x200 + signal → IsEnding word

-- it is 0 while the process runs, and also where its threads end one by one
abbrev pub IsExitWord : ℕ → Type 0
IsExitWord word = (word ≡ 0) ⊎ IsEnding word

-- the same of the word in a machine
abbrev pub EndsRight : Machine → Type 0
EndsRight m = IsExitWord (slice_index m.words exit_word)
