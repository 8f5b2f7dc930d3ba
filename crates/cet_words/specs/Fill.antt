-- Words that are written one by one and in order. Source: own.
use Rattle.std.specs.Prelude.{◌≡◌, ℕ, ◌==◌, if◌then◌else◌, List, slice_index}
use Rattle.cet_words.specs.Layout.{within}

-- each word is the same, where a word past the end is 0
abbrev pub SameWords : (old new : List ℕ) → Type 0
SameWords old new = (w : ℕ) → slice_index new w ≡ slice_index old w

-- one word is a new one, and the others are as they were
abbrev pub WordSet : (at value : ℕ) → (old new : List ℕ) → Type 0
WordSet at value old new = (w : ℕ) → slice_index new w ≡ (if w == at then value else slice_index old w)

-- the words from low to high are new ones, and the others as they were
abbrev pub FilledFrom : (low high : ℕ) → (ℕ → ℕ) → (old new : List ℕ) → Type 0
FilledFrom low high word old new =
    (w : ℕ) → slice_index new w ≡ (if within low high w then word w else slice_index old w)
