-- What one access answers, and the words after it. Source: own.
use Rattle.std.specs.Prelude.{ℕ, ◌+◌, ◌%◌, ◌^◌, ◌<◌, List, slice_index, slice_set, bit_or, bit_and, if◌then◌else◌, ◌==◌}
use Rattle.cet_words.specs.declared.accesses.Access.{Access}
use Rattle.cet_words.specs.declared.accesses.Access.TheVariants.{Look, Load, Store, Swap, FetchAdd, FetchOr, FetchAnd, CompareExchange}
use Rattle.cet_words.specs.Layout.{page_count, word_count, entry_word}

-- the page or the word is one of the machine's
abbrev pub InRange : Access → Type 0
InRange (Look page) = page < page_count
InRange (Load word) = word < word_count
InRange (Store word value) = word < word_count
InRange (Swap word value) = word < word_count
InRange (FetchAdd word value) = word < word_count
InRange (FetchOr word value) = word < word_count
InRange (FetchAnd word value) = word < word_count
InRange (CompareExchange word expected value) = word < word_count

-- the word before an access, and 0 for a store
abbrev pub answer : List ℕ → Access → ℕ
answer words (Look page) = slice_index words (entry_word page)
answer words (Load word) = slice_index words word
answer words (Store word value) = 0
answer words (Swap word value) = slice_index words word
answer words (FetchAdd word value) = slice_index words word
answer words (FetchOr word value) = slice_index words word
answer words (FetchAnd word value) = slice_index words word
answer words (CompareExchange word expected value) = slice_index words word

-- the words after an access
abbrev pub after : List ℕ → Access → List ℕ
after words (Look page) = words
after words (Load word) = words
after words (Store word value) = slice_set words word value
after words (Swap word value) = slice_set words word value
after words (FetchAdd word value) = slice_set words word ((slice_index words word + value) % 2 ^ 64)
after words (FetchOr word value) = slice_set words word (bit_or (slice_index words word) value)
after words (FetchAnd word value) = slice_set words word (bit_and (slice_index words word) value)
after words (CompareExchange word expected value) =
    if slice_index words word == expected then slice_set words word value else words
