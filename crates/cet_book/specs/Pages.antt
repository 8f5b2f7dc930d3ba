-- A table of the shadow area's pages that tells for an address which of some regions has it. Source: own.
use Rattle.std.specs.Prelude.{◌≡◌, ℕ, ◌-◌, ◌/◌, ◌<◌, nat_le, if◌then◌else◌, List, slice_index_or}
use Rattle.cet_words.specs.Layout.{shadow_start}
use Rattle.cet_book.specs.View.{Span, no_span, Has}

-- what the table tells of the page of an address
abbrev pub listed : List ℕ → (addr none : ℕ) → ℕ
listed table addr none = if nat_le shadow_start addr then slice_index_or table ((addr - shadow_start) / 4096) none else none

-- each address of the first `count` regions, ends included, is listed with the number of its region
abbrev pub IsTable : List Span → List ℕ → (count : ℕ) → Type 0
IsTable regions table count = (k a none : ℕ) → k < count → Has a (slice_index_or regions k no_span) → listed table a none ≡ k
