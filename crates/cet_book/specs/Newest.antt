-- What a stack's newest entry allows, and the regions once it is gone. Source: own.
use Rattle.std.specs.Prelude.{ℕ, Bool, true, false, List, slice_get, slice_set, slice_index_or, drop, Option, Some, None}
use Rattle.cet_book.specs.Book.{Region, nowhere}
use Rattle.cet_book.specs.declared.entries.Entry.{Entry}
use Rattle.cet_book.specs.declared.entries.Entry.TheVariants.{Call, Restorer, Frame, Previous, Blank}
use Rattle.cet_book.specs.declared.entries.Holder.{Holder}

-- a return may take it off
abbrev pub can_return : Option Entry → Bool
can_return None = false
can_return (Some (Call x)) = true
can_return (Some (Restorer x)) = true
can_return (Some Frame) = false
can_return (Some (Previous s)) = true
can_return (Some Blank) = true

abbrev pub is_frame : Option Entry → Bool
is_frame None = false
is_frame (Some (Call x)) = false
is_frame (Some (Restorer x)) = false
is_frame (Some Frame) = true
is_frame (Some (Previous s)) = false
is_frame (Some Blank) = false

-- the region that was left for this one, or `none`
abbrev pub leads_to : Option Entry → (none : ℕ) → ℕ
leads_to None none = none
leads_to (Some (Call x)) none = none
leads_to (Some (Restorer x)) none = none
leads_to (Some Frame) none = none
leads_to (Some (Previous s)) none = s
leads_to (Some Blank) none = none

-- the region that the entry leads to, if any, gets a holder
abbrev pub handed : Option Entry → Holder → List Region → List Region
handed None h rs = rs
handed (Some (Call x)) h rs = rs
handed (Some (Restorer x)) h rs = rs
handed (Some Frame) h rs = rs
handed (Some (Previous s)) h rs = slice_set rs s (record (slice_index_or rs s nowhere) { holder = h })
handed (Some Blank) h rs = rs

-- the newest entry of region m is gone
abbrev pub removed : ℕ → Holder → List Region → List Region
removed m h rs =
    handed (slice_get (slice_index_or rs m nowhere).entries 0) h
    (slice_set rs m (record (slice_index_or rs m nowhere) { entries = drop 1 (slice_index_or rs m nowhere).entries }))
