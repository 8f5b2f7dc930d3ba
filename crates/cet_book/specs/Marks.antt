-- The report of shadow stacks from words alone, whatever the words are: the stacks that pointers and restore tokens tell of are
-- found, then those that a previous-SSP token on a stack that was found leads to. Source: own.
use Rattle.std.proofs.Common.{zero, suc}
use Rattle.std.specs.Prelude.{ℕ, ◌+◌, ◌-◌, ◌/◌, Bool, true, false, ◌&&◌, ◌==◌, nat_lt, nat_le, if◌then◌else◌, List, [], ◌∷◌, ◌++◌, length, drop, map, replicate, slice_index_or, slice_set}
use Rattle.std.specs.List.{position_or_len}
use Rattle.cet_book.specs.View.{Span, no_span, region_words}
use Rattle.cet_book.specs.declared.regions.Shown.{Shown}
use Rattle.cet_book.specs.declared.regions.Shown.TheVariants as shown
use Rattle.cet_book.specs.declared.regions.StackReport.{StackReport}
use Rattle.cet_book.specs.declared.marks.Mark.{Mark}
use Rattle.cet_book.specs.declared.marks.Mark.TheVariants.{Unseen, InView}

-- ---- where an address leads

abbrev pub has : ℕ → Span → Bool
has addr r = nat_le r.start addr && nat_le addr r.end

-- the number of the first region that has the address, its end included, or that of all
unfoldable pub place : ℕ → List Span → ℕ
place addr regions = position_or_len (has addr) regions

-- how many of a region's words, with the one below it, come before the entry at an address
abbrev pub from_of : Span → ℕ → ℕ
from_of r addr = (addr - r.start) / 8 + 1

-- ---- one mark

abbrev pub is_unseen : Mark → Bool
is_unseen Unseen = true
is_unseen (InView s from) = false

-- a mark for each region, and the numbers of the regions that were found, in that order
pub record Found : Type 0 where
  pub marks : List Mark
  pub order : List ℕ

-- a region that has no mark gets one, and is the last that was found
unfoldable pub marked : ℕ → Shown → ℕ → Found → Found
marked at s from f =
    if nat_lt at (length f.marks) && is_unseen (slice_index_or f.marks at Unseen)
    then record { marks = slice_set f.marks at (InView s from); order = f.order ++ at ∷ [] } else f

-- the region that has the address is marked, with its newest entry there
unfoldable pub top_marked : List Span → (addr : ℕ) → Shown → Found → Found
top_marked regions addr s f = marked (place addr regions) s (from_of (slice_index_or regions (place addr regions) no_span) addr) f

-- ---- marks that come first

-- each pointer marks the region of its thread
unfoldable pub currents : List Span → List (ℕ × ℕ) → (count : ℕ) → Found → Found
currents regions ssps zero f = f
currents regions ssps (suc k) f =
    top_marked regions (slice_index_or ssps k (0, 0)).1 (shown.Current (slice_index_or ssps k (0, 0)).0) (currents regions ssps k f)

-- The place of the first restore token among words of which the first lies at start - 8, or their number. The token at p is
-- p + 9.
unfoldable pub token_from : (start : ℕ) → List ℕ → ℕ
token_from start [] = 0
token_from start (w ∷ ws) = if w == start + 1 then 0 else suc (token_from (start + 8) ws)

abbrev pub park_if : ℕ → List ℕ → ℕ → Found → Found
park_if found words k f = if nat_lt found (length words) then marked k shown.Parked (found + 1) f else f

-- a restore token marks its region
unfoldable pub park : List Span → List (List ℕ) → (at : ℕ) → Found → Found
park regions copies k f = park_if (token_from (slice_index_or regions k no_span).start (slice_index_or copies k [])) (slice_index_or copies k []) k f

unfoldable pub parks : List Span → List (List ℕ) → (count : ℕ) → Found → Found
parks regions copies zero f = f
parks regions copies (suc k) f = park regions copies k (parks regions copies k f)

-- ---- marks that words lead to

-- a previous-SSP token is the top of the region that was left, and 3
unfoldable pub followed : List Span → List ℕ → Found → Found
followed regions [] f = f
followed regions (w ∷ ws) f = followed regions ws (top_marked regions (w - 3) shown.Left f)

-- the words of a region's entries, the newest first; a region without a mark has none
abbrev pub words_by : Mark → List ℕ → List ℕ
words_by Unseen words = []
words_by (InView s from) words = drop from words

abbrev pub follow_region : List Span → List (List ℕ) → (at : ℕ) → Found → Found
follow_region regions copies at f = followed regions (words_by (slice_index_or f.marks at Unseen) (slice_index_or copies at [])) f

-- the words of the region that was found as number k, if there are so many, are followed
unfoldable pub follow : List Span → List (List ℕ) → (k : ℕ) → Found → Found
follow regions copies k f = if nat_lt k (length f.order) then follow_region regions copies (slice_index_or f.order k 0) f else f

unfoldable pub follow_all : List Span → List (List ℕ) → (count : ℕ) → Found → Found
follow_all regions copies zero f = f
follow_all regions copies (suc k) f = follow regions copies k (follow_all regions copies k f)

-- ---- the report

-- a region is found once at most, so after as many turns as there are regions each one that was found has been followed
unfoldable pub found_all : List Span → List (List ℕ) → List (ℕ × ℕ) → Found → Found
found_all regions copies ssps f =
    follow_all regions copies (length regions) (parks regions copies (length regions) (currents regions ssps (length ssps) f))

abbrev pub found_of : List Span → List (List ℕ) → List (ℕ × ℕ) → Found
found_of regions copies ssps = found_all regions copies ssps (record { marks = replicate (length regions) Unseen; order = [] })

-- a region without a mark is lost; the entries of any other begin where its mark says
abbrev pub report_by : Span → List ℕ → Mark → StackReport
report_by r words Unseen = record { region = r; shown = shown.Lost; words = [] }
report_by r words (InView s from) = record { region = r; shown = s; words = drop from words }

unfoldable pub reports : List Span → List (List ℕ) → List Mark → (count : ℕ) → List StackReport
reports regions copies ms zero = []
reports regions copies ms (suc k) =
    reports regions copies ms k ++
    report_by (slice_index_or regions k no_span) (slice_index_or copies k []) (slice_index_or ms k Unseen) ∷ []

abbrev pub report_of_copies : List Span → List (List ℕ) → List (ℕ × ℕ) → List StackReport
report_of_copies regions copies ssps = reports regions copies (found_of regions copies ssps).marks (length regions)

-- the report that words give of regions and shadow-stack pointers
abbrev pub word_report : (words : List ℕ) → List Span → List (ℕ × ℕ) → List StackReport
word_report words regions ssps = report_of_copies regions (map (region_words words) regions) ssps
