-- the pages so far are of the region, and all others as they were
use Rattle.std.proofs.Common.{◌≡◌, ℕ, ◌<◌, ◌≤◌, ◌⊎◌, length, get_or}
use Rattle.cet_book.proofs.pages.put_pages.Given as goal

abbrev pub invariant-loop-page : goal.invariant-loop-page
invariant-loop-page l = record {
  size : length l.table ≡ length l.initial.table;
  here : (page none : ℕ) → l.first ≤ page → page < l.page → get_or l.table page none ≡ l.at;
  others : (page none : ℕ) → (page < l.first) ⊎ (l.page ≤ page) → get_or l.table page none ≡ get_or l.initial.table page none;
}
