-- the regions so far are in the table
use Rattle.std.proofs.Common.{◌≡◌, length}
use Rattle.cet_book.specs.Pages.{IsTable}
use Rattle.cet_book.proofs.pages.fill_table.Given as goal

abbrev pub invariant-loop-at : goal.invariant-loop-at
invariant-loop-at l = record {
  size : length l.table ≡ 1024;
  table : IsTable l.regions l.table l.at;
}
