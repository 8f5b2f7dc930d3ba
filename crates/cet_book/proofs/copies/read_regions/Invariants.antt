use Rattle.std.proofs.Common.{◌≡◌, take, map}
use Rattle.cet_book.specs.View.{region_words}
use Rattle.cet_book.proofs.copies.read_regions.Given as goal

abbrev pub invariant-loop-region : goal.invariant-loop-region
invariant-loop-region g l =
    let start = g.P.Perform.words l.fn.words in
    record {
      same : g.P.Perform.words l.words ≡ start;
      read : l.copies.items ≡ map (region_words start) (take l.region-index l.regions);
    }
