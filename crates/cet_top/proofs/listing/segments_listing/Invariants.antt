use Rattle.std.proofs.Common.{take}
use Rattle.cet_top.specs.Listing.{IsListing}
use Rattle.cet_top.proofs.listing.segments_listing.Given as goal

abbrev pub invariant-loop-segment : goal.invariant-loop-segment
invariant-loop-segment l = IsListing (take l.segment-index l.segments) l.out
