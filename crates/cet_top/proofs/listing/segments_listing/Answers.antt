use Rattle.std.proofs.Common.{◌+◌, List, [], ◌∷◌, ◌++◌, take, ◌≡◌, sym, subst, ap, ◌∙◌}
use Rattle.std.proofs.lemmas.List.{take_more}
use Rattle.cet_words.specs.declared.images.Segment.{Segment}
use Rattle.cet_top.specs.Listing.{IsListing}
use Rattle.cet_top.proofs.Listed.{listing_more}
use Rattle.cet_top.proofs.listing.segments_listing.Goals as goal

pub loop-segment-preserved : goal.loop-segment-preserved
loop-segment-preserved c =
    let segments = c.args.segments.now in
    let at = c.loop-segment.segment-index in
    let here = c.segment-item.result in
    let (text, lists, out) = c.in_ok-put_segment.ensures in
    let front : take (at + 1) segments ≡ take at segments ++ here ∷ [] =
    take_more segments at here c.loop-segment-test.true ∙ ap (λ (s : Segment). take at segments ++ s ∷ []) (sym c.segment-item.is) in
    subst (IsListing (take (at + 1) segments)) (sym out)
    (subst (λ (ss : List Segment). IsListing ss (c.loop-segment.out ++ text)) (sym front)
    (listing_more (take at segments) here c.loop-segment.out text c.loop-segment.invariant lists))
