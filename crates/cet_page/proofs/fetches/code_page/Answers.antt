use Rattle.std.proofs.Common.{arith, sym}
use Rattle.cet_page.proofs.Runs.{page_holds}
use Rattle.cet_page.proofs.fetches.code_page.Goals as goal

pub returns-clause-holds : goal.returns-clause-holds
returns-clause-holds c =
    let range = c.in_ok-segment.ensures.range in
    page_holds c.args.image.now.segments c.in_ok-segment.segment.now c.args.addr c.args.count (sym c.in_ok-segment.ensures.found) c.if-not-segment.false (omega arith) range
