use Rattle.std.proofs.Common.{◌<◌, length, arith}
use Rattle.cet_book.specs.Marks.{reports}
use Rattle.cet_book.proofs.MarkSteps.{reports_more}
use Rattle.cet_book.proofs.reports.reports_of.Goals as goal

pub loop-at-init : goal.loop-at-init
unfolding reports
loop-at-init c = c.new-list.ensures

pub loop-at-preserved : goal.loop-at-preserved
loop-at-preserved c =
    let inside : c.loop-at.at < length c.args.copies.now = (let s = c.requires.copies in let t = c.loop-at-test.true in omega arith) in
    reports_more c.args.regions.now c.args.copies.now c.args.marks.now c.loop-at.at c.loop-at.list c.push.new.self c.index-copies-at.result c.in_ok-report_of.field-0
    c.loop-at.invariant c.index-copies-at.is inside c.in_ok-report_of.ensures c.in_ok-push.ensures.ok
