use Rattle.std.proofs.Common.{refl, length}
use Rattle.cet_book.specs.Marks.{currents}
use Rattle.cet_book.proofs.InView.{currents_follows, size_by}
use Rattle.cet_book.proofs.MarkSteps.{currents_more}
use Rattle.cet_book.proofs.marks.mark_current.Goals as goal

pub loop-at-init : goal.loop-at-init
unfolding currents
loop-at-init c = refl

pub loop-at-preserved : goal.loop-at-preserved
loop-at-preserved c = currents_more c.args.regions.now c.args.ssps.now c.loop-at.at c.args.found.now c.loop-at.found c.mark_top.new.found c.loop-at.invariant c.in_ok-mark_top.ensures

pub mark_top-requires-clause-size : goal.mark_top-requires-clause-size
mark_top-requires-clause-size c = size_by (length c.args.regions.now) c.loop-at.found c.loop-at.invariant (currents_follows c.args.regions.now c.args.ssps.now c.loop-at.at c.args.found.now) c.requires.size
