use Rattle.std.proofs.Common.{◌≡◌, refl, ◌∙◌, ap, length, arith}
use Rattle.cet_book.specs.Marks.{parks, follow_all, found_all}
use Rattle.cet_book.proofs.InView.{currents_follows, parks_follows, all_follows, size_by}
use Rattle.cet_book.proofs.MarkSteps.{follow_more}
use Rattle.cet_book.proofs.marks.find_all.Goals as goal

pub loop-turn-init : goal.loop-turn-init
unfolding follow_all
loop-turn-init c = refl

pub follow-requires-clause-size : goal.follow-requires-clause-size
follow-requires-clause-size c =
    let n = length c.args.regions.now in
    let rs = c.args.regions.now in
    let parked = size_by n c.mark_parked.new.found c.in_ok-mark_parked.ensures (parks_follows rs c.args.copies.now n c.mark_current.new.found)
    (size_by n c.mark_current.new.found c.in_ok-mark_current.ensures (currents_follows rs c.args.ssps.now (length c.args.ssps.now) c.args.found.now) c.requires.size) in
    size_by n c.loop-turn.found c.loop-turn.invariant (all_follows rs c.args.copies.now c.loop-turn.turn c.mark_parked.new.found) parked

pub loop-turn-preserved : goal.loop-turn-preserved
loop-turn-preserved c = follow_more c.args.regions.now c.args.copies.now c.loop-turn.turn c.mark_parked.new.found c.loop-turn.found c.follow.new.found c.loop-turn.invariant c.in_ok-follow.ensures

pub returns : goal.returns
unfolding found_all
returns c =
    let end : c.loop-turn.turn ≡ length c.args.regions.now = (let x = c.loop-turn.auto.turn-end in let y = c.loop-turn-test.false in omega arith) in
    c.loop-turn.invariant ∙ ap (λ n. follow_all c.args.regions.now c.args.copies.now n c.mark_parked.new.found) end ∙
    ap (follow_all c.args.regions.now c.args.copies.now (length c.args.regions.now))
    (c.in_ok-mark_parked.ensures ∙ ap (parks c.args.regions.now c.args.copies.now (length c.args.regions.now)) c.in_ok-mark_current.ensures)
