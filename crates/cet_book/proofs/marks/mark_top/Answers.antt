use Rattle.std.proofs.Common.{◌≤◌, sym, length, arith}
use Rattle.cet_book.proofs.MarkSteps.{marked_past}
use Rattle.cet_book.specs.Marks.{top_marked}
use Rattle.cet_book.proofs.marks.mark_top.Goals as goal

pub returns-then-at-regions : goal.returns-then-at-regions
unfolding top_marked
returns-then-at-regions c =
    let past : length c.args.found.now.marks ≤ c.place_of-at.result = (let s = c.requires.size in let t = c.if-at-regions.true in omega arith) in
    rw (← c.place_of-at.ensures.place) (sym (marked_past c.place_of-at.result _ _ c.args.found.now past))

pub returns : goal.returns
unfolding top_marked
returns c = rw (← c.place_of-at.ensures.place) c.put_mark.ensures
