use Rattle.std.proofs.Common.{◌<◌, refl, sym, ◌∙◌, length, arith}
use Rattle.cet_book.specs.Marks.{parks}
use Rattle.cet_book.proofs.MarkSteps.{park_more, park_some, park_none}
use Rattle.cet_book.proofs.marks.mark_parked.Goals.{then-token-words+in_ok-put_mark, else-token-words}
use Rattle.cet_book.proofs.marks.mark_parked.Goals as goal

pub loop-at-init : goal.loop-at-init
unfolding parks
loop-at-init c = refl

pub loop-at-preserved : goal.loop-at-preserved
loop-at-preserved c =
    let inside : c.loop-at.at < length c.args.copies.now = (let s = c.requires.copies in let t = c.loop-at-test.true in omega arith) in
    let found = rw c.as_slice-words.ensures at c.token_place-token.ensures in
    let more = park_more c.args.regions.now c.args.copies.now c.loop-at.at c.args.found.now c.loop-at.found c.index-copies-at.result c.token_place-token.result c.loop-at.invariant c.index-copies-at.is inside found in
    elim c.if-token-words.branch [
      | then-token-words+in_ok-put_mark w ↦ w.found-is ∙ w.in_ok-put_mark.ensures ∙
          sym (park_some c.token_place-token.result c.index-copies-at.result c.loop-at.at c.loop-at.found (rw c.as_slice-words.ensures at w.if-token-words.true)) ∙ sym more
      | else-token-words w ↦ w.found-is ∙
          sym (park_none c.token_place-token.result c.index-copies-at.result c.loop-at.at c.loop-at.found (rw c.as_slice-words.ensures at w.if-token-words.false)) ∙ sym more
    ]
