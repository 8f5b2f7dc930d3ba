use Rattle.std.proofs.Common.{arith}
use Rattle.cet_book.proofs.MarkSteps.{token_here, token_next, token_none}
use Rattle.cet_book.proofs.marks.token_place.Goals as goal

pub returns-then-word-start : goal.returns-then-word-start
returns-then-word-start c =
    let t = token_here c.args.start c.loop-at.at c.args.words.now c.loop-at-test.true c.if-word-start.true in
    let i = c.loop-at.invariant in omega arith

pub loop-at-preserved : goal.loop-at-preserved
loop-at-preserved c =
    let t = token_next c.args.start c.loop-at.at c.args.words.now c.loop-at-test.true c.if-word-start.false in
    let i = c.loop-at.invariant in omega arith

pub returns : goal.returns
returns c =
    let t = token_none c.args.start c.loop-at.at c.args.words.now c.loop-at-test.false in
    let i = c.loop-at.invariant in omega arith
