use Rattle.std.proofs.Common.{◌∙◌, sym, length, drop}
use Rattle.cet_book.proofs.InView.{size_rest}
use Rattle.cet_book.proofs.MarkSteps.{followed_more, followed_none}
use Rattle.cet_book.proofs.marks.follow_words.Goals as goal

pub loop-word-preserved : goal.loop-word-preserved
loop-word-preserved c =
    let more = followed_more c.args.regions.now c.args.words.now c.loop-word.word-index c.loop-word.found c.loop-word-test.true in
    let old = c.loop-word.invariant in
    let e = c.in_ok-mark_top.ensures in
    let f = c.saturating_sub.ensures in
    rw (e, f) (sym more ∙ old)

pub returns : goal.returns
returns c = sym (followed_none c.args.regions.now c.args.words.now c.loop-word.word-index c.loop-word.found c.loop-word-test.false) ∙ c.loop-word.invariant

pub mark_top-requires-clause-size : goal.mark_top-requires-clause-size
mark_top-requires-clause-size c = size_rest c.args.regions.now c.args.words.now (drop c.loop-word.word-index c.args.words.now) c.args.found.now c.loop-word.found (length c.args.regions.now) c.loop-word.invariant c.requires.size
