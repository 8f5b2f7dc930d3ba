use Rattle.std.proofs.Common.{◌∙◌, ap, ◌+◌, ◌*◌}
use Rattle.cet_book.specs.Stack.{slot_word}
use Rattle.cet_book.proofs.WordsFrom.{read_more, read_all}
use Rattle.cet_book.proofs.copies.read_words.Goals as goal

pub loop-at-preserved : goal.loop-at-preserved
loop-at-preserved g c = record {
  same = c.perform.ensures.words ∙ c.loop-at.invariant.same;
  read = rw c.in_ok-push.ensures.ok (read_more _ c.loop-at.list _ c.args.from _ c.loop-at.at c.perform.result c.loop-at-test.true (c.perform.ensures.answer ∙
      ap (λ words. slot_word words (c.args.from + 8 * c.loop-at.at)) c.loop-at.invariant.same) c.loop-at.invariant.read);
}

pub returns-clause-read : goal.returns-clause-read
returns-clause-read g c = read_all _ c.loop-at.list _ c.args.from _ c.loop-at.at c.loop-at-test.false c.loop-at.invariant.read
