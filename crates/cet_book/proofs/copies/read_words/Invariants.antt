-- what was read, with what memory still has, is the whole; memory stays
use Rattle.std.proofs.Common.{◌≡◌, ◌+◌, ◌-◌, ◌*◌, ◌/◌, ◌++◌}
use Rattle.cet_book.specs.View.{words_from}
use Rattle.cet_book.proofs.copies.read_words.Given as goal

abbrev pub invariant-loop-at : goal.invariant-loop-at
invariant-loop-at g l =
    let start = g.P.Perform.words l.fn.words in
    record {
      same : g.P.Perform.words l.words ≡ start;
      read : l.list ++ words_from start (l.from + 8 * l.at) ((l.to - l.from) / 8 - l.at) ≡ words_from start l.from ((l.to - l.from) / 8);
    }
