use Rattle.std.proofs.Common.{map, string_bytes, sym, arith}
use Rattle.std.proofs.lemmas.List.{length-map}
use Rattle.cet_cli.specs.Table.{command_view, reader_view}
use Rattle.cet_cli.proofs.CommandWords.{so_far_all, so_far_means, so_far_misses, so_far_more, so_far_stops, word_here}
use Rattle.cet_cli.proofs.words.check_line.Goals as goal

pub returns-in-None : goal.returns-in-None
returns-in-None c =
    let here = word_here string_bytes c.args.words.now c.words.at c.index-words-at.result c.as_str.result.now c.words-test.true c.index-words-at.is c.as_str.ensures.value in
    so_far_stops (command_view c.args.row) (map string_bytes c.args.words.now) c.words.at c.as_str.result.now (reader_view c.words.reader) c.requires here c.words.invariant c.in-None.ensures

pub words-preserved : goal.words-preserved
words-preserved c =
    let here = word_here string_bytes c.args.words.now c.words.at c.index-words-at.result c.as_str.result.now c.words-test.true c.index-words-at.is c.as_str.ensures.value in
    so_far_more (command_view c.args.row) (map string_bytes c.args.words.now) c.words.at c.as_str.result.now (reader_view c.words.reader) (reader_view c.in-Some.next) c.requires here c.words.invariant c.in-Some.ensures

pub returns-then-may_end : goal.returns-then-may_end
returns-then-may_end c =
    let all = so_far_all (command_view c.args.row) (map string_bytes c.args.words.now) c.words.at (reader_view c.words.reader) (omega (arith, c.words-test.false, length-map c.args.words.now string_bytes)) c.words.invariant in
    so_far_means (command_view c.args.row) (map string_bytes c.args.words.now) (reader_view c.words.reader) c.requires all (sym c.if-may_end.ensures)

pub returns-else-may_end : goal.returns-else-may_end
returns-else-may_end c =
    let all = so_far_all (command_view c.args.row) (map string_bytes c.args.words.now) c.words.at (reader_view c.words.reader) (omega (arith, c.words-test.false, length-map c.args.words.now string_bytes)) c.words.invariant in
    rw (← length-map c.args.words.now string_bytes) (so_far_misses (command_view c.args.row) (map string_bytes c.args.words.now) (reader_view c.words.reader) c.requires all (sym c.if-may_end.ensures))
