use Rattle.std.proofs.Common.{◌∙◌, ap, map, string_bytes, arith}
use Rattle.std.proofs.lemmas.List.{length-map}
use Rattle.cet_cli.specs.Table.{command_view, reader_view}
use Rattle.cet_cli.specs.Words.{with_any}
use Rattle.cet_cli.proofs.CommandWords.{made_is, made_more, made_stops, word_here}
use Rattle.cet_cli.proofs.words.choices_of.Goals as goal

pub returns-in-None : goal.returns-in-None
returns-in-None c =
    let here = word_here string_bytes c.args.words.now c.words.at c.index-words-at.result c.as_str-word.result.now c.words-test.true c.index-words-at.is c.as_str-word.ensures.value in
    made_stops (command_view c.args.row) (map string_bytes c.args.words.now) c.words.at c.as_str-word.result.now (reader_view c.words.reader) c.words.choices c.in_ok-choices.choices
    c.requires here c.words.invariant (c.in-None.ensures {u = tt})

pub words-preserved : goal.words-preserved
words-preserved c =
    let here = word_here string_bytes c.args.words.now c.words.at c.index-words-at.result c.as_str-word.result.now c.words-test.true c.index-words-at.is c.as_str-word.ensures.value in
    made_more (command_view c.args.row) (map string_bytes c.args.words.now) c.words.at c.as_str-word.result.now (reader_view c.words.reader) (reader_view c.in-Some.next) c.words.choices c.in_ok-choices.choices
    c.requires here c.words.invariant (c.in-Some.ensures {u = tt})
    (c.in_ok-choices.ensures {u = tt} ∙ ap (with_any c.words.choices) c.given.ensures)

pub returns : goal.returns
returns c =
    made_is (command_view c.args.row) (map string_bytes c.args.words.now) c.words.at (reader_view c.words.reader) c.words.choices (omega (arith, c.words-test.false, length-map c.args.words.now string_bytes)) c.words.invariant c.requires
