use Rattle.std.proofs.Common.{take, map, string_bytes}
use Rattle.cet_cli.specs.Table.{command_view, reader_view}
use Rattle.cet_cli.proofs.CommandWords.{Made}
use Rattle.cet_cli.proofs.words.choices_of.Given as goal

abbrev pub invariant-words : goal.invariant-words
invariant-words l = Made (command_view l.fn.row) (take l.at (map string_bytes l.words)) (reader_view l.reader) l.choices
