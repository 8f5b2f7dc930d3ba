use Rattle.std.proofs.lemmas.List.{nil_from_length}
use Rattle.cet_cli.specs.Table.{command_view}
use Rattle.cet_cli.proofs.CommandWords.{faulty_first, faulty_none, found_row}
use Rattle.cet_cli.proofs.CallWords.{number_read}
use Rattle.cet_cli.proofs.words.read_words.Goals as goal

pub returns-in_default-clause-means : goal.returns-in_default-clause-means
returns-in_default-clause-means c = rw (nil_from_length c.args.words.now c.in_default.ensures.cases) faulty_none

pub returns-in_default-find_command-clause-means : goal.returns-in_default-find_command-clause-means
returns-in_default-find_command-clause-means c = rw (c.in-Some.ensures.cases.0, ← c.as_str.ensures.value) (faulty_first _ _ c.in_default-find_command.ensures)

pub read_line-requires : goal.read_line-requires
read_line-requires c = (found_row c.as_str.result.now (command_view c.in-Some-find_command.row) c.in-Some-find_command.ensures).0

pub returns-clause-means : goal.returns-clause-means
returns-clause-means c =
    let found = found_row c.as_str.result.now (command_view c.in-Some-find_command.row) c.in-Some-find_command.ensures in
    rw (c.in-Some.ensures.cases.0, ← c.as_str.ensures.value, ← found.1) c.read_line.ensures

pub returns-clause-number : goal.returns-clause-number
returns-clause-number c = number_read _ c.read_line.result c.read_line.ensures
