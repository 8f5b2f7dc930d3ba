use Rattle.std.proofs.Common.{map, string_bytes}
use Rattle.cet_cli.specs.Table.{command_view}
use Rattle.cet_cli.proofs.CommandWords.{row_means}
use Rattle.cet_cli.proofs.words.read_line.Goals as goal

pub returns-in-Ok : goal.returns-in-Ok
returns-in-Ok c = row_means (command_view c.args.row) (map string_bytes c.args.words.now) c.in-Ok.choices c.with.result c.requires (c.in_default.ensures {u = tt}) (c.in-Ok.ensures {u = tt}) c.with.ensures
