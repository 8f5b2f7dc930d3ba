use Rattle.std.proofs.Common.{◌≡◌, drop, map}
use Rattle.cet_cli.specs.Reader.{find_command}
use Rattle.cet_cli.specs.Table.{command_view}
use Rattle.cet_cli.proofs.grammar.find_row.Given as goal

abbrev pub invariant-loop-row : goal.invariant-loop-row
invariant-loop-row l = find_command (map command_view l.rows) l.word ≡ find_command (map command_view (drop l.row-index l.rows)) l.word
