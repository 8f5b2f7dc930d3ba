use Rattle.std.proofs.Common.{◌≡◌, drop, map}
use Rattle.cet_cli.specs.Reader.{find_option}
use Rattle.cet_cli.specs.Table.{option_view}
use Rattle.cet_cli.proofs.grammar.find_option.Given as goal

abbrev pub invariant-loop-row : goal.invariant-loop-row
invariant-loop-row l = find_option (map option_view l.rows) l.word ≡ find_option (map option_view (drop l.row-index l.rows)) l.word
