-- The rows of the code, and what it read, as those of a grammar. Source: own.
use Rattle.std.specs.Prelude.{map, option_map}
use Rattle.cet_cli.specs.Grammar as grammar
use Rattle.cet_cli.specs.Reader as reader
use Rattle.cet_cli.specs.Values as values
use Rattle.cet_cli.specs.declared.grammar.CommandRow.{CommandRow}
use Rattle.cet_cli.specs.declared.grammar.OptionRow.{OptionRow}
use Rattle.cet_cli.specs.declared.values.Value.{Value}
use Rattle.cet_cli.specs.declared.values.Value.TheVariants as value
use Rattle.cet_cli.specs.declared.grammar.Given.{Given}
use Rattle.cet_cli.specs.declared.options.OptionName.{OptionName}
use Rattle.cet_cli.specs.declared.reader.Reader.{Reader}
use Rattle.cet_cli.specs.declared.words.CommandName.{CommandName}

abbrev pub value_view : Value → values.Value
value_view (value.Number low high) = values.Number low high
value_view (value.OneOf first others) = values.OneOf first.now (map (λ w. w.now) others.now)
value_view value.Signals = values.Signals
value_view value.Turns = values.Turns

abbrev pub option_view : OptionRow → grammar.OptionRow OptionName
option_view r = record { name = r.name; word = r.word.now; value = option_map value_view r.value; part = r.part }

abbrev pub command_view : CommandRow → grammar.CommandRow CommandName OptionName
command_view r = record { name = r.name; word = r.word.now; operands = map value_view r.operands.now; options = map option_view r.options.now; needs = r.needs.now }

abbrev pub given_view : Given → grammar.Given OptionName
given_view g = record { option = option_view g.option; value = g.value.now }

abbrev pub reader_view : Reader → reader.Reader CommandName OptionName (Unit {0})
reader_view r = record { row = command_view r.row; operands = map value_view r.operands.now; wants = option_map option_view r.wants; filled = r.filled; kept = tt }
