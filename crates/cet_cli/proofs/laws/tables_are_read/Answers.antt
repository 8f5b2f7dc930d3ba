use Rattle.cet_cli.specs.EveryCommand.{every_command}
use Rattle.cet_cli.specs.Words.{commands}
use Rattle.cet_cli.proofs.CommandWords.{good}
use Rattle.cet_cli.proofs.EveryOption.{every_good, means_texts, stops_by_form, stops_by_value}
use Rattle.cet_cli.proofs.StopLaws.{read_by}
use Rattle.cet_cli.proofs.laws.tables_are_read.Goals as goal

pub returns-clause-any : goal.returns-clause-any
returns-clause-any c = λ table good. read_by table good

pub returns-clause-offered : goal.returns-clause-offered
returns-clause-offered c = read_by commands good

pub returns-clause-planned : goal.returns-clause-planned
returns-clause-planned c = read_by every_command every_good

pub returns-clause-by_form : goal.returns-clause-by_form
returns-clause-by_form c = stops_by_form

pub returns-clause-by_value : goal.returns-clause-by_value
returns-clause-by_value c = stops_by_value

pub returns-clause-texts : goal.returns-clause-texts
returns-clause-texts c = means_texts
