-- The table of all planned commands is a good one, and its reader stops as stated.
use Rattle.std.proofs.Common.{◌≡◌, true, refl, lit<}
use Rattle.cet_base.proofs.NumberLaws.{number_of-decimal}
use Rattle.cet_base.specs.Numbers.{number_of}
use Rattle.cet_cli.specs.EveryCommand.{MeansTexts, StopsByForm, StopsByValue, every_command}
use Rattle.cet_cli.specs.GoodTable.{good_table}

pub every_good : good_table every_command ≡ true
every_good = rw (number_of-decimal 0 (lit< tt), number_of-decimal 1 (lit< tt), number_of-decimal 2 (lit< tt)) refl

pub stops_by_form : StopsByForm
unfolding number_of
stops_by_form = (refl, refl, refl, refl, refl, refl, refl, refl, refl, refl, refl, refl, refl, refl, refl, refl, refl, refl, refl, refl)

pub stops_by_value : StopsByValue
unfolding number_of
stops_by_value = (refl, refl, refl, refl, refl, refl, refl, refl, refl, refl, refl, refl, refl)

pub means_texts : MeansTexts
unfolding number_of
means_texts = (refl, refl, refl, refl, refl)
