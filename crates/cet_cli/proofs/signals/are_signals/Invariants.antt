use Rattle.std.proofs.Common.{◌≡◌, drop, length}
use Rattle.std.specs.Prelude.{is_some}
use Rattle.cet_cli.specs.Values.{signal_of, signals_of}
use Rattle.cet_cli.proofs.ItemLists.{all_read, parts}
use Rattle.cet_cli.proofs.signals.are_signals.Given as goal

abbrev pub invariant-loop-item : goal.invariant-loop-item
invariant-loop-item l = is_some (signals_of l.text) ≡ all_read signal_of l.room (drop (length l.yielded) (parts 44 l.text))
