use Rattle.std.proofs.Common.{◌≡◌, drop, length}
use Rattle.cet_cli.specs.Values.{signals_of}
use Rattle.cet_cli.proofs.ItemLists.{parts, signals_made}
use Rattle.cet_cli.proofs.signals.list_signals.Given as goal

abbrev pub invariant-loop-item : goal.invariant-loop-item
invariant-loop-item l = signals_of l.text ≡ signals_made l.signals (drop (length l.yielded) (parts 44 l.text))
