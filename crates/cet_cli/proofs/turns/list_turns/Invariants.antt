use Rattle.std.proofs.Common.{◌≡◌, drop, length}
use Rattle.cet_cli.specs.Values.{schedule_of}
use Rattle.cet_cli.proofs.ItemLists.{parts, turns_made}
use Rattle.cet_cli.proofs.turns.list_turns.Given as goal

abbrev pub invariant-loop-item : goal.invariant-loop-item
invariant-loop-item l = schedule_of l.text ≡ turns_made l.turns (drop (length l.yielded) (parts 44 l.text))
