use Rattle.std.proofs.Common.{◌≡◌, drop, length}
use Rattle.std.specs.Prelude.{is_some}
use Rattle.cet_cli.specs.Values.{repeats_of}
use Rattle.cet_cli.proofs.ItemLists.{parts, turns_read}
use Rattle.cet_cli.proofs.turns.are_turns.Given as goal

abbrev pub invariant-loop-item : goal.invariant-loop-item
invariant-loop-item l = is_some (repeats_of l.text) ≡ turns_read l.room l.left (drop (length l.yielded) (parts 44 l.text))
