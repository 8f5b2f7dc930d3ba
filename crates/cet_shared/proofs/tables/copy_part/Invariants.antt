use Rattle.std.specs.Mem.Slots.{slots_items}
use Rattle.cet_shared.proofs.Copies.{Stored}
use Rattle.cet_shared.proofs.tables.copy_part.Given as goal

abbrev pub invariant-loop-word : goal.invariant-loop-word
invariant-loop-word l = record {
  stored : Stored l.low l.word (slots_items l.closed.words) l.initial.into l.into;
}
