use Rattle.std.specs.Mem.Slots.{slots_items}
use Rattle.cet_shared.proofs.Copies.{Bounded}
use Rattle.cet_shared.proofs.tables.is_zero.Given as goal

abbrev pub invariant-loop-word : goal.invariant-loop-word
invariant-loop-word l = record {
  bounded : Bounded l.low l.word l.bits (slots_items l.closed.words);
}
