use Rattle.std.proofs.Common.{◌*◌}
use Rattle.std.specs.Prelude.{min}
use Rattle.std.specs.Mem.Slots.{slots_items}
use Rattle.cet_words.specs.Layout.{word_count}
use Rattle.cet_shared.proofs.Copies.{Stored}
use Rattle.cet_shared.proofs.tables.copy_words.Given as goal

abbrev pub invariant-loop-part : goal.invariant-loop-part
invariant-loop-part l = record {
  stored : Stored 0 (min (512 * l.part) word_count) (slots_items l.closed.words) l.initial.into l.into;
}
