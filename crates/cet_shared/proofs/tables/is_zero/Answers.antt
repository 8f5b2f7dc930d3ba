use Rattle.std.specs.Mem.Slots.{slots_items}
use Rattle.cet_shared.proofs.Copies.{bounded_more}
use Rattle.cet_shared.proofs.tables.is_zero.Goals as goal

pub loop-word-preserved : goal.loop-word-preserved
loop-word-preserved c =
    let l = c.loop-word in
    record { bounded = bounded_more c.args.low l.word l.bits c.word-bits.result (slots_items c.args.closed.now.words) c.word-bits.ensures l.invariant.bounded }
