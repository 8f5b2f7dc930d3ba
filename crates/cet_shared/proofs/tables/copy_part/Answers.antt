use Rattle.std.proofs.Common.{◌+◌, sym, subst, arith}
use Rattle.std.specs.Mem.Slots.{slots_items}
use Rattle.cet_shared.proofs.Copies.{Stored, stored_more, stored_none}
use Rattle.cet_shared.proofs.tables.copy_part.Goals as goal

pub loop-word-init : goal.loop-word-init
loop-word-init c = record { stored = stored_none c.args.low (slots_items c.args.closed.now.words) c.args.into.now c.requires.all }

pub loop-word-preserved : goal.loop-word-preserved
loop-word-preserved c =
    let l = c.loop-word in
    let words = slots_items c.args.closed.now.words in
    record {
      stored = subst (Stored c.args.low (l.word + 1) words c.args.into.now) (sym c.put.ensures)
          (stored_more c.args.low l.word c.word.result words c.args.into.now l.into (omega arith) (omega arith) c.word.ensures l.invariant.stored);
    }
