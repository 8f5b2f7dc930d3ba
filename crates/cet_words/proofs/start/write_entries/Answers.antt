use Rattle.std.proofs.Common.{◌+◌, ◌-◌, ap, ◌∙◌, arith}
use Rattle.cet_words.specs.Layout.{first_kernel_word, first_entry_word}
use Rattle.cet_words.specs.Start.{start_entry}
use Rattle.cet_words.proofs.Filled.{filled_more}
use Rattle.cet_words.proofs.start.write_entries.Goals as goal

pub loop-page-preserved : goal.loop-page-preserved
loop-page-preserved c = record {
  filled = filled_more (first_entry_word - first_kernel_word) (first_entry_word - first_kernel_word + c.loop-page.page) _
      (λ w. start_entry c.args.image.now (w - (first_entry_word - first_kernel_word))) c.args.words.now.items
      c.loop-page.words.items c.set_held.new.words.items c.start_entry.result (omega arith) (omega arith)
      (c.start_entry.ensures ∙ ap (start_entry c.args.image.now) (omega arith)) c.loop-page.invariant.filled c.set_held.ensures.set;
  room = omega arith;
}
