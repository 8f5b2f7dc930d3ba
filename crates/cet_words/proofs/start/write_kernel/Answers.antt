use Rattle.cet_words.proofs.Filled.{kernel_filled}
use Rattle.cet_words.proofs.start.write_kernel.Goals as goal

pub returns-clause-filled : goal.returns-clause-filled
returns-clause-filled c =
    kernel_filled c.args.image.now c.write_kernel_pages.new.words.items c.write_entries.new.words.items
    c.write_kernel_pages.ensures.filled c.write_entries.ensures.filled
