use Rattle.cet_words.proofs.Filled.{started}
use Rattle.cet_words.proofs.memory.Plain.new.Goals as goal

pub returns : goal.returns
returns c =
    started c.args.image.now c.write_image.new.words.items c.in_ok-room.field-0.items c.in_ok-room-2.field-0.items
    c.write_kernel.new.words.items c.write_image.ensures.filled c.in_ok-room.ensures.none c.in_ok-room-2.ensures.none
    c.write_kernel.ensures.filled
