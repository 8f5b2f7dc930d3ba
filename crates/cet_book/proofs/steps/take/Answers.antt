use Rattle.cet_book.specs.declared.entries.Entry.TheVariants.{Previous}
use Rattle.cet_book.specs.declared.entries.Holder.TheVariants.{Left, Current}
use Rattle.cet_book.proofs.EventSteps.{take_is}
use Rattle.cet_book.proofs.steps.take.Goals as goal

pub returns-clause-ok : goal.returns-clause-ok
returns-clause-ok c = rw (c.hand_over-2.ensures, c.hand_over.ensures, c.in_ok-put_entry.ensures.ok)
    (take_is c.args.stacks.now c.args.at c.args.taken (Previous c.args.at) (Left c.args.taken) (Current c.args.thread) c.requires.at c.requires.taken c.requires.apart)
