use Rattle.std.proofs.Common.{◌∙◌, sym, ap, refl, Some}
use Rattle.cet_book.specs.Book.{ended}
use Rattle.cet_book.specs.Events.{book_of}
use Rattle.cet_book.proofs.EventSteps.{with_none, with_some}
use Rattle.cet_book.proofs.steps.ended.Goals as goal

pub returns-then-at-stacks : goal.returns-then-at-stacks
returns-then-at-stacks c = λ g. (with_none c.args.thread c.current_of-at.result c.args.stacks.now g (λ m r. ended m r (book_of c.args.stacks.now g)) c.current_of-at.ensures c.if-at-stacks.true, refl)

pub returns : goal.returns
returns c = λ g.
    with_some c.args.thread c.current_of-at.result c.args.stacks.now g (λ m r. ended m r (book_of c.args.stacks.now g)) c.current_of-at.ensures c.if-at-stacks.false ∙
    ap (λ l. Some (book_of l g)) (sym c.hand_over.ensures)
