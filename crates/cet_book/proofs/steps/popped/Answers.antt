use Rattle.std.proofs.Common.{◌∙◌, sym, ap, refl, true, false, Some}
use Rattle.cet_book.specs.Book.{popped}
use Rattle.cet_book.specs.Events.{book_of}
use Rattle.cet_book.proofs.EventSteps.{with_none, with_some, popped_step}
use Rattle.cet_book.proofs.steps.popped.Goals as goal

pub returns-then-at-stacks : goal.returns-then-at-stacks
returns-then-at-stacks c = λ g. (with_none c.args.thread c.current_of-at.result c.args.stacks.now g (λ m r. popped m r.entries (book_of c.args.stacks.now g)) c.current_of-at.ensures c.if-at-stacks.true, refl)

pub returns-then-not-is_frame : goal.returns-then-not-is_frame
returns-then-not-is_frame c = λ g. (
  with_some c.args.thread c.current_of-at.result c.args.stacks.now g (λ m r. popped m r.entries (book_of c.args.stacks.now g)) c.current_of-at.ensures c.if-at-stacks.false ∙
      popped_step c.current_of-at.result c.args.stacks.now g _ false refl (rw c.newest.ensures at (sym c.is_frame.ensures ∙ c.if-not-is_frame.true)),
  refl,
)

pub returns : goal.returns
returns c = λ g. with_some c.args.thread c.current_of-at.result c.args.stacks.now g (λ m r. popped m r.entries (book_of c.args.stacks.now g)) c.current_of-at.ensures c.if-at-stacks.false ∙
    popped_step c.current_of-at.result c.args.stacks.now g _ true refl (rw c.newest.ensures at (sym c.is_frame.ensures ∙ c.if-not-is_frame.false)) ∙ ap (λ l. Some (book_of l g)) c.remove.ensures
