use Rattle.std.proofs.Common.{◌∙◌, sym, ap, refl, true, false, Some}
use Rattle.cet_book.specs.Book.{returned}
use Rattle.cet_book.specs.Events.{book_of}
use Rattle.cet_book.proofs.EventSteps.{with_none, with_some, returned_step, no_self}
use Rattle.cet_book.proofs.steps.returned.Goals as goal

pub returns-then-at-stacks : goal.returns-then-at-stacks
returns-then-at-stacks c = λ g. (with_none c.args.thread c.current_of-at.result c.args.stacks.now g (λ m r. returned m r.entries (book_of c.args.stacks.now g)) c.current_of-at.ensures c.if-at-stacks.true, refl)

pub returns-then-not-can_return : goal.returns-then-not-can_return
returns-then-not-can_return c = λ g. (
  with_some c.args.thread c.current_of-at.result c.args.stacks.now g (λ m r. returned m r.entries (book_of c.args.stacks.now g)) c.current_of-at.ensures c.if-at-stacks.false ∙
      returned_step c.current_of-at.result c.args.stacks.now g _ false refl (no_self c.args.thread c.current_of-at.result c.args.stacks.now c.requires.0 c.requires.1.book c.current_of-at.ensures
      c.if-at-stacks.false) (rw c.newest.ensures at (sym c.can_return.ensures ∙ c.if-not-can_return.true)),
  refl,
)

pub returns : goal.returns
returns c = λ g. with_some c.args.thread c.current_of-at.result c.args.stacks.now g (λ m r. returned m r.entries (book_of c.args.stacks.now g)) c.current_of-at.ensures c.if-at-stacks.false ∙
    returned_step c.current_of-at.result c.args.stacks.now g _ true refl (no_self c.args.thread c.current_of-at.result c.args.stacks.now c.requires.0 c.requires.1.book c.current_of-at.ensures
    c.if-at-stacks.false) (rw c.newest.ensures at (sym c.can_return.ensures ∙ c.if-not-can_return.false)) ∙ ap (λ l. Some (book_of l g)) c.remove.ensures
