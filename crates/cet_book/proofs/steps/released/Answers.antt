use Rattle.std.proofs.Common.{◌∙◌, sym, ap, refl, true, false, Some, get_or, length, arith}
use Rattle.cet_book.specs.Book.{released, nowhere}
use Rattle.cet_book.specs.Events.{book_of}
use Rattle.cet_book.proofs.EventSteps.{with_none, with_some, released_none, released_step, no_self}
use Rattle.cet_book.proofs.steps.released.Goals as goal

pub returns-then-at-stacks : goal.returns-then-at-stacks
returns-then-at-stacks c = λ g. (with_none c.args.thread c.current_of-at.result c.args.stacks.now g (λ m r. released m r.entries (book_of c.args.stacks.now g)) c.current_of-at.ensures c.if-at-stacks.true, refl)

pub returns-then-left-stacks : goal.returns-then-left-stacks
returns-then-left-stacks c = λ g. (
  with_some c.args.thread c.current_of-at.result c.args.stacks.now g (λ m r. released m r.entries (book_of c.args.stacks.now g)) c.current_of-at.ensures c.if-at-stacks.false ∙
      released_none c.current_of-at.result (length c.args.stacks.now) c.args.stacks.now g (get_or c.args.stacks.now c.current_of-at.result nowhere).entries (omega arith)
      (rw (c.leads_to-left.ensures, c.newest.ensures) at c.if-left-stacks.true),
  refl,
)

pub returns-then-not-has_room : goal.returns-then-not-has_room
returns-then-not-has_room c = λ g. (
  with_some c.args.thread c.current_of-at.result c.args.stacks.now g (λ m r. released m r.entries (book_of c.args.stacks.now g)) c.current_of-at.ensures c.if-at-stacks.false ∙
      released_step c.current_of-at.result (length c.args.stacks.now) c.args.stacks.now g (get_or c.args.stacks.now c.current_of-at.result nowhere).entries false (omega arith)
      (rw (c.leads_to-left.ensures, c.newest.ensures) at c.if-left-stacks.false) refl
      (no_self c.args.thread c.current_of-at.result c.args.stacks.now c.requires.0 c.requires.1.book c.current_of-at.ensures c.if-at-stacks.false)
      (rw (c.leads_to-left.ensures, c.newest.ensures) at (sym c.has_room.ensures ∙ c.if-not-has_room.true)),
  refl,
)

pub returns : goal.returns
returns c = λ g. with_some c.args.thread c.current_of-at.result c.args.stacks.now g (λ m r. released m r.entries (book_of c.args.stacks.now g)) c.current_of-at.ensures c.if-at-stacks.false ∙
    released_step c.current_of-at.result (length c.args.stacks.now) c.args.stacks.now g (get_or c.args.stacks.now c.current_of-at.result nowhere).entries true (omega arith)
    (rw (c.leads_to-left.ensures, c.newest.ensures) at c.if-left-stacks.false) refl
    (no_self c.args.thread c.current_of-at.result c.args.stacks.now c.requires.0 c.requires.1.book c.current_of-at.ensures c.if-at-stacks.false)
    (rw (c.leads_to-left.ensures, c.newest.ensures) at (sym c.has_room.ensures ∙ c.if-not-has_room.false)) ∙ ap (λ l. Some (book_of l g)) c.remove.ensures
