use Rattle.std.proofs.Common.{◌∙◌, sym, ap, refl, true, false, Some}
use Rattle.cet_book.specs.Book.{pushed}
use Rattle.cet_book.specs.Events.{book_of}
use Rattle.cet_book.proofs.EventSteps.{with_none, pushed_step, no_memory}
use Rattle.cet_book.proofs.steps.pushed.Goals as goal

pub returns-then-at-stacks : goal.returns-then-at-stacks
returns-then-at-stacks c = λ g. (with_none c.args.thread c.current_of-at.result c.args.stacks.now g (λ m r. pushed c.args.restorer m r (book_of c.args.stacks.now g)) c.current_of-at.ensures c.if-at-stacks.true, refl)

pub returns-then-not-has_room : goal.returns-then-not-has_room
returns-then-not-has_room c = λ g. (pushed_step c.args.thread c.args.restorer c.current_of-at.result c.args.stacks.now g false c.current_of-at.ensures c.if-at-stacks.false (sym c.has_room.ensures ∙ c.if-not-has_room.true), refl)

pub returns-in_err-put_two : goal.returns-in_err-put_two
returns-in_err-put_two c = λ g.
    no_memory c.from_residual.result (book_of c.args.stacks.now g) _ _ _ c.from_residual.ensures.1 (ap (λ l. book_of l g) c.in_err-put_two.ensures.err)
    (pushed_step c.args.thread c.args.restorer c.current_of-at.result c.args.stacks.now g true c.current_of-at.ensures c.if-at-stacks.false (sym c.has_room.ensures ∙ c.if-not-has_room.false))

pub returns : goal.returns
returns c = λ g.
    pushed_step c.args.thread c.args.restorer c.current_of-at.result c.args.stacks.now g true c.current_of-at.ensures c.if-at-stacks.false (sym c.has_room.ensures ∙ c.if-not-has_room.false) ∙
    ap (λ l. Some (book_of l g)) (sym c.in_ok-put_two.ensures.ok)
