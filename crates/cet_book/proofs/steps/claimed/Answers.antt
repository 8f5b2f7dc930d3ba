use Rattle.std.proofs.Common.{◌∙◌, sym, ap, refl, true, false, Some, ◌++◌, ◌+◌, ◌*◌, [], ◌∷◌}
use Rattle.cet_book.specs.Book.{Region}
use Rattle.cet_book.specs.Events.{book_of}
use Rattle.cet_book.proofs.EventSteps.{claimed_step, no_memory}
use Rattle.cet_book.proofs.steps.claimed.Goals as goal

pub returns-then-not-can_claim : goal.returns-then-not-can_claim
returns-then-not-can_claim c = λ g. (
  claimed_step c.args.thread c.args.start c.args.pages c.args.maker c.args.stacks.now.items g false c.can_claim.result
      (rw c.deref.ensures.value at (c.can_claim.ensures.test g)) c.if-not-can_claim.true,
  refl,
)

pub returns-in_err-add_stack : goal.returns-in_err-add_stack
returns-in_err-add_stack c = λ g.
    no_memory c.from_residual.result (book_of c.args.stacks.now.items g) _ _ _ c.from_residual.ensures.1 (ap (λ l. book_of l g) c.in_err-add_stack.ensures.err)
    (claimed_step c.args.thread c.args.start c.args.pages c.args.maker c.args.stacks.now.items g true c.can_claim.result (rw c.deref.ensures.value at (c.can_claim.ensures.test g)) c.if-not-can_claim.false)

pub returns : goal.returns
returns c = λ g.
    claimed_step c.args.thread c.args.start c.args.pages c.args.maker c.args.stacks.now.items g true c.can_claim.result (rw c.deref.ensures.value at (c.can_claim.ensures.test g)) c.if-not-can_claim.false ∙
    ap (λ l. Some (book_of l g)) (ap (λ (r : Region). c.args.stacks.now.items ++ r ∷ []) (sym (c.new-stack.ensures ∙
    ap (λ h. let r : Region = record { start = c.args.start; end = c.args.start + 4096 * c.args.pages; entries = []; holder = h } in r) c.holder_of-holder.ensures)) ∙
    sym c.in_ok-add_stack.ensures.ok)
