use Rattle.std.proofs.Common.{◌≡◌, ◌∙◌, sym, ap, refl, true, false, Some, ◌<◌, length, arith}
use Rattle.std.specs.Prelude.{nat_lt}
use Rattle.std.proofs.lemmas.Bool.Decides.{nat_tests}
use Rattle.cet_book.specs.Book.{acquired}
use Rattle.cet_book.specs.Events.{book_of}
use Rattle.cet_book.proofs.EventSteps.{with_none, with_some, acquired_step, takeable, few_regions, no_memory}
use Rattle.cet_book.proofs.Latest.{acquired_latest}
use Rattle.cet_book.proofs.steps.acquired.Goals as goal

pub returns-then-at-stacks-clause-applied : goal.returns-then-at-stacks-clause-applied
returns-then-at-stacks-clause-applied c = λ g. (
  with_none c.args.thread c.current_of-at.result c.args.stacks.now g
      (λ m r. acquired c.args.thread c.args.addr m (book_of c.args.stacks.now g)) c.current_of-at.ensures c.if-at-stacks.true,
  refl,
)

pub returns-then-taken-stacks-clause-applied : goal.returns-then-taken-stacks-clause-applied
returns-then-taken-stacks-clause-applied c =
    let none : nat_lt c.parked_at-taken.result (length c.args.stacks.now) ≡ false = (let t = c.if-taken-stacks.true in grind (arith, nat_tests)) in
    λ g. (
      with_some c.args.thread c.current_of-at.result c.args.stacks.now g (λ m r. acquired c.args.thread c.args.addr m (book_of c.args.stacks.now g)) c.current_of-at.ensures c.if-at-stacks.false ∙
          acquired_step c.args.thread c.args.addr c.current_of-at.result c.parked_at-taken.result c.args.stacks.now g false c.parked_at-taken.ensures none,
      refl,
    )

pub take-requires-clause-few : goal.take-requires-clause-few
take-requires-clause-few c = few_regions c.args.stacks.now c.requires.0 c.requires.1.book

pub take-requires-clause-apart : goal.take-requires-clause-apart
take-requires-clause-apart c = (takeable c.args.thread c.args.addr c.current_of-at.result c.parked_at-taken.result c.args.stacks.now c.requires.0 c.requires.1.book c.current_of-at.ensures
    c.if-at-stacks.false c.parked_at-taken.ensures c.if-taken-stacks.false).apart

pub take-requires-clause-room : goal.take-requires-clause-room
take-requires-clause-room c = (takeable c.args.thread c.args.addr c.current_of-at.result c.parked_at-taken.result c.args.stacks.now c.requires.0 c.requires.1.book c.current_of-at.ensures
    c.if-at-stacks.false c.parked_at-taken.ensures c.if-taken-stacks.false).room

pub returns-in_err-take-clause-applied : goal.returns-in_err-take-clause-applied
returns-in_err-take-clause-applied c =
    let some : nat_lt c.parked_at-taken.result (length c.args.stacks.now) ≡ true = (let t = c.if-taken-stacks.false in grind (arith, nat_tests)) in
    λ g. no_memory c.from_residual.result (book_of c.args.stacks.now g) _ _ _ c.from_residual.ensures.1 (ap (λ l. book_of l g) c.in_err-take.ensures.err)
    (with_some c.args.thread c.current_of-at.result c.args.stacks.now g (λ m r. acquired c.args.thread c.args.addr m (book_of c.args.stacks.now g)) c.current_of-at.ensures c.if-at-stacks.false ∙
    acquired_step c.args.thread c.args.addr c.current_of-at.result c.parked_at-taken.result c.args.stacks.now g true c.parked_at-taken.ensures some)

pub returns-clause-applied : goal.returns-clause-applied
returns-clause-applied c =
    let some : nat_lt c.parked_at-taken.result (length c.args.stacks.now) ≡ true = (let t = c.if-taken-stacks.false in grind (arith, nat_tests)) in
    λ g. with_some c.args.thread c.current_of-at.result c.args.stacks.now g (λ m r. acquired c.args.thread c.args.addr m (book_of c.args.stacks.now g)) c.current_of-at.ensures c.if-at-stacks.false ∙
    acquired_step c.args.thread c.args.addr c.current_of-at.result c.parked_at-taken.result c.args.stacks.now g true c.parked_at-taken.ensures some ∙ ap (λ l. Some (book_of l g)) (sym c.in_ok-take.ensures.ok)

pub overflow_cast-latest : goal.overflow_cast-latest
overflow_cast-latest c =
    let few = few_regions c.args.stacks.now c.requires.0 c.requires.1.book in
    let inside = c.if-taken-stacks.false in
    omega arith

pub returns-clause-latest : goal.returns-clause-latest
returns-clause-latest c =
    let inside : c.args.thread < length c.args.latest.now = (let f = c.ranges.thread.fits in let l = c.told-latest in omega arith) in
    acquired_latest c.args.thread c.args.addr c.parked_at-taken.result (book_of c.args.stacks.now c.requires.0) (book_of c.take.new.stacks c.requires.0) c.args.latest.now
    c.requires.1.book c.parked_at-taken.ensures inside (returns-clause-applied c c.requires.0) c.requires.1.list
