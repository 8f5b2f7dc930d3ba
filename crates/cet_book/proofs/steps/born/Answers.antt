use Rattle.std.proofs.Common.{◌≡◌, ◌∙◌, sym, ap, refl, true, false, Some, ◌<◌, length, arith}
use Rattle.std.specs.Prelude.{nat_le}
use Rattle.std.proofs.lemmas.Bool.Decides.{nat_tests}
use Rattle.cet_book.specs.Events.{book_of}
use Rattle.cet_book.proofs.EventSteps.{born_step}
use Rattle.cet_book.proofs.Latest.{born_latest}
use Rattle.cet_book.proofs.steps.born.Goals as goal

pub returns-then-current_of-stacks-clause-applied : goal.returns-then-current_of-stacks-clause-applied
returns-then-current_of-stacks-clause-applied c =
    let none : nat_le (length c.args.stacks.now) c.current_of.result ≡ false = (let t = c.if-current_of-stacks.true in grind (arith, nat_tests)) in
    λ g. (born_step c.args.parent c.args.child c.args.region c.current_of.result c.args.stacks.now g false (sym c.is_maker.ensures ∙ c.if-not-is_maker.false) c.current_of.ensures none, refl)

pub returns-clause-applied : goal.returns-clause-applied
returns-clause-applied c =
    let some : nat_le (length c.args.stacks.now) c.current_of.result ≡ true = (let t = c.if-current_of-stacks.false in grind (arith, nat_tests)) in
    λ g. born_step c.args.parent c.args.child c.args.region c.current_of.result c.args.stacks.now g true (sym c.is_maker.ensures ∙ c.if-not-is_maker.false) c.current_of.ensures some ∙
    ap (λ l. Some (book_of l g)) (sym c.hand_over.ensures)

pub returns-clause-latest : goal.returns-clause-latest
returns-clause-latest c =
    let inside : c.args.child < length c.args.latest.now = (let f = c.ranges.child.fits in let l = c.told-latest in omega arith) in
    born_latest c.args.parent c.args.child c.args.region (book_of c.args.stacks.now c.requires.0) (book_of c.hand_over.new.stacks c.requires.0) c.args.latest.now
    c.requires.1.book inside (returns-clause-applied c c.requires.0) c.requires.1.list
