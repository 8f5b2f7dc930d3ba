use Rattle.std.proofs.Common.{◌≡◌, ◌≤◌, ◌∙◌, ◌-◌, ◌+◌, suc, sym, ap, refl, get_or, length, arith, subst}
use Rattle.cet_book.specs.Book.{raised, nowhere}
use Rattle.cet_book.specs.Facts.{links}
use Rattle.cet_book.specs.Events.{book_of}
use Rattle.cet_book.proofs.EventSteps.{with_none, with_some, raised_none, raised_next, no_self}
use Rattle.cet_book.proofs.steps.raised.Goals as goal

pub returns-then-at-stacks : goal.returns-then-at-stacks
returns-then-at-stacks c = λ g. (with_none c.args.thread c.current_of-at.result c.args.stacks.now g (λ m r. raised m c.args.count (book_of c.args.stacks.now g)) c.current_of-at.ensures c.if-at-stacks.true, refl)

pub returns-then-count_of-count : goal.returns-then-count_of-count
returns-then-count_of-count c = λ g. (
  with_some c.args.thread c.current_of-at.result c.args.stacks.now g (λ m r. raised m c.args.count (book_of c.args.stacks.now g)) c.current_of-at.ensures c.if-at-stacks.false ∙
      raised_none c.args.count c.current_of-at.result c.args.stacks.now g _ c.if-at-stacks.false refl
      (no_self c.args.thread c.current_of-at.result c.args.stacks.now c.requires.0 c.requires.1.book c.current_of-at.ensures c.if-at-stacks.false) (let a = c.count_of.ensures in
      let b = c.if-count_of-count.true in omega arith),
  refl,
)

pub loop-entry-init : goal.loop-entry-init
loop-entry-init c =
    let all : c.args.count - 0 ≡ c.args.count = omega arith in
    record {
      rest = λ g. ap (λ n. raised c.current_of-at.result n (book_of c.args.stacks.now g)) all;
      inside = c.if-at-stacks.false;
      room = (let a = c.count_of.ensures in let b = c.if-count_of-count.false in omega arith);
      other = no_self c.args.thread c.current_of-at.result c.args.stacks.now c.requires.0 c.requires.1.book c.current_of-at.ensures c.if-at-stacks.false;
    }

pub loop-entry-preserved : goal.loop-entry-preserved
loop-entry-preserved c =
    let i = c.loop-entry.invariant in
    let left : c.args.count - c.loop-entry._entry ≡ suc (c.args.count - (c.loop-entry._entry + 1)) = (let t = c.loop-entry-test.true in omega arith) in
    let next = raised_next c.current_of-at.result (c.args.count - c.loop-entry._entry) (c.args.count - (c.loop-entry._entry + 1)) c.loop-entry.stacks
    (get_or c.loop-entry.stacks c.current_of-at.result nowhere).entries refl left i.room i.other i.inside in
    let is = c.remove.ensures in
    record {
      rest = λ g. ap (λ l. raised c.current_of-at.result (c.args.count - (c.loop-entry._entry + 1)) (book_of l g)) (sym is) ∙ sym (next.rest g) ∙ i.rest g;
      inside = (let a = c.remove.auto.stacks in let b = i.inside in omega arith);
      room = subst (λ l. c.args.count - (c.loop-entry._entry + 1) ≤ length (get_or l c.current_of-at.result nowhere).entries) is next.room;
      other = subst (λ l. links c.current_of-at.result (get_or l c.current_of-at.result nowhere).entries ≡ 0) is next.other;
    }

pub returns : goal.returns
returns c = λ g.
    let none : c.args.count - c.loop-entry._entry ≡ 0 = (let t = c.loop-entry-test.false in omega arith) in
    with_some c.args.thread c.current_of-at.result c.args.stacks.now g (λ m r. raised m c.args.count (book_of c.args.stacks.now g)) c.current_of-at.ensures c.if-at-stacks.false ∙
    sym (c.loop-entry.invariant.rest g) ∙ ap (λ n. raised c.current_of-at.result n (book_of c.loop-entry.stacks g)) none
