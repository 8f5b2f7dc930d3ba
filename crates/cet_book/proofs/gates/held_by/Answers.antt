use Rattle.std.proofs.Common.{◌≡◌, true, get_or, arith, sym, ◌∙◌, length, None}
use Rattle.std.proofs.lemmas.List.Sums.{position_or_len_is}
use Rattle.cet_book.specs.Book.{holds_stack}
use Rattle.cet_book.proofs.gates.held_by.Goals as goal

pub returns-then-holds : goal.returns-then-holds
returns-then-holds c =
    let here : holds_stack c.args.thread (get_or c.args.gates.now c.loop-at.at None) ≡ true = sym c.holds.ensures ∙ c.if-holds.true in
    sym (position_or_len_is (holds_stack c.args.thread) c.args.gates.now c.loop-at.at None (omega arith) c.loop-at.invariant (λ _. here))

pub returns : goal.returns
returns c =
    let end : c.loop-at.at ≡ length c.args.gates.now = (let x = c.loop-at.auto.at-end in let y = c.loop-at-test.false in omega arith) in
    sym end ∙ sym (position_or_len_is (holds_stack c.args.thread) c.args.gates.now c.loop-at.at None (omega arith) c.loop-at.invariant (λ l. absurd (omega arith)))
