use Rattle.std.proofs.Common.{sym, ◌∙◌, arith}
use Rattle.cet_book.proofs.Lookups.{parked_is, parked_none}
use Rattle.cet_book.proofs.stacks.parked_at.Goals as goal

pub returns-then-count-eq0 : goal.returns-then-count-eq0
returns-then-count-eq0 c =
    let e = c.if-count-eq0.true in
    parked_none c.args.addr c.count_to-count.result c.args.stacks.now c.requires.0 c.requires.1 c.count_to-count.ensures.few c.count_to-count.ensures.below c.count_to-count.ensures.above
    (λ some. absurd (omega arith))

pub returns-then-not-has_token : goal.returns-then-not-has_token
returns-then-not-has_token c =
    parked_none c.args.addr c.count_to-count.result c.args.stacks.now c.requires.0 c.requires.1 c.count_to-count.ensures.few c.count_to-count.ensures.below c.count_to-count.ensures.above
    (λ some. sym c.has_token.ensures ∙ c.if-not-has_token.true)

pub returns : goal.returns
returns c =
    let e = c.if-count-eq0.false in
    parked_is c.args.addr c.count_to-count.result c.args.stacks.now c.requires.0 c.requires.1 c.count_to-count.ensures.few c.count_to-count.ensures.below c.count_to-count.ensures.above
    (omega arith) (sym c.has_token.ensures ∙ c.if-not-has_token.false)
