use Rattle.std.proofs.Common.{None, Some, ◌∙◌, sym}
use Rattle.cet_cli.proofs.ItemLists.{missing, no_star, one_star, seen_as, there, two_stars}
use Rattle.cet_cli.proofs.turns.repeat_of.Goals as goal

pub returns-in_default : goal.returns-in_default
returns-in_default c =
    c.one_turn.ensures ∙ (rw c.parted.ensures.front (no_star c.args.item.now (seen_as _ _ None _ c.parted.ensures.back c.in_default.is)))

pub returns-then-is_some : goal.returns-then-is_some
returns-then-is_some c =
    let more = there _ _ _ c.parted-2.ensures.back (sym (c.if-is_some.ensures {u = tt})) in
    sym (two_stars c.args.item.now c.in-Some.turns.now more.0 (seen_as _ _ (Some c.in-Some.turns) _ c.parted.ensures.back c.in-Some.is) more.1)

pub returns : goal.returns
returns c =
    c.turns_of_one.ensures ∙ (rw c.parted.ensures.front
    (one_star c.args.item.now c.in-Some.turns.now (seen_as _ _ (Some c.in-Some.turns) _ c.parted.ensures.back c.in-Some.is)
    (missing _ _ _ c.parted-2.ensures.back (sym (c.if-is_some.ensures {u = tt})))))
