use Rattle.std.proofs.Common.{None, Some, sym}
use Rattle.cet_cli.proofs.ItemLists.{missing, no_colon, one_colon, seen_as, there, three_colons, two_colons}
use Rattle.cet_cli.proofs.signals.three_parts.Goals as goal

pub returns-in_err-rest : goal.returns-in_err-rest
returns-in_err-rest c =
    rw c.from_residual.ensures (no_colon c.args.item.now (seen_as _ _ None _ c.parted.ensures.back (c.in_err-rest.was {u = tt})))

pub returns-in_err-rest-2 : goal.returns-in_err-rest-2
returns-in_err-rest-2 c =
    rw c.from_residual-in_err-rest-2.ensures (one_colon c.args.item.now c.in_ok-rest.field-0.now
    (seen_as _ _ (Some c.in_ok-rest.field-0) _ c.parted.ensures.back (c.in_ok-rest.was {u = tt}))
    (seen_as _ _ None _ c.parted-2.ensures.back (c.in_err-rest-2.was {u = tt})))

pub returns-then-is_some : goal.returns-then-is_some
returns-then-is_some c =
    let more = there _ _ _ c.parted-3.ensures.back (sym (c.if-is_some.ensures {u = tt})) in
    three_colons c.args.item.now c.in_ok-rest.field-0.now c.in_ok-rest-2.field-0.now more.0
    (seen_as _ _ (Some c.in_ok-rest.field-0) _ c.parted.ensures.back (c.in_ok-rest.was {u = tt}))
    (seen_as _ _ (Some c.in_ok-rest-2.field-0) _ c.parted-2.ensures.back (c.in_ok-rest-2.was {u = tt}))
    more.1

pub returns : goal.returns
returns c =
    rw (c.parted.ensures.front, c.parted-2.ensures.front, c.parted-3.ensures.front)
    (two_colons c.args.item.now c.in_ok-rest.field-0.now c.in_ok-rest-2.field-0.now
    (seen_as _ _ (Some c.in_ok-rest.field-0) _ c.parted.ensures.back (c.in_ok-rest.was {u = tt}))
    (seen_as _ _ (Some c.in_ok-rest-2.field-0) _ c.parted-2.ensures.back (c.in_ok-rest-2.was {u = tt}))
    (missing _ _ _ c.parted-3.ensures.back (sym (c.if-is_some.ensures {u = tt}))))
