use Rattle.cet_run.proofs.PlaceTurns.{place_going, place_inside, place_live, turned_goes, turned_stays}
use Rattle.cet_run.proofs.turns.turn_at.Goals as goal

pub turn-requires-clause-range : goal.turn-requires-clause-range
turn-requires-clause-range g c =
    place_inside c.args.guests.now.all.items c.args.guests.now.live.items c.args.place c.index-at.result.now c.requires.guests.numbers c.requires.range c.index-at.ensures

pub turn-requires-clause-going : goal.turn-requires-clause-going
turn-requires-clause-going g c =
    place_going c.args.guests.now.all.items c.args.guests.now.live.items c.args.place c.index-at.result.now c.requires.guests.numbers c.requires.range c.index-at.ensures

pub returns-then-goes_on-clause-turned : goal.returns-then-goes_on-clause-turned
returns-then-goes_on-clause-turned g c =
    turned_goes c.args.job.now _ _ c.args.place c.index-at.result.now
    (place_live c.args.guests.now.all.items c.args.guests.now.live.items c.args.place c.index-at.result.now c.requires.guests.numbers c.requires.range c.index-at.ensures)
    c.in_ok-turn.ensures.step c.in_ok-turn.ensures.turned (c.goes_on.ensures.going c.if-goes_on.true)

pub returns-else-goes_on-clause-turned : goal.returns-else-goes_on-clause-turned
returns-else-goes_on-clause-turned g c =
    turned_stays c.args.job.now _ _ c.args.place c.index-at.result.now
    (place_live c.args.guests.now.all.items c.args.guests.now.live.items c.args.place c.index-at.result.now c.requires.guests.numbers c.requires.range c.index-at.ensures)
    c.in_ok-turn.ensures.step c.in_ok-turn.ensures.turned (c.goes_on.ensures.ended c.if-goes_on.false)
