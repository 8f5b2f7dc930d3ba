use Rattle.cet_page.specs.Machine.{machine}
use Rattle.cet_run.specs.TracedThreads.{AreGuests, left_to, threads_of}
use Rattle.cet_run.specs.Turns.{Reached}
use Rattle.cet_run.proofs.Rounds.{Mixes}
use Rattle.cet_run.proofs.turns.give_mix.Given as goal

abbrev pub invariant-turns : goal.invariant-turns
invariant-turns g l =
    let now = machine (g.P.Perform.words l.words) (threads_of l.guests.all.items) in
    let start = machine (g.P.Perform.words l.fn.words) (threads_of l.fn.guests.all.items) in
    record {
      guests : AreGuests l.job l.guests.all.items l.guests.live.items;
      reached : Reached l.job now;
      so_far : Mixes l.job start now l.fn.seed l.number;
    }

abbrev pub decreases-turns : goal.decreases-turns
decreases-turns g l = left_to l.job l.guests.all.items
