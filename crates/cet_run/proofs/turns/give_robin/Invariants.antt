use Rattle.cet_page.specs.Machine.{machine}
use Rattle.cet_run.specs.TracedThreads.{AreGuests, left_to, threads_of}
use Rattle.cet_run.specs.Turns.{Reached}
use Rattle.cet_run.proofs.Rounds.{Rounds}
use Rattle.cet_run.proofs.turns.give_robin.Given as goal

abbrev pub invariant-loop-place : goal.invariant-loop-place
invariant-loop-place g l =
    let now = machine (g.P.Perform.words l.words) (threads_of l.guests.all.items) in
    let start = machine (g.P.Perform.words l.fn.words) (threads_of l.fn.guests.all.items) in
    record {
      guests : AreGuests l.job l.guests.all.items l.guests.live.items;
      reached : Reached l.job now;
      so_far : Rounds l.job start now l.next;
    }

abbrev pub decreases-loop-place : goal.decreases-loop-place
decreases-loop-place g l = left_to l.job l.guests.all.items
