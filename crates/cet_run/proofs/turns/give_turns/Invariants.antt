use Rattle.std.proofs.Common.{◌≡◌, take}
use Rattle.cet_page.specs.Machine.{machine, run}
use Rattle.cet_run.specs.TracedThreads.{AreGuests, threads_of}
use Rattle.cet_run.specs.Turns.{Reached}
use Rattle.cet_run.proofs.turns.give_turns.Given as goal

abbrev pub invariant-loop-number : goal.invariant-loop-number
invariant-loop-number g l =
    let now = machine (g.P.Perform.words l.words) (threads_of l.guests.all.items) in
    let start = machine (g.P.Perform.words l.fn.words) (threads_of l.fn.guests.all.items) in
    record {
      guests : AreGuests l.job l.guests.all.items l.guests.live.items;
      reached : Reached l.job now;
      so_far : now ≡ run l.job start (take l.number-index l.schedule);
    }
