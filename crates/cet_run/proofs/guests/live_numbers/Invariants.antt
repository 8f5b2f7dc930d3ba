use Rattle.std.proofs.Common.{◌≡◌, take}
use Rattle.cet_run.specs.Schedule.{live_from}
use Rattle.cet_run.specs.TracedThreads.{threads_of}
use Rattle.cet_run.proofs.guests.live_numbers.Given as goal

abbrev pub invariant-loop-at : goal.invariant-loop-at
invariant-loop-at l = l.live.items ≡ live_from (threads_of (take l.at l.all_traced)) 0
