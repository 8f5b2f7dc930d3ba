use Rattle.std.proofs.Common.{◌≡◌, ◌++◌, take}
use Rattle.std.specs.List.{flat_map, enumerate_from}
use Rattle.cet_trace.specs.Report.{thread_text}
use Rattle.cet_trace.proofs.reports.put_threads.Given as goal

abbrev pub invariant-loop-number : goal.invariant-loop-number
invariant-loop-number l =
    l.out ≡ l.initial.out ++ flat_map (thread_text l.style) (enumerate_from 0 (take l.number l.threads))
