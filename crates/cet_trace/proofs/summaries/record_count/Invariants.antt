use Rattle.std.proofs.Common.{◌≡◌, take}
use Rattle.cet_trace.specs.Summary.{records_of}
use Rattle.cet_trace.proofs.summaries.record_count.Given as goal

abbrev pub invariant-loop-thread : goal.invariant-loop-thread
invariant-loop-thread l = l.count ≡ records_of (take l.thread-index l.threads)
