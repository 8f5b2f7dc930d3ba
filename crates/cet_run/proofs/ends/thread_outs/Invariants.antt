use Rattle.std.proofs.Common.{◌≡◌, ◌++◌, length}
use Rattle.std.specs.Prelude.{map}
use Rattle.cet_run.specs.TracedThreads.{threads_of}
use Rattle.cet_run.specs.Outcome.{thread_out}
use Rattle.cet_run.proofs.ends.thread_outs.Given as goal

abbrev pub invariant-threads : goal.invariant-threads
invariant-threads l = l.outs ++ map thread_out (threads_of l.all_traced.items) ≡ map thread_out (threads_of l.fn.all_traced.items)

abbrev pub decreases-threads : goal.decreases-threads
decreases-threads l = length l.all_traced.items
