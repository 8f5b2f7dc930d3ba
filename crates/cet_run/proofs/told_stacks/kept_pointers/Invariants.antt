use Rattle.std.proofs.Common.{◌≡◌, take}
use Rattle.cet_own.specs.Told.{kept_pointers}
use Rattle.cet_run.specs.TracedThreads.{threads_of}
use Rattle.cet_run.proofs.told_stacks.kept_pointers.Given as goal

abbrev pub invariant-loop-traced : goal.invariant-loop-traced
invariant-loop-traced l = l.pointers.items ≡ kept_pointers (threads_of (take l.traced-index l.all_traced))
