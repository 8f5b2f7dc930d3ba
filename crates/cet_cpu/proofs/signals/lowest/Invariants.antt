use Rattle.std.proofs.Common.{◌≡◌, ◌-◌}
use Rattle.cet_page.specs.Posting.{lowest}
use Rattle.cet_cpu.proofs.signals.lowest.Given as goal

abbrev pub invariant-loop-signal : goal.invariant-loop-signal
invariant-loop-signal l = lowest l.set 1 31 ≡ lowest l.set l.signal (32 - l.signal)
