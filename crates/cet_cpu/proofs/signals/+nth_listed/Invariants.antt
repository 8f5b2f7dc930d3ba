use Rattle.std.proofs.Common.{length}
use Rattle.cet_cpu.proofs.signals.+nth_listed.Given as goal

abbrev pub decreases-nth_listed : goal.decreases-nth_listed
decreases-nth_listed l = length l.signals.now
