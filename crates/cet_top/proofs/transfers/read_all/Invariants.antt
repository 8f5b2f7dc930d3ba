use Rattle.std.proofs.Common.{length, ◌≡◌, ◌-◌, ◌≤◌}
use Rattle.cet_top.proofs.InputReads.{Reading}
use Rattle.cet_top.specs.Reading.{source_state}
use Rattle.cet_top.proofs.transfers.read_all.Given as goal

abbrev pub invariant-reads : goal.invariant-reads
invariant-reads g l = record {
  later : g.S.Source.faults l.initial.src ≤ g.S.Source.faults l.src;
  size : length l.buf ≡ 4096;
  reading : Reading (source_state (g.S.Source.left l.initial.src) (g.S.Source.faults l.initial.src) (g.S.Source.tally l.initial.src))
      (source_state (g.S.Source.left l.src) (g.S.Source.faults l.src) (g.S.Source.tally l.src)) l.bytes;
}

abbrev pub decreases-reads : goal.decreases-reads
decreases-reads g l = 8388609 - length l.bytes
