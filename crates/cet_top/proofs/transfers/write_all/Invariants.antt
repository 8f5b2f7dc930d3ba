use Rattle.std.proofs.Common.{length, ◌≡◌, ◌-◌, ◌≤◌, take}
use Rattle.std.specs.Io.KnownBytes.{Appends}
use Rattle.cet_top.specs.Serves.{sink_state}
use Rattle.cet_top.proofs.transfers.write_all.Given as goal

abbrev pub invariant-writes : goal.invariant-writes
invariant-writes g l = record {
  within : l.at ≤ length l.bytes;
  steady : g.K.Sink.faults l.sink ≡ g.K.Sink.faults l.initial.sink;
  written : Appends (g.K.Sink.written l.initial.sink) (g.K.Sink.written l.sink) (take l.at l.bytes);
  unused : l.at ≡ 0 → sink_state (g.K.Sink.written l.sink) (g.K.Sink.faults l.sink) ≡ sink_state (g.K.Sink.written l.initial.sink) (g.K.Sink.faults l.initial.sink);
}

abbrev pub decreases-writes : goal.decreases-writes
decreases-writes g l = length l.bytes - l.at
