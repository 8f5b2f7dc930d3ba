use Rattle.std.proofs.Common.{◌≡◌, ◌*◌, ◌≤◌, length, drop}
use Rattle.std.specs.List.{flat_map}
use Rattle.cet_trace.specs.Report.{record_text}
use Rattle.cet_trace.proofs.records.write_records.Given as goal

abbrev pub invariant-loop-place : goal.invariant-loop-place
invariant-loop-place l = record {
  room : 90 * l.place ≤ l.at;
  within : l.at ≤ length l.buf;
  written : drop l.at l.buf ≡ flat_map (record_text l.number) (drop l.place l.records);
}
