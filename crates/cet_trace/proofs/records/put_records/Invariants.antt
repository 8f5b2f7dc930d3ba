use Rattle.std.proofs.Common.{◌≡◌, ◌++◌, length, drop}
use Rattle.std.specs.List.{flat_map}
use Rattle.cet_trace.specs.Report.{record_text}
use Rattle.cet_trace.proofs.records.put_records.Given as goal

abbrev pub invariant-pieces : goal.invariant-pieces
invariant-pieces l = record {
  size : length l.buf ≡ 5760;
  texts : l.out ++ flat_map (record_text l.number) l.rest ≡ l.initial.out ++ flat_map (record_text l.number) (drop l.from l.records);
}

abbrev pub decreases-pieces : goal.decreases-pieces
decreases-pieces l = length l.rest
