use Rattle.std.proofs.Common.{◌≡◌, ◌++◌, take}
use Rattle.std.specs.List.{flat_map}
use Rattle.cet_trace.specs.Report.{entry_text}
use Rattle.cet_trace.proofs.reports.put_entries.Given as goal

abbrev pub invariant-loop-word : goal.invariant-loop-word
invariant-loop-word l = l.out ≡ l.initial.out ++ flat_map entry_text (take l.word-index l.words)
