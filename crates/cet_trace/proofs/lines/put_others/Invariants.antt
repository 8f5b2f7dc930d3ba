use Rattle.std.proofs.Common.{◌≡◌, ◌++◌, map, take}
use Rattle.std.specs.List.{flat_map}
use Rattle.cet_trace.specs.Line.{word_text, spaced}
use Rattle.cet_trace.proofs.lines.put_others.Given as goal

abbrev pub invariant-loop-word : goal.invariant-loop-word
invariant-loop-word l = l.out ≡ l.initial.out ++ flat_map spaced (map word_text (take l.word-index l.words))
