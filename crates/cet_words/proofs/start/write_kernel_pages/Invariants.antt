use Rattle.std.proofs.Common.{◌≤◌}
use Rattle.std.specs.Vec.{vec_capacity}
use Rattle.cet_words.specs.Start.{kernel_word}
use Rattle.cet_words.specs.Fill.{FilledFrom}
use Rattle.cet_words.proofs.start.write_kernel_pages.Given as goal

abbrev pub invariant-loop-index : goal.invariant-loop-index
invariant-loop-index l = record {
  filled : FilledFrom 0 l.index kernel_word l.initial.words.items l.words.items;
  room : vec_capacity l.initial.words ≤ vec_capacity l.words;
}
