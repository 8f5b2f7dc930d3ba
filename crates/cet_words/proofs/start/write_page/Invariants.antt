use Rattle.std.proofs.Common.{◌≤◌, ◌+◌, ◌*◌, Some}
use Rattle.std.specs.Vec.{vec_capacity}
use Rattle.cet_words.specs.Layout.{image_start}
use Rattle.cet_words.specs.Start.{covered_byte, word_of_bytes}
use Rattle.cet_words.specs.Fill.{FilledFrom}
use Rattle.cet_words.proofs.start.write_page.Given as goal

abbrev pub invariant-loop-word : goal.invariant-loop-word
invariant-loop-word l = record {
  filled : FilledFrom (512 * l.page) l.word (λ w. word_of_bytes (covered_byte (Some l.segment)) (image_start + 8 * w)) l.initial.words.items l.words.items;
  room : vec_capacity l.initial.words ≤ vec_capacity l.words;
}
