use Rattle.std.proofs.Common.{◌≤◌, ◌*◌}
use Rattle.std.specs.Vec.{vec_capacity}
use Rattle.cet_words.specs.Start.{image_word}
use Rattle.cet_words.specs.Fill.{FilledFrom}
use Rattle.cet_words.proofs.start.write_image.Given as goal

abbrev pub invariant-loop-page : goal.invariant-loop-page
invariant-loop-page l = record {
  filled : FilledFrom 0 (512 * l.page) (image_word l.image.segments) l.initial.words.items l.words.items;
  room : vec_capacity l.initial.words ≤ vec_capacity l.words;
}
