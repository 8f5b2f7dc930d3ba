use Rattle.std.proofs.Common.{◌≤◌}
use Rattle.std.specs.Vec.{vec_capacity}
use Rattle.cet_words.specs.Fill.{FilledFrom}
use Rattle.cet_words.proofs.held.clear_held.Given as goal

abbrev pub invariant-loop-at : goal.invariant-loop-at
invariant-loop-at l = record {
  clear : FilledFrom l.low l.at (λ w. 0) l.initial.words.items l.words.items;
  room : vec_capacity l.initial.words ≤ vec_capacity l.words;
}
