use Rattle.std.proofs.Common.{vec_len}
use Rattle.cet_pool.specs.Rounds.{Collected}
use Rattle.cet_pool.proofs.rounds.collect.Given as goal

abbrev pub invariant-loop-answer : goal.invariant-loop-answer
invariant-loop-answer l = Collected l.fn.answers.items l.fn.ended.items l.answers.items l.lives.items l.ended.items

abbrev pub decreases-loop-answer : goal.decreases-loop-answer
decreases-loop-answer l = vec_len l.answers
