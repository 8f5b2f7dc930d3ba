use Rattle.std.proofs.Common.{◌≡◌, [], ◌∷◌, ◌++◌, ap, ◌∙◌}
use Rattle.cet_pool.specs.Rounds.{Answer}
use Rattle.cet_pool.proofs.Settling.{collected_next}
use Rattle.cet_pool.proofs.rounds.collect.Goals as goal

pub loop-answer-preserved : goal.loop-answer-preserved
loop-answer-preserved c =
    collected_next c.args.answers.items c.loop-answer.answers.items c.pop.new.self.items c.in_ok-out.out c.args.ended.now.items c.loop-answer.lives.items c.part.new.lives.items
    c.loop-answer.ended.items c.part.new.ended.items
    c.loop-answer.invariant (c.in-Some.ensures.items ∙ ap (λ (r : Answer). c.pop.new.self.items ++ r ∷ []) c.in_ok-out.was) c.in_ok-part.ensures
