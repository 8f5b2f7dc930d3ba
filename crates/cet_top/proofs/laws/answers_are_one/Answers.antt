use Rattle.cet_top.proofs.AnswerLaws.{answers_same}
use Rattle.cet_top.proofs.laws.answers_are_one.Goals as goal

pub returns : goal.returns
returns c = answers_same
