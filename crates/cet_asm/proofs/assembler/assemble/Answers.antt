use Rattle.cet_asm.specs.Program.{lines_of}
use Rattle.cet_asm.proofs.AnswerLaws.{table_small, answer_is}
use Rattle.cet_asm.proofs.assembler.assemble.Goals as goal

pub second_pass-requires-clause-small : goal.second_pass-requires-clause-small
second_pass-requires-clause-small c = let e = c.in_ok-survey.ensures in table_small c.in_ok-survey.survey.labels (lines_of c.args.source.now) e.places e.text_size

pub returns : goal.returns
returns c = let e = c.in_ok-survey.ensures in answer_is c.args.source.now c.in_ok-survey.survey.labels c.in_ok-survey.survey.twice c.second_pass.result e.places e.text_size e.twice c.second_pass.ensures
