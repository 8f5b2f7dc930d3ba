use Rattle.cet_top.proofs.answers.refused.Goals as goal

pub returns : goal.returns
returns c = (let nothing = c.new.ensures in cc)
