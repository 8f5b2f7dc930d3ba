use Rattle.std.proofs.Common.{arith}
use Rattle.cet_run.proofs.ToldStacks.{claim_ends}
use Rattle.cet_run.proofs.told_stacks.push_told.Goals as goal

pub page_up-requires : goal.page_up-requires
page_up-requires c = (let ends = claim_ends c.args.noted c.args.noted.what c.in-Claim.is c.requires in omega arith)

pub overflow_add-noted : goal.overflow_add-noted
overflow_add-noted c = (let ends = claim_ends c.args.noted c.args.noted.what c.in-Claim.is c.requires in let up = c.page_up.ensures in omega arith)
