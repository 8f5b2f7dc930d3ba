use Rattle.cet_busy.proofs.HolderLaws.{held_stacks}
use Rattle.cet_busy.proofs.laws.a_held_stack_is_told.Goals as goal

pub returns : goal.returns
returns c = held_stacks
