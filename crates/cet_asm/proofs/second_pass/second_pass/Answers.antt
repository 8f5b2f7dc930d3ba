use Rattle.std.proofs.Common.{arith}
use Rattle.cet_syntax.proofs.PartLaws.{one_more_line}
use Rattle.cet_asm.proofs.second_pass.second_pass.Goals as goal

pub overflow_add-number : goal.overflow_add-number
overflow_add-number c = grind (
  arith,
  one_more_line c.loop-left.above c.loop-left.left c.in-Some.text c.first_line.result.1 c.args.source.now c.first_line.result.0.now c.loop-left.invariant.count
      c.in-Some.is c.first_line.ensures c.requires.short,
)
