use Rattle.std.proofs.Common.{arith}
use Rattle.cet_syntax.proofs.PartLaws.{one_more_line}
use Rattle.cet_asm.proofs.first_pass.first_pass.Goals as goal

pub overflow_add-above : goal.overflow_add-above
overflow_add-above c = grind (arith, one_more_line c.loop-left.above c.loop-left.left c.in-Some.text c.first_line.result.1 c.args.source.now c.first_line.result.0.now c.loop-left.invariant.count c.in-Some.is c.first_line.ensures c.requires)

pub overflow_add-above-in-Some : goal.overflow_add-above-in-Some
overflow_add-above-in-Some c = grind (
  arith,
  one_more_line c.loop-left.above c.loop-left.left c.in-Some.text c.first_line.result.1 c.args.source.now c.first_line.result.0.now
      c.loop-left.invariant.count c.in-Some.is c.first_line.ensures c.requires,
)
