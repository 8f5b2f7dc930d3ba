use Rattle.std.proofs.Common.{arith}
use Rattle.cet_base.proofs.DigitLemmas.{left_first, left_last, left_next}
use Rattle.cet_base.proofs.write.write_digits.Goals as goal

pub loop-rest-init : goal.loop-rest-init
loop-rest-init c = left_first c.args.radix c.args.value c.args.out.now c.told-out c.requires.low (omega arith)

pub returns-then-rest-eq0-clause-digits : goal.returns-then-rest-eq0-clause-digits
returns-then-rest-eq0-clause-digits c =
    left_last c.args.radix c.args.value c.loop-rest.at c.loop-rest.rest c.digit_glyph.result c.loop-rest.out (omega arith) c.loop-rest.invariant c.digit_glyph.ensures c.if-rest-eq0.true

pub loop-rest-preserved : goal.loop-rest-preserved
loop-rest-preserved c =
    left_next c.args.radix c.args.value c.loop-rest.at c.loop-rest.rest c.digit_glyph.result c.loop-rest.out (omega arith) (omega arith) c.loop-rest.invariant c.digit_glyph.ensures c.if-rest-eq0.false
