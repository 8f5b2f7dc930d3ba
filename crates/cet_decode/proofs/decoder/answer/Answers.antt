use Rattle.std.proofs.Common.{arith}
use Rattle.cet_isa.proofs.ReadingLaws.{forms_length}
use Rattle.cet_decode.proofs.decoder.answer.Goals as goal

pub overflow_sub-len : goal.overflow_sub-len
overflow_sub-len c = let l = forms_length _ _ c.in-Ok.ensures in omega (arith, l.some)

pub overflow_cast-len : goal.overflow_cast-len
overflow_cast-len c = let l = forms_length _ _ c.in-Ok.ensures in omega (arith, l.some, l.small)

pub returns-in-Ok-clause-len : goal.returns-in-Ok-clause-len
returns-in-Ok-clause-len c = let l = forms_length _ _ c.in-Ok.ensures in rw c.put_instr.ensures (omega (arith, l.small))
