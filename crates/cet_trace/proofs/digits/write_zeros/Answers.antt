use Rattle.cet_base.specs.Digits.{hex16}
use Rattle.cet_trace.proofs.digits.write_zeros.Goals as goal

pub returns-clause-written : goal.returns-clause-written
unfolding hex16
returns-clause-written c = c.write_bytes.ensures.written
