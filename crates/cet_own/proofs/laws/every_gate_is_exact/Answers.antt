use Rattle.cet_own.proofs.Run.{gates_run}
use Rattle.cet_own.proofs.laws.every_gate_is_exact.Goals as goal

pub returns : goal.returns
returns c = gates_run
