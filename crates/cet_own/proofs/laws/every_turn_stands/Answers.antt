use Rattle.cet_own.proofs.ClassRun.{turn_stands}
use Rattle.cet_own.proofs.laws.every_turn_stands.Goals as goal

pub returns : goal.returns
returns c = turn_stands
