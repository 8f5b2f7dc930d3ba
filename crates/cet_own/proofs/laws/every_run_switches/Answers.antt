use Rattle.cet_own.proofs.Switched.{switches_run}
use Rattle.cet_own.proofs.laws.every_run_switches.Goals as goal

pub returns : goal.returns
returns c = switches_run
