use Rattle.std.proofs.Common.{None}
use Rattle.cet_run.proofs.ScheduleLaws.{full_same, mix_same, robin_same}
use Rattle.cet_run.proofs.laws.schedules_are_one.Goals as goal

pub returns-clause-robin : goal.returns-clause-robin
returns-clause-robin c = λ job m turns others. robin_same job m None turns others

pub returns-clause-full : goal.returns-clause-full
returns-clause-full c = full_same

pub returns-clause-mix : goal.returns-clause-mix
returns-clause-mix c = mix_same
