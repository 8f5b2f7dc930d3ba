use Rattle.std.proofs.Common.{None}
use Rattle.cet_run.proofs.ScheduleLaws.{full_complete, mix_complete, robin_complete}
use Rattle.cet_run.proofs.laws.schedules_are_complete.Goals as goal

pub returns-clause-robin : goal.returns-clause-robin
returns-clause-robin c = λ job m turns. robin_complete job m None turns

pub returns-clause-full : goal.returns-clause-full
returns-clause-full c = full_complete

pub returns-clause-mix : goal.returns-clause-mix
returns-clause-mix c = mix_complete
