use Rattle.cet_own.proofs.ClassRun.{has_class, has_class_in_runs}
use Rattle.cet_own.proofs.access_classes.class_of.Goals as goal

-- src/access_classes.rt:147:1
pub returns-clause-laws : goal.returns-clause-laws
returns-clause-laws c = has_class _ c.args.access.now c.args.arch.now c.args.value c.class_in_table.ensures

pub returns-clause-runs : goal.returns-clause-runs
returns-clause-runs c = has_class_in_runs _ c.args.access.now c.args.arch.now c.args.value c.class_in_table.ensures
