use Rattle.std.proofs.Common.{subst, ap, ◌∙◌}
use Rattle.cet_words.specs.Job.{ImageData, JobData, IsJob}
use Rattle.cet_page.specs.Core.{core_at}
use Rattle.cet_page.proofs.WithinLaws.{first_at}
use Rattle.cet_cpu.proofs.threads.first.Goals as goal

pub await_access-requires-clause-state : goal.await_access-requires-clause-state
await_access-requires-clause-state c =
    first_at c.args.job.now c.thread_at-cpu.result.core (subst IsJob c.job.view_is c.job.invariant)
    (c.thread_at-cpu.ensures.core ∙ ap (λ (i : ImageData). core_at i.entry) c.image.view_is ∙ ap (λ (j : JobData). core_at j.image.entry) c.job.view_is)
