use Rattle.std.proofs.Common.{◌∙◌, ap}
use Rattle.cet_own.specs.Told.{kept_pointers}
use Rattle.cet_run.specs.TracedThreads.{threads_of}
use Rattle.cet_run.proofs.Finished.{finished_left, robined_finishes}
use Rattle.cet_run.proofs.tests.read_off.Goals as goal

-- the pointers are those of the threads that the run has left
pub outcome_of-requires : goal.outcome_of-requires
outcome_of-requires c =
    let r = c.in_ok-give_robin.ensures.ran in
    let pointers = c.deref-2.ensures.value ∙ c.in_ok-ssps.ensures ∙ ap (λ l. kept_pointers (threads_of l)) c.deref.ensures.value in
    (_, r.turns, finished_left c.args.job.now _ r.turns _ _ _ _ (robined_finishes c.args.job.now _ _ c.in_ok-words.ensures.starts r) c.in_ok-outs.ensures pointers)
