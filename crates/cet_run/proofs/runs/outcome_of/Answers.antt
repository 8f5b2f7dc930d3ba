use Rattle.std.proofs.Common.{◌≡◌, ◌≤◌, All, List, length, ap, subst, sym, ◌∙◌}
use Rattle.cet_words.specs.Job.{IsJob}
use Rattle.cet_book.specs.View.{Covers, InStep, IsReadable, IsSpan}
use Rattle.cet_own.specs.ExitWord.{IsExitWord}
use Rattle.cet_run.specs.Outcome.{process_end}
use Rattle.cet_run.specs.Shown.{told_by}
use Rattle.cet_run.specs.declared.outcomes.ThreadOut.{ThreadOut}
use Rattle.cet_run.proofs.Finished.{left_exit, left_few, left_readable, left_run}
use Rattle.cet_run.proofs.runs.outcome_of.Goals as goal

pub told_spans-requires : goal.told_spans-requires
told_spans-requires g c =
    subst (λ (l : List ThreadOut). All IsSpan (told_by l)) (sym c.as_slice.ensures)
    (left_readable c.args.job.now c.requires.0 c.requires.1 _ c.args.threads c.args.ssps.now (subst IsJob c.job.view_is c.job.invariant) c.requires.2).each

pub report_of_words-requires : goal.report_of_words-requires
report_of_words-requires g c =
    let spans : c.deref.result.now ≡ told_by c.args.threads = c.deref.ensures.value ∙ c.in_ok-spans.ensures ∙ ap told_by c.as_slice.ensures in
    subst (λ l. IsReadable l c.args.ssps.now) (sym spans)
    (left_readable c.args.job.now c.requires.0 c.requires.1 _ c.args.threads c.args.ssps.now (subst IsJob c.job.view_is c.job.invariant) c.requires.2)

pub process_end-process-requires-clause-word : goal.process_end-process-requires-clause-word
process_end-process-requires-clause-word g c =
    subst IsExitWord (sym c.perform-exit.ensures.answer)
    (left_exit c.args.job.now c.requires.0 c.requires.1 _ c.args.threads c.args.ssps.now (subst IsJob c.job.view_is c.job.invariant) c.requires.2)

pub process_end-process-requires-clause-few : goal.process_end-process-requires-clause-few
process_end-process-requires-clause-few g c =
    subst (λ (l : List ThreadOut). length l ≤ 32) (sym c.as_slice-2.ensures)
    (left_few c.args.job.now c.requires.0 c.requires.1 _ c.args.threads c.args.ssps.now (subst IsJob c.job.view_is c.job.invariant) c.requires.2)

pub returns-clause-outcome : goal.returns-clause-outcome
returns-clause-outcome g c = λ start turns left.
    let image = c.args.job.now.image in
    let spans : c.deref.result.now ≡ told_by c.args.threads = c.deref.ensures.value ∙ c.in_ok-spans.ensures ∙ ap told_by c.as_slice.ensures in
    left_run c.args.job.now start turns _ c.args.threads c.args.ssps.now (subst IsJob c.job.view_is c.job.invariant) left
    c.in_ok-stacks.stacks c.process_end-process.result c.perform-exit.result c.perform-exit.ensures.answer
    (c.process_end-process.ensures ∙ ap (process_end c.perform-exit.result) c.as_slice-2.ensures)
    (λ b numbers step covers. c.in_ok-stacks.ensures.shown image b numbers
    (subst (λ words. InStep image words b) (sym c.perform-exit.ensures.words) step)
    (subst (λ l. Covers b numbers l c.args.ssps.now) (sym spans) covers))
