use Rattle.std.proofs.Common.{sym, subst}
use Rattle.cet_run.specs.SafeRun.{IsLeft}
use Rattle.cet_pool.proofs.Finishing.{led, left, threads_kept}
use Rattle.cet_pool.proofs.finishes.finish.Goals as goal

pub outcome_of-requires : goal.outcome_of-requires
outcome_of-requires c =
    let r = c.close.ensures in (
      r.start,
      r.schedule,
      subst (λ p. IsLeft c.args.job.now r.start r.schedule c.close.new.into c.args.done.threads p) (sym c.as_slice.ensures) (left c.args.job.now c.args.shared
          c.args.done c.close.new.into c.requires.job c.requires.done r),
    )

pub returns-clause-run : goal.returns-clause-run
returns-clause-run c =
    let r = c.close.ensures in
    led c.args.job.now c.args.shared c.args.done c.close.new.into c.requires.job c.requires.done r c.in_ok-outcome.outcome (c.in_ok-outcome.ensures.outcome r.start r.schedule (subst (λ p.
    IsLeft c.args.job.now r.start r.schedule c.close.new.into c.args.done.threads p) (sym c.as_slice.ensures) (left c.args.job.now c.args.shared c.args.done c.close.new.into
    c.requires.job c.requires.done r)))

pub returns-clause-threads : goal.returns-clause-threads
returns-clause-threads c =
    let r = c.close.ensures in
    threads_kept c.args.job.now c.args.shared c.args.done c.close.new.into c.requires.job c.requires.done r c.in_ok-outcome.outcome (c.in_ok-outcome.ensures.outcome r.start r.schedule
    (subst (λ p. IsLeft c.args.job.now r.start r.schedule c.close.new.into c.args.done.threads p) (sym c.as_slice.ensures) (left c.args.job.now c.args.shared c.args.done
    c.close.new.into c.requires.job c.requires.done r)))
