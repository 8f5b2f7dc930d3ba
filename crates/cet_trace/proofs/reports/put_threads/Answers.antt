use Rattle.cet_trace.specs.Report.{thread_text}
use Rattle.cet_trace.proofs.Appended.{numbered_appended}
use Rattle.cet_trace.proofs.reports.put_threads.Goals as goal

pub loop-number-preserved : goal.loop-number-preserved
loop-number-preserved c =
    numbered_appended (thread_text c.args.style) c.args.threads.now c.loop-number.number c.index-threads-number.result _ _ _ c.loop-number-test.true c.index-threads-number.is c.in_ok-put_thread.ensures c.loop-number.invariant
