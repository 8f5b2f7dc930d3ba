use Rattle.std.proofs.lemmas.Result.{IfOk-weaker}
use Rattle.cet_top.proofs.Threading.{threaded}
use Rattle.cet_top.proofs.threads.run_threads.Goals as goal

pub returns-in-Ok : goal.returns-in-Ok
returns-in-Ok g c =
    let loaded = c.in-Ok.ensures in
    IfOk-weaker c.report_threads.result _ _
    (λ made told. threaded c.args.settings.now c.in-Ok.image c.args.bytes.now made.ran made.answer.status made.answer.output loaded.0 loaded.1 told.0 told.1 told.2 told.3)
    c.report_threads.ensures
