use Rattle.std.proofs.Common.{ap, ◌∙◌}
use Rattle.cet_page.specs.Core.{next_access}
use Rattle.cet_page.proofs.WithinLaws.{wants}
use Rattle.cet_run.specs.TracedThreads.{TracedThreadData}
use Rattle.cet_run.proofs.traced_threads.TracedThread.ask.Goals as goal

-- a thread that hasn't ended has a next access
pub unreachable-requires : goal.unreachable-requires
unreachable-requires g c =
    let w = wants c.args.job.now c.args.self.now.cpu.core c.requires.state.state c.requires.going in
    c.in_default.not-Some w.0 (c.next.ensures.access ∙ ap (λ (g : TracedThreadData). next_access c.args.job.now g.cpu.core) c.self.view_is ∙ w.1)
