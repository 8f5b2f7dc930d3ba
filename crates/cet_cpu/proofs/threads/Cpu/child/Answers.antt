use Rattle.std.proofs.Common.{sym, ap, ◌∙◌, option_map}
use Rattle.cet_page.proofs.WithinLaws.{child_is}
use Rattle.cet_cpu.specs.Cpu.{CpuData}
use Rattle.cet_cpu.proofs.threads.Cpu.child.Goals as goal

pub await_access-requires-clause-state : goal.await_access-requires-clause-state
await_access-requires-clause-state c =
    child_is c.args.job.now c.args.self.now.core c.in-Some.cpu.core c.args.answer c.requires.state.state c.requires.going (sym c.unborn-child.ensures.child ∙ ap (option_map (λ (cpu : CpuData). cpu.core)) c.in-Some.is)
