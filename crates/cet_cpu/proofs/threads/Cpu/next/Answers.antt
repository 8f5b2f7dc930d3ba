use Rattle.std.proofs.Common.{◌∙◌, ap}
use Rattle.cet_page.proofs.WithinLaws.{goes}
use Rattle.cet_cpu.specs.Cpu.{CpuData, awaited}
use Rattle.cet_cpu.proofs.threads.Cpu.next.Goals as goal

pub returns-clause-goes : goal.returns-clause-goes
returns-clause-goes c = goes c.args.job.now c.args.self.now.core _ c.requires.state.state (c.awaited.ensures ∙ ap (λ (v : CpuData). awaited v.next) c.self.view_is ∙ c.requires.state.waits)
