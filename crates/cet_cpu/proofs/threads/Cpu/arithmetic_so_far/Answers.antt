use Rattle.std.proofs.Common.{sym, subst}
use Rattle.cet_page.specs.Core.{row_played, kept_by}
use Rattle.cet_page.specs.declared.families.Family.TheVariants as families
use Rattle.cet_cpu.specs.Carried.{ComesTo, ended}
use Rattle.cet_cpu.specs.Cpu.{CpuData, RefinesRow}
use Rattle.cet_cpu.proofs.CarryLaws.{carried_arithmetic}
use Rattle.cet_cpu.proofs.threads.Cpu.arithmetic_so_far.Goals as goal

pub returns-clause-came : goal.returns-clause-came
returns-clause-came c =
    let job = c.args.job.now in
    let here : CpuData = record { core = record { arch = c.self.inside.arch; vals = c.self.inside.vals; over = c.self.inside.over }; next = c.self.inside.next; code = c.self.inside.code } in
    let comes = subst (λ (v : CpuData). ComesTo job v families.Arithmetic) (sym c.self.view_is) c.requires.comes in
    let result = c.follow-came.result in
    let after = kept_by here.core.arch here.core.arch.held c.follow-came.new.arch in
    let carried : RefinesRow (row_played job here.core.arch here.core.vals) here.core.arch after (ended result) =
    carried_arithmetic job here c.in-Some.code c.in-Ok.instr c.in-Ok.len _ _ _ c.follow-came.new.arch result _ _ comes c.in-Some.is c.in-Ok.is c.behind.ensures.left c.behind.ensures.rest c.from.ensures c.follow-came.ensures in
    subst (λ (v : CpuData). RefinesRow (row_played job v.core.arch v.core.vals) v.core.arch after (ended result)) c.self.view_is carried
