use Rattle.std.proofs.Common.{ℕ, IfSome, Option, ap, sym, subst, ◌∙◌}
use Rattle.cet_words.specs.declared.accesses.Access.{Access}
use Rattle.cet_page.specs.Core.{Core, core_by, row_played, taken}
use Rattle.cet_page.specs.Plays.{held_by}
use Rattle.cet_page.specs.ValsData.{ValsData}
use Rattle.cet_page.specs.declared.cursors.Mark.{Mark}
use Rattle.cet_cpu.specs.Cpu.{CpuData, IsWanted}
use Rattle.cet_cpu.proofs.TakenLaws.{taken_core}
use Rattle.cet_cpu.proofs.threads.Cpu.accept_answer.Goals as goal

pub returns-in-None-clause-core : goal.returns-in-None-clause-core
returns-in-None-clause-core c =
    let job = c.args.job.now in
    let core : Core = record { arch = c.self.inside.arch; vals = c.self.inside.vals; over = c.self.inside.over } in
    let wanted = subst (λ (v : CpuData). IfSome v.next (IsWanted job v.core)) (sym c.self.view_is) c.requires.state.wanted in
    let this = subst (λ (o : Option (Access × Mark)). IfSome o (IsWanted job core)) c.in_ok-access.was wanted in
    let came : Option ℕ → ValsData → Core = λ h seen. core_by job (record core.arch { held = h }) h seen (row_played job (record core.arch { held = h }) seen) in
    c.go_on.ensures.core
    ∙ ap (λ (h : Option ℕ). came h c.add.new.self) c.hold.ensures
    ∙ ap (came (held_by c.in_ok-access.mark c.args.answer core.arch.held)) c.add.ensures
    ∙ taken_core job core c.args.answer c.in_ok-access.access c.in_ok-access.mark this
    ∙ ap (λ (v : CpuData). (taken job v.core c.args.answer).core) c.self.view_is
