use Rattle.std.proofs.Common.{◌≡◌, Option, Some, IfSome, arith, ap, sym, ◌∙◌, subst}
use Rattle.cet_words.specs.declared.accesses.Access.{Access}
use Rattle.cet_page.specs.declared.cursors.Mark.{Mark}
use Rattle.cet_page.specs.declared.cursors.Mark.TheVariants as marks
use Rattle.cet_page.specs.Finish.{IsMade}
use Rattle.cet_page.proofs.WithinLaws.{bears_made}
use Rattle.cet_cpu.specs.Cpu.{CpuData, IsWanted}
use Rattle.cet_cpu.proofs.threads.Cpu.unborn.Goals as goal

pub child_at-requires : goal.child_at-requires
child_at-requires c =
    let core = c.args.self.now.core in
    let job = c.args.job.now in
    let next : c.args.self.now.next ≡ Some (c.in_ok-mark.field-0-0, marks.Bears c.in-Bears.start) =
    sym (ap (λ (v : CpuData). v.next) c.self.view_is) ∙ c.in_ok-mark.was ∙ ap {B = Option (Access × Mark)} (λ (m : Mark). Some (c.in_ok-mark.field-0-0, m)) c.in-Bears.is in
    let wanted = subst (λ (o : Option (Access × Mark)). IfSome o (IsWanted job core)) next c.requires.state.wanted in
    let made : IsMade c.in-Bears.start = bears_made job core c.in_ok-mark.field-0-0 c.in-Bears.start c.args.answer c.requires.state.state c.requires.going c.if-answer-ge-THREAD_LIMIT.false wanted in
    omega arith
