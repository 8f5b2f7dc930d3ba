use Rattle.std.proofs.Common.{◌≡◌, List, Some, None, refl, sym, subst, ◌∙◌}
use Rattle.std.specs.Prelude.{IfSome}
use Rattle.cet_cpu.specs.Cpu.{CpuData, IsCpu}
use Rattle.cet_pool.specs.declared.lives.Live.{Live}
use Rattle.cet_pool.specs.Going.{Accessed, Went}
use Rattle.cet_pool.proofs.Steps.{went_none, went_some}
use Rattle.cet_pool.proofs.lives.bear.Goals as goal

pub returns-in_ok-push-clause-went : goal.returns-in_ok-push-clause-went
returns-in_ok-push-clause-went c =
    let place = c.args.shared.now in
    let mid : Live = c.args.live.now in
    let cpu : CpuData = c.in-Some.cpu in
    let after : Live = record { pass = c.split_child-pass.new.pass; records = mid.records } in
    let kid : Live = record { pass = c.split_child-pass.result; records = c.new.result } in
    let was : c.args.child.now ≡ Some cpu = sym c.take.ensures.value ∙ c.in-Some.is in
    let s = c.split_child-pass.ensures in
    let is : IsCpu place.job cpu = subst (λ o. IfSome o (IsCpu place.job)) was c.requires.state in
    λ before ready a.
    subst (λ (l : List Live). Went place 1 before after c.args.born.now.items l) (sym c.in_ok-push.ensures.items)
    (went_some place before mid c.args.born.now.items ready cpu after kid (subst (Accessed place before mid) was a) s.passes.0 s.parent refl s.passes.1 s.child c.new.ensures is)

pub returns-in_default-clause-went : goal.returns-in_default-clause-went
returns-in_default-clause-went c =
    let place = c.args.shared.now in
    let was : c.args.child.now ≡ None = sym c.take.ensures.value ∙ c.in_default.is in
    λ before ready a. went_none place before c.args.live.now c.args.born.now.items ready (subst (Accessed place before c.args.live.now) was a)
