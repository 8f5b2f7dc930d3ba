use Rattle.std.proofs.Common.{◌≡◌, length, ap, arith, sym, subst, ◌∙◌, [], ◌∷◌, ◌++◌}
use Rattle.cet_run.specs.TracedThreads.{AllTraced, TracedThreadData}
use Rattle.cet_run.proofs.LiveThreads.{live_born}
use Rattle.cet_run.proofs.Steps.{all_with}
use Rattle.std.proofs.Common.{Some}
use Rattle.cet_run.proofs.guests.Guests.bear.Goals as goal

pub returns-clause-guests : goal.returns-clause-guests
returns-clause-guests c =
    let n : c.len.result ≡ length c.args.self.now.all.items = (let ok = c.args.self.now.all.ok.0 in let l = c.len.ensures in omega arith) in
    let all = c.in_ok-push-2.ensures.items ∙ ap (λ (x : TracedThreadData). c.args.self.now.all.items ++ x ∷ []) c.new.ensures in
    record {
      cores = subst (AllTraced c.args.job.now) (sym all) (all_with c.args.job.now c.args.self.now.all.items (Some c.args.child) c.requires.guests.cores c.requires.born);
      numbers = live_born c.args.self.now.all.items _ _ _ c.new.result c.len.result (ap (λ (x : TracedThreadData). x.cpu.core.over) c.new.ensures ∙
          c.requires.lives) c.requires.guests.numbers n c.in_ok-push.ensures.items c.in_ok-push-2.ensures.items;
    }
