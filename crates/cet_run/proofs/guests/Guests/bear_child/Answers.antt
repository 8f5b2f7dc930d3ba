use Rattle.std.proofs.Common.{Some, None, ap, refl, sym, ◌∙◌}
use Rattle.std.proofs.lemmas.Option.{slice_get-get_or}
use Rattle.std.proofs.lemmas.Result.{on_ok_weaker}
use Rattle.cet_run.proofs.Steps.{born_live}
use Rattle.cet_run.proofs.guests.Guests.bear_child.Goals as goal

pub bear-requires-clause-lives : goal.bear-requires-clause-lives
bear-requires-clause-lives c = born_live c.args.job.now c.index-parent.result.now.cpu.core c.args.value c.in-Some.cpu c.in-Some.ensures.child

pub returns-in-Some-clause-bore : goal.returns-in-Some-clause-bore
returns-in-Some-clause-bore c =
    let here = slice_get-get_or c.args.self.now.all.items c.args.at c.index-parent.result.now c.requires.range ∙ ap Some (sym c.index-parent.ensures) in
    on_ok_weaker c.bear.result (λ all. record { traced = c.index-parent.result.now; here = here; child = Some c.in-Some.cpu; bears = c.in-Some.ensures.child; is = all }) c.bear.ensures.all

pub returns-in-None-clause-bore : goal.returns-in-None-clause-bore
returns-in-None-clause-bore c =
    let here = slice_get-get_or c.args.self.now.all.items c.args.at c.index-parent.result.now c.requires.range ∙ ap Some (sym c.index-parent.ensures) in
    record { traced = c.index-parent.result.now; here = here; child = None; bears = c.in-None.ensures.child; is = refl }
