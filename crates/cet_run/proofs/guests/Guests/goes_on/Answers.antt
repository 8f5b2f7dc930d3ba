use Rattle.std.proofs.Common.{◌<◌, ◌≤◌, List, length, get_or, ap, subst, sym, ◌∙◌}
use Rattle.std.proofs.lemmas.Bool.{ltb-true, ltb-false}
use Rattle.cet_run.specs.TracedThreads.{TracedThreadData}
use Rattle.cet_run.proofs.LiveThreads.{going_at, still_at, still_past}
use Rattle.cet_run.proofs.guests.Guests.goes_on.Goals as goal

pub returns-in-Some-clause-going : goal.returns-in-Some-clause-going
returns-in-Some-clause-going c =
    let h = c.in-Some.ensures.lookup in
    let l : c.args.at < length c.args.self.now.all.items = subst (λ (l : List TracedThreadData). c.args.at < length l) c.deref.ensures.value (ltb-true _ _ (sym h.0)) in
    let i = h.1 ∙ ap (λ (l : List TracedThreadData). get_or l c.args.at c.in-Some.traced.now) c.deref.ensures.value in
    going_at c.args.self.now.all.items c.args.at c.in-Some.traced.now c.end.result c.is_none.result l i c.end.ensures c.is_none.ensures

pub returns-in-Some-clause-ended : goal.returns-in-Some-clause-ended
returns-in-Some-clause-ended c =
    let h = c.in-Some.ensures.lookup in
    let l : c.args.at < length c.args.self.now.all.items = subst (λ (l : List TracedThreadData). c.args.at < length l) c.deref.ensures.value (ltb-true _ _ (sym h.0)) in
    let i = h.1 ∙ ap (λ (l : List TracedThreadData). get_or l c.args.at c.in-Some.traced.now) c.deref.ensures.value in
    still_at c.args.self.now.all.items c.args.at c.in-Some.traced.now c.end.result c.is_none.result l i c.end.ensures c.is_none.ensures

pub returns-in-None-clause-ended : goal.returns-in-None-clause-ended
returns-in-None-clause-ended c = λ e.
    still_past c.args.self.now.all.items c.args.at (subst (λ (l : List TracedThreadData). length l ≤ c.args.at) c.deref.ensures.value (ltb-false _ _ (sym c.in-None.ensures.lookup.0)))
