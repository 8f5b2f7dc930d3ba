use Rattle.std.proofs.Common.{◌≡◌, ◌∙◌, ◌⊎◌, ℕ, List, ap, subst}
use Rattle.cet_ctx.specs.Bench.{bench}
use Rattle.cet_top.specs.Answer.{Benches, Faults, with_runtime}
use Rattle.cet_top.proofs.assembling.bench.Goals as goal

pub returns : goal.returns
returns c =
    let text = c.as_slice.ensures ∙ (c.in_ok-text.ensures {u = tt}).text in
    let whole = c.as_slice-2.ensures ∙ (c.in_ok-text-2.ensures {u = tt}).text ∙ ap with_runtime text in
    subst (λ (t : List ℕ). Faults t c.in_ok-answer.answer.status c.in_ok-answer.answer.output ⊎ Benches c.args.n t c.in_ok-answer.answer.status c.in_ok-answer.answer.output)
    whole (c.in_ok-answer.ensures {u = tt})
