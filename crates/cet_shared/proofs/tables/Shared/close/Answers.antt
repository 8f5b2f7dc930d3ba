use Rattle.std.proofs.Common.{◌≡◌, ℕ, List, sym, ap, ◌∙◌, subst}
use Rattle.cet_words.specs.Job.{JobData}
use Rattle.cet_shared.specs.Held.{Held}
use Rattle.cet_shared.specs.Closing.{AreAll, IsRun}
use Rattle.cet_shared.specs.Keys.{job_of}
use Rattle.cet_shared.proofs.Closing.{closes}
use Rattle.cet_shared.proofs.tables.Shared.close.Goals as goal

pub returns : goal.returns
returns c =
    let f = c.close_with-closed.ensures.values.2 in
    let key = c.self.inside.table.shared.key in
    let job = ap (λ s. s.job) c.self.view_is in
    let view = ap (λ p. p.view) c.last.view_is in
    let all = subst (λ (v : Held). AreAll v.threads) (sym view) c.requires.all in
    let made = closes (job_of key) f.0.words f.0.views f.1.0 c.last.inside.seat.id c.last.inside.seat.me.0 f.1.1 all in
    subst (λ (t : JobData × List ℕ × Held). IsRun t.0 t.1 t.2) (λ i. (job i, (f.2 ∙ sym c.copy_words.ensures) i, view i)) made
