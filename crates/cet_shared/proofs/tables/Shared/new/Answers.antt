use Rattle.std.proofs.Common.{◌≡◌, ℕ, List, [], ◌∷◌, sym, subst}
use Rattle.cet_words.specs.Job.{JobData, IsJob}
use Rattle.cet_words.specs.Start.{IsStart}
use Rattle.cet_shared.specs.Held.{first_view}
use Rattle.cet_shared.specs.Rule.{Explained}
use Rattle.cet_shared.proofs.Law.{first_explained}
use Rattle.cet_shared.proofs.tables.Shared.new.Goals as goal

pub of_words-requires : goal.of_words-requires
of_words-requires c =
    let job = c.args.job.now in
    let words = c.in_ok-words.words.items in
    let is : IsJob job = subst IsJob c.job.view_is c.job.invariant in
    let start : IsStart job.image words = subst (λ (j : JobData). IsStart j.image words) c.job.view_is c.in_ok-words.ensures in
    subst (λ (t : JobData × List ℕ). Explained t.0 t.1 (first_view t.0 ∷ [])) (λ i. (sym c.in_ok-key.ensures i, sym c.deref.ensures.value i)) (first_explained job words is start)
