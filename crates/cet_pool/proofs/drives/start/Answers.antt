use Rattle.std.proofs.Common.{◌≡◌, List, [], ◌∷◌, ◌++◌, ap, ◌∙◌, subst}
use Rattle.cet_pool.specs.declared.lives.Live.{Live}
use Rattle.cet_pool.specs.Rounds.{Parted}
use Rattle.cet_isa.specs.declared.threads.Record.{Record}
use Rattle.cet_pool.proofs.Settling.{first_live, start_settled}
use Rattle.cet_pool.proofs.drives.start.Goals as goal

pub returns : goal.returns
returns c =
    let x : Live = record { pass = c.args.first; records = [] } in
    let one : List Record → Live = λ r. record { pass = c.args.first; records = r } in
    let w : c.push.new.self.items ≡ x ∷ [] = c.in_ok-push.ensures.items ∙ ap (λ (l : List Live). l ++ one c.new.result ∷ []) c.new-waiting.ensures.items
    ∙ ap (λ (r : List Record). one r ∷ []) c.new.ensures in
    let p : Parted (x ∷ []) [] [] [] c.part.new.lives.items c.part.new.ended.items =
    subst (λ (t : List Live × List Live × List Live). Parted t.0 t.1 t.2 [] c.part.new.lives.items c.part.new.ended.items) (λ i. (
      w i,
      c.new-lives.ensures.items i,
      c.requires.none i,
    )) c.in_ok-part.ensures in
    start_settled c.args.shared.now x c.part.new.lives.items c.part.new.ended.items (first_live c.args.shared.now c.args.first c.args.job.now c.requires.first.0 c.requires.first.1) p
