use Rattle.std.proofs.Common.{◌≡◌, ◌<◌, ◌++◌, ℕ, List, length, sym, ◌∙◌, subst}
use Rattle.std.specs.List.Sorted.{IsPermutation}
use Rattle.cet_pool.specs.declared.lives.Live.{Live}
use Rattle.cet_pool.specs.Rounds.{Settled}
use Rattle.cet_pool.proofs.Dealing.{dealt_ready}
use Rattle.cet_pool.proofs.Settling.{round_settled, zip_turns}
use Rattle.cet_pool.proofs.rounds.round.Goals as goal

pub all_turns-requires-clause-ready : goal.all_turns-requires-clause-ready
all_turns-requires-clause-ready g c =
    λ κs within. dealt_ready c.args.shared.now c.args.lives.items c.drop_empty.new.bins.items (subst (λ (l : List Live). IsPermutation c.args.lives.items l) (sym c.drop_empty.ensures)
    c.in_ok-bins.ensures) c.requires.ready

pub returns : goal.returns
returns g c =
    let place = c.args.shared.now in
    let bins = c.drop_empty.new.bins in
    let answers = c.in_ok-answers.answers in
    let dealt = subst (λ (l : List Live). IsPermutation c.args.lives.items l) (sym c.drop_empty.ensures) c.in_ok-bins.ensures in
    let turned = zip_turns place bins.items answers.items (sym answers.ok.0 ∙ c.in_ok-answers.ensures.len ∙ bins.ok.0) (λ i b r lt. c.in_ok-answers.ensures.each i b r (subst (λ n. i < n)
    (sym bins.ok.0) lt)) in
    let s = round_settled place c.args.lives.items c.args.ended.now.items bins.items answers.items c.in_ok-left.left.items c.collect.new.ended.items dealt turned c.requires.over
    c.in_ok-left.ensures in
    subst (λ n. Settled place n (c.args.lives.items ++ c.args.ended.now.items) c.in_ok-left.left.items c.collect.new.ended.items) (sym c.args.lives.ok.0) s
