use Rattle.std.proofs.Common.{◌≡◌, ◌<◌, ◌++◌, List, [], ◌∷◌, length, refl, ap, ◌∙◌, subst, arith}
use Rattle.std.specs.Prelude.{All}
use Rattle.std.proofs.lemmas.List.Elements.{All-head, All-tail}
use Rattle.cet_shared.specs.Held.{Standing, together}
use Rattle.cet_pool.specs.declared.lives.Live.{Live}
use Rattle.cet_pool.specs.declared.drives.Gathered.{Gathered}
use Rattle.cet_pool.specs.Going.{IsLive}
use Rattle.cet_pool.proofs.Gatherings.{first_out, gathering_next}
use Rattle.cet_pool.proofs.drives.gather.Goals as goal

pub waiting-preserved : goal.waiting-preserved
waiting-preserved c =
    let place = c.args.shared.now in
    let xs : List Live = c.waiting.waiting.items in
    let ys : List Live = c.remove-in-waiting.new.self.items in
    let x : Live = c.remove-in-waiting.result in
    let done : Gathered = c.waiting.done in
    let after : Gathered = record { last = c.gather.new.into; threads = c.put_out.new.threads; ssps = c.put_out.new.ssps } in
    let some : 0 < length xs = (let l = c.waiting.waiting.ok.0 in let n = c.remove-in-waiting.ensures.len in omega arith) in
    let out : xs ≡ x ∷ ys = first_out xs ys x some c.remove-in-waiting.ensures.value c.remove-in-waiting.ensures.by_index.2 in
    let all : All (IsLive place) (x ∷ ys) = subst (All (IsLive place)) out c.waiting.invariant.lives in
    record {
      lives = All-tail (IsLive place) x ys all;
      gathering = gathering_next place c.args.waiting.items xs ys x done after c.waiting.invariant.gathering out (All-head (IsLive place) x ys all) c.gather.ensures.pass
          (c.gather.ensures.view ∙ ap (λ (s : Standing). together done.last.view s.view) c.in_ok-pass.ensures.pass) c.in_ok-pass.ensures.threads c.in_ok-pass.ensures.ssps;
    }
