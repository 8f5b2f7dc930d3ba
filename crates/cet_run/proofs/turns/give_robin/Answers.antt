use Rattle.std.proofs.Common.{◌≡◌, List, [], ℕ, refl, sym, subst, ◌∙◌}
use Rattle.std.specs.Prelude.{slice_get}
use Rattle.std.specs.Option.{option_or}
use Rattle.cet_run.specs.Schedule.{live_from}
use Rattle.cet_run.specs.TracedThreads.{threads_of}
use Rattle.cet_run.proofs.Rounds.{rounds_end, rounds_more}
use Rattle.cet_run.proofs.Steps.{reached_step}
use Rattle.cet_run.proofs.turns.give_robin.Goals as goal

pub loop-place-preserved : goal.loop-place-preserved
loop-place-preserved g c =
    let turned = c.in_ok-next.ensures.turned in
    let live : c.deref.result.now ≡ live_from (threads_of c.loop-place.guests.all.items) 0 = c.deref.ensures.value ∙ c.loop-place.invariant.guests.numbers in
    record {
      guests = c.in_ok-next.ensures.guests;
      reached = reached_step c.args.job.now _ _ turned.thread c.loop-place.invariant.reached turned.step;
      so_far = rounds_more c.args.job.now _ _ _ c.loop-place.next c.in-Some.place c.in_ok-next.next c.loop-place.invariant.so_far
          (subst (λ (l : List ℕ). option_or (slice_get l c.loop-place.next) (slice_get l 0) ≡ slice_get l c.in-Some.place) live c.in-Some.ensures.turn) turned;
    }

pub returns-clause-ran : goal.returns-clause-ran
returns-clause-ran g c =
    let live : c.deref.result.now ≡ live_from (threads_of c.loop-place.guests.all.items) 0 = c.deref.ensures.value ∙ c.loop-place.invariant.guests.numbers in
    let none : c.deref.result.now ≡ [] = c.in_default.ensures.none refl in
    rounds_end c.args.job.now _ _ c.loop-place.next c.loop-place.invariant.so_far (sym live ∙ none)
