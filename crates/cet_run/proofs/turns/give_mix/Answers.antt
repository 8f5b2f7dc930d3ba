use Rattle.std.proofs.Common.{◌≡◌, List, ℕ, ◌/◌, ◌%◌, ◌^◌, ap, sym, ◌∙◌, length, arith}
use Rattle.std.proofs.lemmas.Bool.Decides.{nat_tests}
use Rattle.std.proofs.lemmas.List.{nil_from_length}
use Rattle.cet_run.specs.Schedule.{live_from}
use Rattle.cet_run.specs.TracedThreads.{threads_of}
use Rattle.cet_run.proofs.Rounds.{mixes_end, mixes_on}
use Rattle.cet_run.proofs.Steps.{reached_step}
use Rattle.cet_run.proofs.turns.give_mix.Goals as goal

pub turns-preserved : goal.turns-preserved
turns-preserved g c =
    let turned = c.in_ok-turn_at.ensures.turned in
    let size : c.len.result ≡ length c.turns.guests.live.items = (let ok = c.turns.guests.live.ok.0 in let l = c.len.ensures in omega arith) in
    let live : length c.turns.guests.live.items ≡ length (live_from (threads_of c.turns.guests.all.items) 0) = ap (λ (l : List ℕ). length l) c.turns.invariant.guests.numbers in
    let place : c.picked-place.result ≡ c.mixed-number.result / 2 ^ 33 % length (live_from (threads_of c.turns.guests.all.items) 0) =
    c.picked-place.ensures.picked ∙ ap (λ n. c.mixed-number.result / 2 ^ 33 % n) (size ∙ live) in
    record {
      guests = c.in_ok-turn_at.ensures.guests;
      reached = reached_step c.args.job.now _ _ turned.thread c.turns.invariant.reached turned.step;
      so_far = mixes_on c.args.job.now _ _ _ c.args.seed c.turns.number c.mixed-number.result c.picked-place.result c.in_ok-turn_at.field-0 c.turns.invariant.so_far c.mixed-number.ensures place turned;
    }

pub returns-clause-ran : goal.returns-clause-ran
returns-clause-ran g c =
    let none : length c.turns.guests.live.items ≡ 0 = (let ok = c.turns.guests.live.ok.0 in let t = c.turns-test.ensures in grind (arith, nat_tests, t, ok)) in
    mixes_end c.args.job.now _ _ c.args.seed c.turns.number c.turns.invariant.so_far (sym c.turns.invariant.guests.numbers ∙ nil_from_length c.turns.guests.live.items none)
