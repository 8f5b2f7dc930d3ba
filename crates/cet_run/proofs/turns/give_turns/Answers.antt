use Rattle.std.proofs.Common.{get_or, ap, sym, ◌∙◌}
use Rattle.cet_page.specs.Machine.{step}
use Rattle.cet_run.proofs.Steps.{reached_step, run_take}
use Rattle.cet_run.proofs.turns.give_turns.Goals as goal

pub loop-number-preserved : goal.loop-number-preserved
loop-number-preserved g c = record {
  guests = c.in_ok-give_turn.ensures.guests;
  reached = reached_step c.args.job.now _ _ _ c.loop-number.invariant.reached c.in_ok-give_turn.ensures.step;
  so_far =
      c.in_ok-give_turn.ensures.step
      ∙ ap (λ m. step c.args.job.now m (get_or c.args.schedule.now c.loop-number.number-index 0)) c.loop-number.invariant.so_far
      ∙ sym (run_take c.args.job.now _ c.args.schedule.now c.loop-number.number-index 0 c.loop-number-test.true);
}
