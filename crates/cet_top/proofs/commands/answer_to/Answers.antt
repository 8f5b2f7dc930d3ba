use Rattle.std.proofs.Common.{IfOk, subst, sym}
use Rattle.cet_cli.specs.declared.words.Command.{Command}
use Rattle.cet_top.specs.Answer.{Answers}
use Rattle.cet_top.proofs.commands.answer_to.Goals as goal

pub returns-in-Replay : goal.returns-in-Replay
returns-in-Replay c =
    subst (λ (k : Command). IfOk c.run_bytes-in-Replay.result (λ answer. Answers k c.args.bytes.now answer.status answer.output)) (sym c.in-Replay.is) c.run_bytes-in-Replay.ensures
