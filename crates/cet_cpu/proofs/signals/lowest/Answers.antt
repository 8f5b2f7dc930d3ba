use Rattle.std.proofs.Common.{◌∙◌, sym, arith}
use Rattle.cet_cpu.proofs.SignalLaws.{lowest_here, lowest_later, lowest_end}
use Rattle.cet_cpu.proofs.signals.lowest.Goals as goal

pub returns-then-set-signal-eq1-clause-signal : goal.returns-then-set-signal-eq1-clause-signal
returns-then-set-signal-eq1-clause-signal c =
    sym (c.loop-signal.invariant ∙ lowest_here c.args.set c.loop-signal.signal (let t = c.loop-signal-test.true in omega arith) c.if-set-signal-eq1.true)

pub loop-signal-preserved : goal.loop-signal-preserved
loop-signal-preserved c =
    c.loop-signal.invariant ∙ lowest_later c.args.set c.loop-signal.signal (let t = c.loop-signal-test.true in omega arith) c.if-set-signal-eq1.false

pub returns-clause-signal : goal.returns-clause-signal
returns-clause-signal c =
    sym (c.loop-signal.invariant ∙ lowest_end c.args.set c.loop-signal.signal (let t = c.loop-signal-test.false in omega arith))
