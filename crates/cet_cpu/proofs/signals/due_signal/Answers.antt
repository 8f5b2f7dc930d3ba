use Rattle.std.proofs.Common.{◌∙◌, sym, ap, refl}
use Rattle.std.specs.Prelude.{option_copied}
use Rattle.cet_cpu.proofs.SignalLaws.{due_at}
use Rattle.cet_cpu.proofs.signals.due_signal.Goals as goal

pub returns-then-signal-arch-clause-due : goal.returns-then-signal-arch-clause-due
returns-then-signal-arch-clause-due c =
    due_at _ c.args.arch.now c.in_ok-signal.signal.now.number c.in_ok-signal.signal.now c.job.invariant
    (sym c.nth_listed.ensures ∙ ap option_copied c.in_ok-signal.was) refl
