-- The two values that are written to EXIT. Source: own.
use Rattle.std.proofs.Common.{ℕ, ◌+◌, refl, arith}
use Rattle.std.specs.Prelude.{◌%◌}
use Rattle.cet_isa.specs.declared.threads.FaultName.{FaultName}
use Rattle.cet_isa.specs.declared.threads.FaultName.TheVariants.{Ud, Gp, Pf, Ac, Cp}
use Rattle.cet_page.specs.Gate.{signal_of}
use Rattle.cet_own.specs.ExitWord.{IsEnding, exited, killed}

pub by_status : (n : ℕ) → IsEnding (0x100 + n % 256)
by_status n = exited (n % 256) (omega arith) refl

pub by_signal : (name : FaultName) → IsEnding (0x200 + signal_of name)
by_signal Ud = killed 4 (omega arith) (omega arith) refl
by_signal Gp = killed 11 (omega arith) (omega arith) refl
by_signal Pf = killed 11 (omega arith) (omega arith) refl
by_signal Ac = killed 11 (omega arith) (omega arith) refl
by_signal Cp = killed 11 (omega arith) (omega arith) refl
