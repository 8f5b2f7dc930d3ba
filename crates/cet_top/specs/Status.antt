-- The exit code of a status. Source: own.
use Rattle.std.specs.Prelude.{ℕ}
use Rattle.cet_top.specs.declared.status.Status.{Status}
use Rattle.cet_top.specs.declared.status.Status.TheVariants as status

abbrev pub status_code : Status → ℕ
status_code status.Done = 0
status_code (status.Usage word) = 1
status_code status.ReadFault = 2
status_code status.WriteFault = 3
status_code (status.Refused rule offset) = 4
status_code (status.AsmRefused line rule) = 5
status_code status.TooLong = 6
status_code (status.Killed signal) = 7
status_code (status.Limit thread) = 8
status_code status.NoMemory = 9
