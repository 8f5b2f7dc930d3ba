-- What the kernel is entered for, and its work there. Source: own.
use Rattle.std.specs.Prelude.{◌≤◌}
use Rattle.cet_words.specs.Job.{JobData}
use Rattle.cet_isa.specs.declared.threads.Arch.{Arch}
use Rattle.cet_page.specs.Delivery.{fault_delivery, pending_delivery}
use Rattle.cet_page.specs.Gate.{Work}
use Rattle.cet_page.specs.Services.{service}
use Rattle.cet_cpu.specs.declared.kernel.Entry.{Entry}
use Rattle.cet_cpu.specs.declared.kernel.Entry.TheVariants as entry

abbrev pub work_of : JobData → Arch → Entry → Work
work_of job arch entry.Service = service job arch
work_of job arch (entry.Fault e) = fault_delivery arch e
work_of job arch (entry.Pending signal) = pending_delivery arch signal

-- signals are numbered from 1 to 31
abbrev pub IsEntry : Entry → Type 0
IsEntry entry.Service = Unit {0}
IsEntry (entry.Fault e) = Unit {0}
IsEntry (entry.Pending signal) = (1 ≤ signal) × (signal ≤ 31)
