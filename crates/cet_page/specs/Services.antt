-- The services of the kernel by their numbers, and SYSCALL. Source: Intel SDM volume 2 (SYSCALL), and Linux for the numbers
-- (arch/x86/entry/syscalls).
use Rattle.std.specs.Prelude.{if◌then◌else◌}
use Rattle.cet_words.specs.Job.{JobData}
use Rattle.cet_isa.specs.declared.threads.Arch.{Arch}
use Rattle.cet_page.specs.Finish.{rax}
use Rattle.cet_page.specs.Gate.{Work, entered}
use Rattle.cet_page.specs.MemoryServices.{memory_service}
use Rattle.cet_page.specs.Processes.{is_process_service, process_service}
use Rattle.cet_page.specs.SigReturn.{is_signal_service, signal_service}
use Rattle.cet_page.specs.Script.{Script}
use Rattle.cet_page.specs.declared.finishes.Finish.{Finish}

-- the service whose number is in RAX: one on processes and threads, one on signals, or one on memory
abbrev pub service : JobData → Arch → Work
service job arch =
    if is_process_service (rax arch) then process_service arch
    else if is_signal_service (rax arch) then signal_service job arch
    else memory_service arch

-- SYSCALL
abbrev pub syscall : JobData → Arch → Script Finish
syscall job arch = entered job arch (service job arch)
