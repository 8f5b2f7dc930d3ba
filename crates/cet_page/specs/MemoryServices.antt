-- The services on memory by their numbers. Source: Linux for the numbers (arch/x86/entry/syscalls).
use Rattle.std.specs.Prelude.{◌==◌, if◌then◌else◌}
use Rattle.cet_isa.specs.declared.threads.Arch.{Arch}
use Rattle.cet_page.specs.Finish.{rax}
use Rattle.cet_page.specs.Gate.{Work, failed}
use Rattle.cet_page.specs.MapShadowStack.{map_shadow_stack}
use Rattle.cet_page.specs.Mmap.{mmap, munmap}
use Rattle.cet_page.specs.Script.{done}
use Rattle.cet_page.specs.declared.services.Errno.TheVariants as errno

-- mmap, munmap and map_shadow_stack; every other number is no call
abbrev pub memory_service : Arch → Work
memory_service arch =
    if rax arch == 9 then mmap arch
    else if rax arch == 11 then munmap arch
    else if rax arch == 453 then map_shadow_stack arch
    else done (failed arch errno.NoSys)
