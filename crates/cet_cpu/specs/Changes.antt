-- What a function comes to that changes a thread's state in its place. Source: own.
use Rattle.std.specs.Prelude.{◌≡◌, Result, Ok, Err}
use Rattle.cet_isa.specs.declared.threads.Arch.{Arch}
use Rattle.cet_page.specs.declared.cursors.Suspended.{Suspended}
use Rattle.cet_page.specs.declared.finishes.Finish.{Finish}
use Rattle.cet_page.specs.declared.finishes.Finish.TheVariants as finish
use Rattle.cet_cpu.specs.declared.kernel.RowEnd.{RowEnd}
use Rattle.cet_cpu.specs.declared.kernel.RowEnd.TheVariants as row_end

-- what a row comes to, by the state after it and what it completed
abbrev pub finish_with : Arch → RowEnd → Finish
finish_with after (row_end.Noted noted) = finish.Noted after noted
finish_with after row_end.Posted = finish.Posted after
finish_with after (row_end.Exited noted status) = finish.Exited after noted status
finish_with after row_end.Stopped = finish.Stopped

-- the state is as it was where the row isn't over, or the process has ended
abbrev pub Stays : (before after : Arch) → Result RowEnd Suspended → Type 0
Stays before after (Ok (row_end.Noted noted)) = Unit {0}
Stays before after (Ok row_end.Posted) = Unit {0}
Stays before after (Ok (row_end.Exited noted status)) = Unit {0}
Stays before after (Ok row_end.Stopped) = after ≡ before
Stays before after (Err stop) = after ≡ before
