-- What each part does next: the gate's way in and way out, and the user's SETSSBSY and CLRSSBSY. Source: Intel SDM volume 2
-- (SETSSBSY, CLRSSBSY: #GP(0) at any privilege level but 0); the gate's order is own.
use Rattle.std.specs.Prelude.{ℕ, List, Option, Some, None}
use Rattle.cet_words.specs.Job.{JobData}
use Rattle.cet_isa.specs.declared.threads.Arch.{Arch}
use Rattle.cet_isa.specs.declared.threads.Record.{Record}
use Rattle.cet_page.specs.Finish.{counted}
use Rattle.cet_page.specs.Gate.{busy_record, gate_in, gate_out, stack_of}
use Rattle.cet_page.specs.Parts.{general_protection}
use Rattle.cet_page.specs.Plays.{next_by}
use Rattle.cet_page.specs.Script.{play}
use Rattle.cet_page.specs.declared.finishes.Leaving.TheVariants as leaving
use Rattle.cet_page.specs.declared.nexts.Next.{Next}
use Rattle.cet_page.specs.declared.nexts.Next.TheVariants as nexts
use Rattle.cet_busy.specs.declared.parts.Part.{Part}
use Rattle.cet_busy.specs.declared.parts.Part.TheVariants as parts

-- after the way in: nothing where the work follows, and a record where the stack is busy
abbrev pub come_in : Arch → (k : ℕ) → Option ℕ → Arch × Option Record
come_in arch k None = (arch, None)
come_in arch k (Some found) = (counted arch, Some (busy_record arch k found))

-- after the way out the thread is as it was
abbrev pub come_out : Arch → Unit {0} → Arch × Option Record
come_out arch x = (arch, None)

-- after so many accesses, of which those that are no store gave these answers
abbrev pub next_part : JobData → Arch → Part → ℕ → List ℕ → Next
next_part job arch parts.Setssbsy n values = nexts.Fault general_protection
next_part job arch parts.Clrssbsy n values = nexts.Fault general_protection
next_part job arch parts.In n values = next_by (come_in arch (stack_of job arch)) (play (gate_in (stack_of job arch)) n values)
next_part job arch parts.Out n values = next_by (come_out arch) (play (gate_out leaving.Back (stack_of job arch)) n values)
