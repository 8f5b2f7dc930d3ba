-- The report of an outcome, as lines of text. Source: own.
use Rattle.std.specs.Prelude.{ℕ, ◌-◌, ◌%◌, ◌^◌, List, [], ◌∷◌, ◌++◌, length, drop, codes, if◌then◌else◌, ◌==◌, nat_lt, nat_le}
use Rattle.std.specs.List.{flat_map, enumerate_from}
use Rattle.std.specs.Fmt.{decimal}
use Rattle.cet_base.specs.Digits.{hex16}
use Rattle.cet_book.specs.declared.regions.Shown.{Shown}
use Rattle.cet_book.specs.declared.regions.Shown.TheVariants as shown
use Rattle.cet_book.specs.declared.regions.StackReport.{StackReport}
use Rattle.cet_isa.specs.declared.threads.End.{End}
use Rattle.cet_isa.specs.declared.threads.End.TheVariants as end
use Rattle.cet_isa.specs.declared.threads.FaultName.{FaultName}
use Rattle.cet_isa.specs.declared.threads.FaultName.TheVariants as fault
use Rattle.cet_isa.specs.declared.threads.What.{What}
use Rattle.cet_isa.specs.declared.threads.What.TheVariants as what
use Rattle.cet_isa.specs.declared.threads.Record.{Record}
use Rattle.cet_run.specs.declared.outcomes.Outcome.{Outcome}
use Rattle.cet_run.specs.declared.outcomes.ProcessEnd.{ProcessEnd}
use Rattle.cet_run.specs.declared.outcomes.ProcessEnd.TheVariants as process
use Rattle.cet_base.specs.declared.styles.Style.{Style}
use Rattle.cet_base.specs.declared.styles.Style.TheVariants as style
use Rattle.cet_run.specs.declared.outcomes.ThreadOut.{ThreadOut}
use Rattle.cet_trace.specs.Line.{line}

abbrev pub fault_name : FaultName → List ℕ
fault_name fault.Ud = codes "#UD"
fault_name fault.Gp = codes "#GP"
fault_name fault.Pf = codes "#PF"
fault_name fault.Ac = codes "#AC"
fault_name fault.Cp = codes "#CP"

abbrev pub record_name : What → List ℕ
record_name what.Step = codes "step"
record_name what.Call = codes "call"
record_name what.Ret = codes "ret"
record_name what.Raise = codes "raise"
record_name what.Take = codes "take"
record_name what.Save = codes "save"
record_name what.Busy = codes "busy"
record_name what.Sys = codes "sys"
record_name what.Claim = codes "claim"
record_name what.Born = codes "born"
record_name what.Wrote = codes "wrote"
record_name what.Signal = codes "signal"
record_name what.Ignore = codes "ignore"
record_name what.SigReturn = codes "sigret"
record_name (what.Fault name) = fault_name name
record_name what.Kill = codes "kill"

-- a record of the thread of this number
unfoldable pub record_text : ℕ → Record → List ℕ
record_text number r =
    line (decimal number) (record_name r.what ∷ hex16 r.rip ∷ decimal r.code ∷ hex16 r.a ∷ hex16 r.b ∷ [])

abbrev pub end_words : End → List (List ℕ)
end_words (end.Exit status) = codes "exit" ∷ decimal status ∷ []
end_words end.Group = codes "group" ∷ []
end_words end.Limit = codes "limit" ∷ []

-- all records, or the last one alone
abbrev pub shown_from : Style → List Record → ℕ
shown_from style.Full records = 0
shown_from style.Last records = length records - 1

unfoldable pub thread_line : ℕ → ThreadOut → List ℕ
thread_line number thread =
    line (codes "thread") (decimal number ∷ codes "records" ∷ decimal (length thread.records) ∷ end_words thread.end)

-- a thread with its number
unfoldable pub thread_text : Style → ℕ × ThreadOut → List ℕ
thread_text kind (number, thread) =
    thread_line number thread ++ flat_map (record_text number) (drop (shown_from kind thread.records) thread.records)

abbrev pub shown_words : Shown → List (List ℕ)
shown_words (shown.Current number) = codes "current" ∷ decimal number ∷ []
shown_words shown.Parked = codes "parked" ∷ []
shown_words shown.Left = codes "left" ∷ []
shown_words shown.Lost = codes "lost" ∷ []

-- An entry by its word: 0 is a blank, bit 63 marks a frame, an address below 2 ^ 32 is a return address, and any other
-- word is a previous SSP whose low two bits are marks.
unfoldable pub entry_text : ℕ → List ℕ
entry_text word =
    if word == 0 then line (codes "  blank") []
    else if nat_le (2 ^ 63) word then line (codes "  frame") (hex16 (word - 2 ^ 63) ∷ [])
    else if nat_lt word (2 ^ 32) then line (codes "  ret") (hex16 word ∷ [])
    else line (codes "  prev") (hex16 (word - word % 4) ∷ [])

-- a lost stack is shown without entries
abbrev pub shown_entries : Shown → List ℕ → List ℕ
shown_entries (shown.Current number) words = words
shown_entries shown.Parked words = words
shown_entries shown.Left words = words
shown_entries shown.Lost words = []

unfoldable pub stack_line : StackReport → List ℕ
stack_line stack = line (codes "region") (hex16 stack.region.start ∷ hex16 stack.region.end ∷ shown_words stack.shown)

unfoldable pub stack_text : StackReport → List ℕ
stack_text stack = stack_line stack ++ flat_map entry_text (shown_entries stack.shown stack.words)

-- a process's end in two words
abbrev pub process_words : ProcessEnd → List (List ℕ)
process_words (process.Exit status) = codes "exit" ∷ decimal status ∷ []
process_words (process.Killed signal) = codes "killed" ∷ decimal signal ∷ []
process_words (process.Limit number) = codes "limit" ∷ decimal number ∷ []

unfoldable pub process_text : ProcessEnd → List ℕ
process_text end = line (codes "process") (process_words end)

unfoldable pub report_of : Outcome → Style → List ℕ
report_of outcome kind =
    line (codes "cetvm report 1") []
    ++ flat_map (thread_text kind) (enumerate_from 0 outcome.threads)
    ++ flat_map stack_text outcome.stacks
    ++ process_text outcome.process
