-- What a finished run comes to: its threads and its process's end. Source: own.
use Rattle.std.specs.Prelude.{ℕ, ◌+◌, ◌-◌, ◌==◌, nat_lt, if◌then◌else◌, List, [], ◌∷◌, Option, Some, None, unwrap_or}
use Rattle.cet_isa.specs.declared.threads.End.{End}
use Rattle.cet_isa.specs.declared.threads.End.TheVariants as ending
use Rattle.cet_page.specs.Machine.{Thread}
use Rattle.cet_run.specs.declared.outcomes.ProcessEnd.{ProcessEnd}
use Rattle.cet_run.specs.declared.outcomes.ProcessEnd.TheVariants as process
use Rattle.cet_run.specs.declared.outcomes.ThreadOut.{ThreadOut}

-- A thread with its trace and its end. One that has not ended counts as one whose group ended.
abbrev pub thread_out : Thread → ThreadOut
thread_out thread = record { records = thread.trace; end = unwrap_or thread.core.over ending.Group }

-- the number n, where a thread stopped at the limit
abbrev pub limit_of : End → (n : ℕ) → Option ℕ → Option ℕ
limit_of ending.Limit n others = Some n
limit_of (ending.Exit status) n others = others
limit_of ending.Group n others = others

-- the first thread that stopped at the limit, of a list whose first thread has number n
abbrev pub first_limit : List ThreadOut → (n : ℕ) → Option ℕ
first_limit [] n = None
first_limit (out ∷ outs) n = limit_of out.end n (first_limit outs (n + 1))

abbrev pub status_in : End → ℕ
status_in (ending.Exit status) = status
status_in ending.Group = 0
status_in ending.Limit = 0

-- the exit status of thread 0
abbrev pub first_status : List ThreadOut → ℕ
first_status [] = 0
first_status (out ∷ outs) = status_in out.end

abbrev pub ended_by : List ThreadOut → Option ℕ → ProcessEnd
ended_by outs (Some thread) = process.Limit thread
ended_by outs None = process.Exit (first_status outs)

-- The process's end, by the word EXIT: 0x100 + status after exit_group, 0x200 + signal after a kill. Where it is 0, some
-- thread stopped at the limit, or thread 0's exit status is the process's.
unfoldable pub process_end : (exit : ℕ) → List ThreadOut → ProcessEnd
process_end exit outs =
    if exit == 0 then ended_by outs (first_limit outs 0)
    else if nat_lt exit 0x200 then process.Exit (exit - 0x100)
    else process.Killed (exit - 0x200)
