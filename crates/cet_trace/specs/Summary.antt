-- The line that `bench` writes of a run. Source: own.
use Rattle.std.specs.Prelude.{ℕ, List, ◌∷◌, length, codes, sum_by}
use Rattle.std.specs.Fmt.{decimal}
use Rattle.cet_run.specs.declared.outcomes.Outcome.{Outcome}
use Rattle.cet_run.specs.declared.outcomes.ThreadOut.{ThreadOut}
use Rattle.cet_trace.specs.Line.{line}
use Rattle.cet_trace.specs.Report.{process_words}

-- the records of all threads
abbrev pub records_of : List ThreadOut → ℕ
records_of threads = sum_by (λ (thread : ThreadOut). length thread.records) threads

-- how often was swapped, the records of all threads, and the process's end as in the last line of a report
unfoldable pub summary_of : ℕ → Outcome → List ℕ
summary_of n outcome =
    line (codes "bench") (decimal n ∷ codes "records" ∷ decimal (records_of outcome.threads) ∷ codes "process" ∷ process_words outcome.process)
