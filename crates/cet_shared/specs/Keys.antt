-- The job that a table is made with, as its key has it. Source: own.
use Rattle.cet_words.specs.Job.{JobData}
use Rattle.cet_shared.specs.declared.rules.Key.{Key}

abbrev pub job_of : Key → JobData
job_of key = record { image = key.image.value; procs = key.procs; limit = key.limit; signals = key.signals.items }
