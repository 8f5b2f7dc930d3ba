-- Each access brings a thread nearer to its end. Source: own.
use Rattle.std.specs.Prelude.{ℕ, ◌+◌, ◌-◌, ◌*◌, length, Option, Some, None}
use Rattle.cet_words.specs.Job.{JobData}
use Rattle.cet_isa.specs.declared.threads.End.{End}
use Rattle.cet_page.specs.Core.{Core}

-- A bound on the accesses that a thread may still make: 4,096 for each record that it may still make, and for each listed
-- signal that it may still post, and 4,096 more, less those of the present row.
abbrev pub left_of : JobData → Core → Option End → ℕ
left_of job core (Some e) = 0
left_of job core None = 4096 * (job.limit - core.arch.count) + 4096 * (length job.signals - core.arch.posted) + (4096 - core.vals.accesses)
