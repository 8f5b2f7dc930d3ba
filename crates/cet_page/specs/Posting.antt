-- Which listed signal a thread posts to itself, and which pending one is delivered to it. Source: Linux, signal(7), for
-- pending and masked signals; the list of a job, and that the lowest signal comes first, are own.
use Rattle.std.proofs.Common.{zero, suc}
use Rattle.std.specs.Prelude.{ℕ, ◌+◌, ◌-◌, ◌/◌, ◌%◌, ◌^◌, ◌==◌, nat_le, if◌then◌else◌, List, Option, Some, None, slice_get}
use Rattle.std.specs.List.{filter}
use Rattle.cet_words.specs.Job.{JobData}
use Rattle.cet_words.specs.Layout.{pend_word}
use Rattle.cet_words.specs.declared.images.Signal.{Signal}
use Rattle.cet_isa.specs.declared.threads.Arch.{Arch}
use Rattle.cet_page.specs.Parts.{fetch_or}
use Rattle.cet_page.specs.Script.{Script, done, ◌>>=◌}
use Rattle.cet_page.specs.Structures.{signal_bit, without}
use Rattle.cet_page.specs.declared.finishes.Finish.{Finish}
use Rattle.cet_page.specs.declared.finishes.Finish.TheVariants as finish

-- ---- listed signals

-- those of a list that are for a thread, in order
abbrev pub listed : List Signal → (thread : ℕ) → List Signal
listed signals thread = filter (λ (s : Signal). s.thread == thread) signals

abbrev pub due_by : (count : ℕ) → Option Signal → Option ℕ
due_by count None = None
due_by count (Some s) = if nat_le s.count count then Some s.number else None

-- the next one that the thread hasn't posted, where its count isn't above the thread's
abbrev pub due_signal : JobData → Arch → Option ℕ
due_signal job arch = due_by arch.count (slice_get (listed job.signals arch.number) arch.posted)

-- The posting of a signal is a row of its own, without a record.
unfoldable pub posting : Arch → (signal : ℕ) → Script Finish
posting arch signal = do
  _ ← fetch_or (pend_word arch.number) (signal_bit signal)
  done (finish.Posted (record arch { posted = arch.posted + 1 }))

-- ---- pending signals

-- the lowest of so many signals, from one on, whose bit is set
unfoldable pub lowest : (set from count : ℕ) → Option ℕ
lowest set from zero = None
lowest set from (suc count) = if set / 2 ^ (from - 1) % 2 == 1 then Some from else lowest set (from + 1) count

-- the lowest signal that is pending and not masked; only bits 0 to 30 are of signals
abbrev pub pending_signal : (pending mask : ℕ) → Option ℕ
pending_signal pending mask = lowest (without pending mask) 1 31
