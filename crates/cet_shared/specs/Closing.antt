-- When a pass has gathered every thread, and what a closed table shows. Source: own.
use Rattle.std.specs.Prelude.{◌≡◌, ◌≢◌, ℕ, ◌<◌, List, [], ◌∷◌, None}
use Rattle.atomic_table.specs.Table.{Step, Me}
use Rattle.cet_words.specs.Job.{JobData, IsJob}
use Rattle.cet_page.specs.Machine.{Machine, Thread, Starts, run}
use Rattle.cet_page.specs.Numbered.{Names}
use Rattle.cet_shared.specs.Held.{Held, held, whole}
use Rattle.cet_shared.specs.Rule.{Among, HoldExactly}

-- one of these threads has the number n
abbrev pub HasNumber : (n : ℕ) → List Thread → Type 0
HasNumber n threads = (y : Thread) × Among y threads × (y.core.arch.number ≡ n)

-- All of these threads have ended, thread 0 is one of them, and so is each that a `born` record of one of them names.
pub record AreAll (threads : List Thread) : Type 0 where
  pub over : (y : Thread) → Among y threads → y.core.over ≢ None
  pub first : HasNumber 0 threads
  pub named : (y : Thread) (n : ℕ) → Among y threads → Names n y.trace → HasNumber n threads

-- one schedule gives these words, and exactly the threads that this view holds
pub record IsRun (job : JobData) (words : List ℕ) (view : Held) : Type 0 where
  pub is_job : IsJob job
  pub start : Machine
  pub starts : Starts job start
  pub schedule : List ℕ
  pub words_are : (run job start schedule).words ≡ words
  pub threads_are : HoldExactly (run job start schedule).threads (view ∷ [])

-- The view holds each thread of a run, of which there is at least one, and its threads name no others.
pub record HoldsAll (view : Held) : Type 0 where
  pub count : ℕ
  pub some : 0 < count
  pub each : (n : ℕ) → n < count → HasNumber n (held view)
  pub named : (y : Thread) (n : ℕ) → Among y (held view) → Names n y.trace → n < count

-- what a look tells a pass with all parts
abbrev pub Audited : {S : Type 0} → Step S → Me S Held → ℕ → Me S Held → Type 0
Audited step before found after = (after ≡ before) × (before.0.parts ≡ whole → HoldsAll before.0)
