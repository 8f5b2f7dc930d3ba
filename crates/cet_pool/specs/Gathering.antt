-- What a finished run of all threads leaves. Source: own.
use Rattle.std.specs.Prelude.{◌≡◌, ℕ, ◌≤◌, List, [], ◌∷◌, ◌++◌, map}
use Rattle.cet_words.specs.Job.{JobData}
use Rattle.cet_own.specs.Told.{kept_pointers}
use Rattle.cet_page.specs.Machine.{Machine, Thread, run}
use Rattle.cet_run.specs.Outcome.{thread_out}
use Rattle.cet_shared.specs.Held.{Held, IsOf, Place}
use Rattle.cet_shared.specs.Rule.{HoldExactly}
use Rattle.cet_shared.specs.Closing.{AreAll}
use Rattle.cet_pool.specs.declared.drives.Gathered.{Gathered}
use Rattle.cet_pool.specs.declared.lives.Live.{Live}
use Rattle.cet_pool.specs.Going.{own}

-- no thread has a lower number than the one before it, or than n
abbrev pub Ascends : (n : ℕ) → List Thread → Type 0
Ascends n [] = Unit {0}
Ascends n (x ∷ xs) = (n ≤ x.core.arch.number) × Ascends x.core.arch.number xs

-- The pass is one of this table and has gathered all threads, by number, with no child left. The records and ends beside it
-- are those of these threads, and the pointers those of the ones that keep their stacks.
pub record IsGathered (place : Place) (done : Gathered) : Type 0 where
  pub of : IsOf place done.last
  pub all : AreAll done.last.view.threads
  pub born : done.last.view.born ≡ []
  pub order : Ascends 0 done.last.view.threads
  pub threads : done.threads ≡ map thread_out done.last.view.threads
  pub ssps : done.ssps ≡ kept_pointers done.last.view.threads

-- the same while the threads of some passes wait: of these, in order, those are not gathered yet
pub record IsGathering (place : Place) (ordered waiting : List Live) (done : Gathered) : Type 0 where
  pub of : IsOf place done.last
  pub born : done.last.view.born ≡ []
  pub all : done.last.view.threads ++ map own waiting ≡ map own ordered
  pub threads : done.threads ++ map thread_out (map own waiting) ≡ map thread_out (map own ordered)
  pub ssps : done.ssps ++ kept_pointers (map own waiting) ≡ kept_pointers (map own ordered)

-- these turns lead from the start to the threads that the view holds, and no others
abbrev pub LeadsTo : JobData → Held → (start : Machine) → (turns : List ℕ) → Type 0
LeadsTo job view start turns = HoldExactly (run job start turns).threads (view ∷ [])
