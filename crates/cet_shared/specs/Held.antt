-- What a pass knows, and what a table is made with. Source: own.
use Rattle.std.specs.Prelude.{◌≡◌, ℕ, ◌-◌, ◌^◌, ◌+◌, ◌==◌, false, cond, List, [], ◌∷◌, ◌++◌, Option, Some, None}
use Rattle.atomic_table.specs.Seated.{TableId}
use Rattle.cet_words.specs.Job.{JobData}
use Rattle.cet_words.specs.Layout.{thread_limit}
use Rattle.cet_page.specs.Core.{Core, After, core_at, first_core}
use Rattle.cet_page.specs.Machine.{Thread, thread_after}

-- The job; the pass's own thread, with those that were gathered behind it; the threads that these bore and that have no pass
-- yet, the newest first; and the parts that it has of those that all passes have together.
pub record Held : Type 0 where
  pub job : JobData
  pub threads : List Thread
  pub born : List Thread
  pub parts : ℕ

-- the threads that a view holds
abbrev pub held : Held → List Thread
held view = view.threads ++ view.born

abbrev pub no_job : JobData
no_job = record { image = record { entry = 0; marked = false; tracked = false; segments = [] }; procs = 0; limit = 0; signals = [] }

-- the view of a pass that was gathered
abbrev pub nobody : Held
nobody = record { job = no_job; threads = []; born = []; parts = 0 }

-- ---- parts

-- all parts together
abbrev pub whole : ℕ
whole = 2 ^ (thread_limit - 1)

-- The parts that a thread gets with its pass. So the thread and all that may be born after it have parts enough: twice as many
-- as it gets are left where it is born.
abbrev pub parts_of : (number : ℕ) → ℕ
parts_of number = 2 ^ (thread_limit - 1 - number)

-- ---- threads come and go

-- a thread before its first access
abbrev pub new_thread : Core → Thread
new_thread core = record { core = core; trace = [] }

abbrev pub newborn : Option Core → List Thread
newborn None = []
newborn (Some core) = new_thread core ∷ []

-- the first pass
abbrev pub first_view : JobData → Held
first_view job = record { job = job; threads = new_thread (first_core job) ∷ []; born = []; parts = whole }

abbrev pub first_of : List Thread → Thread
first_of [] = new_thread (core_at 0)
first_of (x ∷ xs) = x

abbrev pub rest_of : List Thread → List Thread
rest_of [] = []
rest_of (x ∷ xs) = xs

-- the own thread of a pass, and those gathered behind it
abbrev pub own : Held → Thread
own view = first_of view.threads

abbrev pub gathered : Held → List Thread
gathered view = rest_of view.threads

-- the view after an access of its own thread left this
abbrev pub moved : Held → After → Held
moved view left = record {
  job = view.job;
  threads = thread_after (own view) left ∷ gathered view;
  born = newborn left.child ++ view.born;
  parts = view.parts;
}

-- the first thread with this number, if there is one
abbrev pub picked : (number : ℕ) → List Thread → List Thread
picked number [] = []
picked number (x ∷ xs) = cond (x.core.arch.number == number) (x ∷ []) (picked number xs)

-- the others
abbrev pub without : (number : ℕ) → List Thread → List Thread
without number [] = []
without number (x ∷ xs) = cond (x.core.arch.number == number) xs (x ∷ without number xs)

-- the child of this number comes before the others
abbrev pub brought : (number : ℕ) → Held → Held
brought number view = record { job = view.job; threads = view.threads; born = picked number view.born ++ without number view.born; parts = view.parts }

-- the view of a pass whose child of this number has got a pass of its own
abbrev pub without_child : (number : ℕ) → Held → Held
without_child number view = record {
  job = view.job;
  threads = view.threads;
  born = without number view.born;
  parts = view.parts - parts_of number;
}

-- a thread alone, in the pass that it got
abbrev pub alone : JobData → Thread → Held
alone job own = record { job = job; threads = own ∷ []; born = []; parts = parts_of own.core.arch.number }

-- the child that comes first gets a pass of its own: what is left, and its pass
abbrev pub without_first_of : Held → List Thread → Held
without_first_of view [] = view
without_first_of view (x ∷ xs) = record { job = view.job; threads = view.threads; born = xs; parts = view.parts - parts_of x.core.arch.number }

abbrev pub without_first : Held → Held
without_first view = without_first_of view view.born

abbrev pub first_child_of : JobData → List Thread → Held
first_child_of job [] = nobody
first_child_of job (x ∷ xs) = alone job x

abbrev pub first_child : Held → Held
first_child view = first_child_of view.job view.born

-- a pass gathered another
abbrev pub together : Held → Held → Held
together view other = record {
  job = view.job;
  threads = view.threads ++ other.threads;
  born = view.born ++ other.born;
  parts = view.parts + other.parts;
}

-- ---- as contracts see them

-- a pass: the table that it steps on, and what it knows
pub record Standing : Type 0 where
  pub table_id : TableId
  pub view : Held

-- a table, and the job that it was made with
pub record Place : Type 0 where
  pub table_id : TableId
  pub job : JobData

-- the pass is one of this table, and of its job
pub record IsOf (place : Place) (pass : Standing) : Type 0 where
  pub table : pass.table_id ≡ place.table_id
  pub job : pass.view.job ≡ place.job

-- the pass has a thread of its own, which is this one
abbrev pub OwnIs : Core → List Thread → Type 0
OwnIs core [] = ⊥
OwnIs core (x ∷ xs) = x.core ≡ core
