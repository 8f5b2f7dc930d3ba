-- The rule of the table of words: one schedule explains the words and all threads. Source: own.
use Rattle.std.specs.Prelude.{◌≡◌, ℕ, ◌+◌, ◌-◌, ◌^◌, ◌≤◌, ◌==◌, ◌⊎◌, cond, nat_lt, List, [], ◌∷◌, length, slice_get, Some}
use mathlib.Core.Option.{some}
use lib.ListN.{get_elem?}
use Rattle.cet_words.specs.Job.{JobData, IsJob}
use Rattle.cet_words.specs.Layout.{thread_limit}
use Rattle.cet_page.specs.Machine.{Machine, Thread, Starts, run}
use Rattle.cet_shared.specs.Held.{Held, held, nobody, parts_of, whole}

-- the thread is one of these
abbrev pub Among : Thread → List Thread → Type 0
Among y [] = ⊥
Among y (x ∷ xs) = (x ≡ y) ⊎ Among y xs

-- how many of these threads have the number n
abbrev pub times : (n : ℕ) → List Thread → ℕ
times n [] = 0
times n (x ∷ xs) = cond (x.core.arch.number == n) 1 0 + times n xs

abbrev pub total : (Held → ℕ) → List Held → ℕ
total f [] = 0
total f (v ∷ vs) = f v + total f vs

-- The views hold exactly these threads, each at its number in the list, and each number in one view.
pub record HoldExactly (threads : List Thread) (views : List Held) : Type 0 where
  pub each : (id : ℕ) (v : Held) (y : Thread) → get_elem? views id ≡ some v → Among y (held v) → slice_get threads y.core.arch.number ≡ Some y
  pub once : (n : ℕ) → total (λ v. times n (held v)) views ≡ cond (nat_lt n (length threads)) 1 0

-- the parts that these threads are to get with their passes
abbrev pub owed : List Thread → ℕ
owed [] = 0
owed (x ∷ xs) = parts_of x.core.arch.number + owed xs

-- A view knows the job, and has parts enough for its children, and as many again as the next thread is to be born with.
pub record IsView (job : JobData) (count : ℕ) (view : Held) : Type 0 where
  pub knows : view.job ≡ job
  pub parts : owed view.born + 2 ^ (thread_limit - count) ≤ view.parts

-- each view that isn't spent is one
abbrev pub AreViews : JobData → (count : ℕ) → List Held → Type 0
AreViews job count views = (id : ℕ) (v : Held) → get_elem? views id ≡ some v → (v ≡ nobody) ⊎ IsView job count v

-- Some run of the job, by one schedule, has exactly these words, and its threads are exactly those that the views hold, each in
-- one of them.
pub record Explained (job : JobData) (words : List ℕ) (views : List Held) : Type 0 where
  pub is_job : IsJob job
  pub start : Machine
  pub starts : Starts job start
  pub schedule : List ℕ
  pub words_are : (run job start schedule).words ≡ words
  pub threads_are : HoldExactly (run job start schedule).threads views
  pub views_are : AreViews job (length (run job start schedule).threads) views
  pub parts_are : total (λ v. v.parts) views ≡ whole
