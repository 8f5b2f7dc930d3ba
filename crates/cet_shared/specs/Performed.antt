-- What a step on the table tells its caller. Source: own.
use Rattle.std.specs.Prelude.{◌≡◌, ℕ, ◌+◌, ◌<◌, ◌≤◌, List, [], ◌∷◌, Option, Some, None, option_map}
use Rattle.atomic_table.specs.Table.{Step, Me}
use Rattle.cet_words.specs.Job.{JobData}
use Rattle.cet_words.specs.declared.accesses.Access.{Access}
use Rattle.cet_words.specs.declared.accesses.Access.TheVariants.{Look, Load, Store, Swap, FetchAdd, FetchOr, FetchAnd, CompareExchange}
use Rattle.cet_page.specs.Core.{Core, After, next_access, taken}
use Rattle.cet_page.specs.Machine.{Thread}
use Rattle.cet_cpu.specs.Cpu.{CpuData}
use Rattle.cet_cpu.specs.declared.threads.Taken.{Taken}
use Rattle.cet_shared.specs.Held.{Held, brought, moved, own, parts_of, picked}
use Rattle.cet_shared.specs.Rule.{Among}

-- what an access answers that found this in its word
abbrev pub told : Access → (found : ℕ) → ℕ
told (Look page) found = found
told (Load word) found = found
told (Store word value) found = 0
told (Swap word value) found = found
told (FetchAdd word value) found = found
told (FetchOr word value) found = found
told (FetchAnd word value) found = found
told (CompareExchange word expected value) found = found

-- so the next access of a thread
abbrev pub told_by : Option Access → (found : ℕ) → ℕ
told_by None found = found
told_by (Some access) found = told access found

-- what a thread's next access leaves of it that found this in its word
abbrev pub left_by : JobData → Core → (found : ℕ) → After
left_by job core found = taken job core (told_by (next_access job core) found)

-- The pass's own thread made its next access, which found this in its word. What that leaves stands in the view, and a thread
-- that it bore has a higher number.
pub record Moves (old : Held) (found : ℕ) (new : Held) : Type 0 where
  pub view : new ≡ moved old (left_by old.job (own old).core found)
  pub above : (child : Core) → (left_by old.job (own old).core found).child ≡ Some child → (own old).core.arch.number < child.arch.number

-- What an access leaves and answers: the pass's own thread made its next access, as one step of the table, and the answer is the
-- record, the child and the end that came of it.
pub record Performs (old new : Held) (answer : Taken) : Type 0 where
  pub found : ℕ
  pub moves : Moves old found new
  pub noted : answer.noted ≡ (left_by old.job (own old).core found).noted
  pub child : option_map (λ (cpu : CpuData). cpu.core) answer.child ≡ (left_by old.job (own old).core found).child
  pub end : answer.end ≡ (left_by old.job (own old).core found).core.over

-- ---- the plays of the table's steps

-- the pass's own thread moved
abbrev pub Acts : {S : Type 0} → Step S → Me S Held → ℕ → Me S Held → Type 0
Acts step before found after = (after.1 ≡ before.1) × Moves before.0 found after.0

-- the child whose number is that of the word that was read comes before the others; it is the one with that number, and there are
-- parts for it
abbrev pub Brings : {S : Type 0} → Step S → Me S Held → ℕ → Me S Held → Type 0
Brings step before found after =
    (after.1 ≡ before.1) × (after.0 ≡ brought step.word before.0)
    × ((y : Thread) → Among y before.0.born → y.core.arch.number ≡ step.word → (picked step.word before.0.born ≡ y ∷ []) × (parts_of step.word ≤ before.0.parts))
