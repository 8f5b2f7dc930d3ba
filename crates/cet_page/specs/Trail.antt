-- The trail of a row: the accesses that a thread has made in it so far, with what they answered and what they changed in
-- the book. All that is said of the past of a row is read off its trail. Source: own.
use Rattle.std.proofs.Common.{zero, suc}
use Rattle.std.specs.Prelude.{ℕ, List, [], ◌∷◌}
use Rattle.cet_words.specs.Change.{Change}
use Rattle.cet_words.specs.Job.{JobData}
use Rattle.cet_words.specs.declared.accesses.Access.{Access}
use Rattle.cet_words.specs.declared.accesses.Access.TheVariants as access
use Rattle.cet_isa.specs.declared.threads.Arch.{Arch}
use Rattle.cet_page.specs.Script.{Script, done, fault, ask, tell}
use Rattle.cet_page.specs.ValsData.{ValsData, no_vals, vals_after}
use Rattle.cet_page.specs.Row.{row}
use Rattle.cet_page.specs.Core.{Core, unheld}

-- an access that was made, its answer (0 for a store), and its changes
pub record Visit : Type 0 where
  pub access : Access
  pub answer : ℕ
  pub changes : List Change

abbrev pub visit : Access → (answer : ℕ) → List Change → Visit
visit a answer changes = record { access = a; answer = answer; changes = changes }

-- The trail after so many more accesses, which go the way of a script, where those that are no store answered these values.
-- The newest stands first, before what was made earlier.
abbrev pub trail : {A : Type 0} → ℕ → Script A → List ℕ → List Visit → List Visit
trail zero s values past = past
trail (suc n) (done x) values past = past
trail (suc n) (fault e) values past = past
trail (suc n) (ask a changes k) [] past = past
trail (suc n) (ask a changes k) (value ∷ values) past = trail n (k value) values (visit a value (changes value) ∷ past)
trail (suc n) (tell word value changes k) values past = trail n k values (visit (access.Store word value) 0 changes ∷ past)

-- what a trail shows: the number of its accesses, and the answers that are kept of them
abbrev pub vals_of : List Visit → ValsData
vals_of [] = no_vals
vals_of (x ∷ past) = vals_after (vals_of past) x.access x.answer

-- the trail of a thread's row after what was seen of it
abbrev pub row_trail : JobData → Arch → ValsData → List Visit
row_trail job arch seen = trail seen.accesses (row job (unheld arch)) seen.values []

-- the trail of a thread's present row
abbrev pub trail_of : JobData → Core → List Visit
trail_of job core = row_trail job core.arch core.vals
