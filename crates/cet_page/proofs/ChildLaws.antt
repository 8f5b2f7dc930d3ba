-- The thread that an access bears, where it bears one. Source: own.
use Rattle.std.proofs.Common.{ap, sym, ◌∙◌}
use Rattle.std.specs.Prelude.{◌≡◌, ℕ, List, Option, Some, None, refl}
use Rattle.cet_words.specs.Job.{JobData}
use Rattle.cet_words.specs.Change.{Change}
use Rattle.cet_words.specs.declared.accesses.Access.{Access}
use Rattle.cet_page.specs.Script.{Wants}
use Rattle.cet_page.specs.Core.{Core, row_played, answered, taken, changes_of, next_changes, child_of}
use Rattle.cet_page.specs.Within.{Waits, IsCore}
use Rattle.cet_page.proofs.WithinLaws.{child_waits}

-- the child, if there is one, is a thread of the job
abbrev pub ChildAt : JobData → Option Core → Type 0
ChildAt job None = Unit {0}
ChildAt job (Some core) = IsCore job core

at_child : (job : JobData) (child : Option Core) → ((core : Core) → child ≡ Some core → IsCore job core) → ChildAt job child
at_child job None h = tt
at_child job (Some core) h = h core refl

-- what an access of a waiting thread bears is a thread of the job
pub child_at : (job : JobData) (core : Core) (answer : ℕ) → Waits job core → ChildAt job (taken job core answer).child
child_at job core answer h = at_child job (taken job core answer).child (child_waits job core answer h)

-- the child is that of the changes that come with the access
pub child_taken : (job : JobData) (core : Core) (answer : ℕ) (a : Access) (own : ℕ → List Change) → row_played job core.arch core.vals ≡ Wants a own →
    (taken job core answer).child ≡ child_of core.arch (next_changes job core answer)
unfolding taken
child_taken job core answer a own e =
    ap (λ c. (answered job core answer c).child) e ∙ sym (ap (λ c. child_of core.arch (changes_of c answer)) e)
