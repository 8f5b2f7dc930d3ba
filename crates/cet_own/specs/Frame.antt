-- What a thread claims of its script, whatever the other threads do between its accesses. Source: own, in the manner of
-- rely-guarantee reasoning.
use Rattle.std.proofs.Common.{zero, suc}
use Rattle.std.specs.Prelude.{◌≡◌, ℕ, List, [], ◌∷◌, Option, Some}
use Rattle.cet_words.specs.Change.{Change}
use Rattle.cet_words.specs.declared.accesses.Access.{Access}
use Rattle.cet_words.specs.declared.accesses.Access.TheVariants as access
use Rattle.cet_isa.specs.declared.threads.Fault.{Fault}
use Rattle.cet_page.specs.Script.{Script, done, fault, ask, tell}
use Rattle.cet_page.specs.Trail.{Visit, visit}

-- What one thread sees of the others, and what it owes them. Everything is about the past of its present row, too: its trail.
pub record Rules (B : Type 0) : Type 1 where
  -- what the others may have made of the book since the last access
  pub Rely : B → B → Type 0
  pub same : (b : B) → Rely b b
  pub again : (a b c : B) → Rely a b → Rely b c → Rely a c
  -- what the thread knows of an access and its answer
  pub Known : List Visit → B → Access → (answer : ℕ) → Type 0
  -- what it owes there, with these changes
  pub Owed : List Visit → B → Access → (answer : ℕ) → List Change → Type 0
  pub after : B → List Change → Option B

-- The claim of a thread on the rest of its row. Before each access During holds. At the access, whatever the others did and
-- whatever is answered, the thread pays what it owes, the book has its changes, and it claims what follows with one visit
-- more in the trail. At the end Q holds of the books before and after the last access and of the result, or F of the fault.
abbrev pub Steady : {A B : Type 0} → Rules B → (During : List Visit → B → Type 0) → (Q : List Visit → B → B → A → Type 0) → (F : List Visit → B → Fault → Type 0) → (past : List Visit) →
    (before b : B) → Script A → Type 0
Steady rules During Q F past before b (done x) = Q past before b x
Steady rules During Q F past before b (fault e) = F past b e
Steady {A} {B} rules During Q F past before b (ask a changes f) =
    During past b × ((now : B) → rules.Rely b now → (v : ℕ) → rules.Known past now a v → rules.Owed past now a v (changes v) × (next : B) × (rules.after now (changes v) ≡ Some next) ×
    Steady rules During Q F (visit a v (changes v) ∷ past) now next (f v))
Steady {A} {B} rules During Q F past before b (tell word value changes s) =
    During past b × ((now : B) → rules.Rely b now → rules.Known past now (access.Store word value) 0 →
    rules.Owed past now (access.Store word value) 0 changes × (next : B) × (rules.after now changes ≡ Some next) ×
    Steady rules During Q F (visit (access.Store word value) 0 changes ∷ past) now next s)

-- the claim on what is left of a script after some accesses and the answers kept of them
abbrev pub SteadyAt : {A B : Type 0} → Rules B → (During : List Visit → B → Type 0) → (Q : List Visit → B → B → A → Type 0) → (F : List Visit → B → Fault → Type 0) → (past : List Visit) →
    (before b : B) → Script A → ℕ → List ℕ → Type 0
SteadyAt rules During Q F past before b s zero [] = Steady rules During Q F past before b s
SteadyAt rules During Q F past before b s zero (v ∷ vs) = ⊥
SteadyAt rules During Q F past before b (done x) (suc n) vs = ⊥
SteadyAt rules During Q F past before b (fault e) (suc n) vs = ⊥
SteadyAt rules During Q F past before b (ask a changes f) (suc n) [] = ⊥
SteadyAt rules During Q F past before b (ask a changes f) (suc n) (v ∷ vs) = SteadyAt rules During Q F (visit a v (changes v) ∷ past) before b (f v) n vs
SteadyAt rules During Q F past before b (tell word value changes s) (suc n) vs = SteadyAt rules During Q F (visit (access.Store word value) 0 changes ∷ past) before b s n vs
