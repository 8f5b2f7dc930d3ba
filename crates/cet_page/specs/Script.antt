-- A script: which accesses are made one after another, what each means for the book, and what is done with the answers.
-- Source: own. It is the form in which each instruction and each kernel call is written.
use Rattle.std.proofs.Common.{zero, suc}
use Rattle.std.specs.Prelude.{ℕ, List, [], ◌∷◌, Option, Some, None}
use Rattle.cet_words.specs.declared.accesses.Access.{Access}
use Rattle.cet_words.specs.declared.accesses.Access.TheVariants as access
use Rattle.cet_isa.specs.declared.threads.Fault.{Fault}
use Rattle.cet_words.specs.Change.{Change, Called, Returned, Raised, Acquired, Released, Claimed, Seeded, Born, Pushed, Popped, Ended, Busied, Freed}

pub data Script (A : Type 0) : Type 0 where
  -- it is over, with this result
  done : A → Script A
  -- it ends in a fault
  fault : Fault → Script A
  -- an access whose answer is kept, the changes that come with each answer, and what follows
  ask : Access → (ℕ → List Change) → (ℕ → Script A) → Script A
  -- a store, its changes, and what follows
  tell : (word value : ℕ) → List Change → Script A → Script A

-- one script after another
infixl 10 ◌>>=◌
unfoldable pub ◌>>=◌ : {A B : Type 0} → Script A → (A → Script B) → Script B
(done x) >>= f = f x
(fault e) >>= f = fault e
(ask a changes k) >>= f = ask a changes (λ value. k value >>= f)
(tell word value changes k) >>= f = tell word value changes (k >>= f)

-- what a script has come to after some accesses
pub data Played (A : Type 0) : Type 0 where
  -- it was over before this number of accesses and these answers were used
  Completed : A → (left : ℕ) → List ℕ → Played A
  Faulted : Fault → Played A
  -- it wants this access next, which comes with these changes for each answer
  Wants : Access → (ℕ → List Change) → Played A

-- what a script has come to after so many accesses, of which those that are no store gave these answers
abbrev pub play : {A : Type 0} → Script A → ℕ → List ℕ → Played A
play (done x) n values = Completed x n values
play (fault e) n values = Faulted e
play (ask a changes k) zero values = Wants a changes
play (ask a changes k) (suc n) [] = Wants a changes
play (ask a changes k) (suc n) (value ∷ values) = play (k value) n values
play (tell word value changes k) zero values = Wants (access.Store word value) (λ answer. changes)
play (tell word value changes k) (suc n) values = play k n values

-- nothing changes, whatever the access answers
abbrev pub no_changes : ℕ → List Change
no_changes value = []

-- the child's number and the start of its shadow stack, where one of the changes is a birth
abbrev pub birth : List Change → Option (ℕ × ℕ)
birth [] = None
birth (Born child start ∷ changes) = Some (child, start)
birth (Called back ∷ changes) = birth changes
birth (Returned ∷ changes) = birth changes
birth (Raised count ∷ changes) = birth changes
birth (Acquired at ∷ changes) = birth changes
birth (Released ∷ changes) = birth changes
birth (Claimed start pages maker ∷ changes) = birth changes
birth (Seeded start blanks ∷ changes) = birth changes
birth (Pushed restorer ∷ changes) = birth changes
birth (Popped ∷ changes) = birth changes
birth (Ended ∷ changes) = birth changes
birth (Busied stack ∷ changes) = birth changes
birth (Freed stack ∷ changes) = birth changes

-- The supervisor stack that a thread holds after an access with these changes: the gate's first exchange takes it where the
-- token is free, and the gate's last exchange gives it back.
abbrev pub held_after : List Change → Option ℕ → Option ℕ
held_after [] held = held
held_after (Busied k ∷ changes) held = held_after changes (Some k)
held_after (Freed k ∷ changes) held = held_after changes None
held_after (Called back ∷ changes) held = held_after changes held
held_after (Returned ∷ changes) held = held_after changes held
held_after (Raised count ∷ changes) held = held_after changes held
held_after (Acquired at ∷ changes) held = held_after changes held
held_after (Released ∷ changes) held = held_after changes held
held_after (Claimed start pages maker ∷ changes) held = held_after changes held
held_after (Seeded start blanks ∷ changes) held = held_after changes held
held_after (Born child start ∷ changes) held = held_after changes held
held_after (Pushed restorer ∷ changes) held = held_after changes held
held_after (Popped ∷ changes) held = held_after changes held
held_after (Ended ∷ changes) held = held_after changes held
