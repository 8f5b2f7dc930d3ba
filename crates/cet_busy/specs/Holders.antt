-- Who holds the supervisor stacks, and what the gate's accesses make of it, for any words and any threads, however their
-- accesses are mixed. Source: Intel SDM volume 1 (supervisor shadow-stack tokens); own for the words below the tokens.
use Rattle.std.specs.Prelude.{◌≡◌, ◌↔◌, ℕ, ◌+◌, ◌-◌, ◌<◌, Bool, true, false, ◌==◌, if◌then◌else◌, List, [], ◌∷◌, length, slice_index, Option, Some, None}
use Rattle.cet_words.specs.Access.{answer, after}
use Rattle.cet_words.specs.Change.{Change}
use Rattle.cet_words.specs.Job.{ImageData}
use Rattle.cet_words.specs.Layout.{token, token_page, token_word, kernel_return, word_count}
use Rattle.cet_words.specs.Start.{IsStart}
use Rattle.cet_words.specs.declared.accesses.Access.{Access}
use Rattle.cet_words.specs.declared.accesses.Access.TheVariants as access
use Rattle.cet_page.specs.Gate.{busied_if, freed, gate_in, gate_out}
use Rattle.cet_page.specs.Script.{Wants, no_changes, play}
use Rattle.cet_page.specs.declared.finishes.Leaving.{Leaving}

-- ---- holders

-- a thread that holds a supervisor stack, and whether it has stored below the token
pub record Holding : Type 0 where
  pub thread : ℕ
  pub stored : Bool

abbrev pub holding : (thread : ℕ) → (stored : Bool) → Holding
holding thread stored = record { thread = thread; stored = stored }

-- the holder of each stack, if it has one
abbrev pub Holders : Type 0
Holders = ℕ → Option Holding

abbrev pub none_holds : Holders
none_holds k = None

abbrev pub with_holder : (k : ℕ) → Option Holding → Holders → Holders
with_holder k holder holders = λ j. if j == k then holder else holders j

-- ---- what the words tell of them

-- a token is busy exactly where its stack has a holder
abbrev pub token_by : (k : ℕ) → Option Holding → ℕ
token_by k None = token k
token_by k (Some h) = token k + 1

-- below the token of a holder that has stored there stands what it stored
abbrev pub BelowBy : List ℕ → (k : ℕ) → Option Holding → Type 0
BelowBy words k None = Unit {0}
BelowBy words k (Some h) = h.stored ≡ true → slice_index words (token_word k - 1) ≡ kernel_return

pub record Told (words : List ℕ) (holders : Holders) : Type 0 where
  pub tokens : (k : ℕ) → k < 8 → slice_index words (token_word k) ≡ token_by k (holders k)
  pub below : (k : ℕ) → k < 8 → BelowBy words k (holders k)

-- ---- the gate's accesses

-- what a thread does at the gate, from the way in to the way out; Works is any access of the work between them
pub data Doing : Type 0 where
  Looks : Doing
  Takes : Doing
  Stores : Doing
  Works : Access → Doing
  Reads : Doing
  Gives : Doing

abbrev pub access_of : (k : ℕ) → Doing → Access
access_of k Looks = access.Look (token_page k)
access_of k Takes = access.CompareExchange (token_word k) (token k) (token k + 1)
access_of k Stores = access.Store (token_word k - 1) kernel_return
access_of k (Works a) = a
access_of k Reads = access.Load (token_word k - 1)
access_of k Gives = access.CompareExchange (token_word k) (token k + 1) (token k)

-- the access leaves all tokens and the words below them
pub record Spares (words : List ℕ) (a : Access) : Type 0 where
  pub tokens : (k : ℕ) → k < 8 → slice_index (after words a) (token_word k) ≡ slice_index words (token_word k)
  pub below : (k : ℕ) → k < 8 → slice_index (after words a) (token_word k - 1) ≡ slice_index words (token_word k - 1)

-- Thread t may do this at stack k: what comes after the way in's exchange is done by the holder alone, in order.
abbrev pub May : (t k : ℕ) → List ℕ → Holders → Doing → Type 0
May t k words holders Looks = Unit {0}
May t k words holders Takes = Unit {0}
May t k words holders Stores = holders k ≡ Some (holding t false)
May t k words holders (Works a) = Spares words a
May t k words holders Reads = holders k ≡ Some (holding t true)
May t k words holders Gives = holders k ≡ Some (holding t true)

-- the holders after it, by its answer
abbrev pub holders_after : (t k : ℕ) → Doing → (value : ℕ) → Holders → Holders
holders_after t k Looks v holders = holders
holders_after t k Takes v holders = if v == token k then with_holder k (Some (holding t false)) holders else holders
holders_after t k Stores v holders = with_holder k (Some (holding t true)) holders
holders_after t k (Works a) v holders = holders
holders_after t k Reads v holders = holders
holders_after t k Gives v holders = with_holder k None holders

-- What is found: the way in finds the token free exactly where the stack has no holder, and the way out finds what the way in
-- left.
abbrev pub Finds : (k : ℕ) → Holders → Doing → (value : ℕ) → Type 0
Finds k holders Looks v = Unit {0}
Finds k holders Takes v = v ≡ token k ↔ holders k ≡ None
Finds k holders Stores v = Unit {0}
Finds k holders (Works a) v = Unit {0}
Finds k holders Reads v = v ≡ kernel_return
Finds k holders Gives v = v ≡ token k + 1

-- ---- the law

-- one thread's doing at one stack
pub record Did : Type 0 where
  pub thread : ℕ
  pub stack : ℕ
  pub doing : Doing

-- Along these doings, whoever does them: words and holders are in step at each moment, and each doing that may be finds what
-- it should.
abbrev pub Holds : List ℕ → Holders → List Did → Type 0
Holds words holders [] = Told words holders
Holds words holders (d ∷ ds) =
    Told words holders × (d.stack < 8 → May d.thread d.stack words holders d.doing → Finds d.stack holders d.doing (answer words (access_of d.stack d.doing)) ×
    Holds (after words (access_of d.stack d.doing)) (holders_after d.thread d.stack d.doing (answer words (access_of d.stack d.doing)) holders) ds)

pub record HeldStacks : Type 0 where
  -- from the words of a start, when no stack has a holder
  pub along : (image : ImageData) (words : List ℕ) (ds : List Did) → IsStart image words → Holds words none_holds ds
  -- and from any words and holders that are in step
  pub from : (words : List ℕ) (holders : Holders) (ds : List Did) → length words ≡ word_count → Told words holders → Holds words holders ds
  -- the ways in and out are these accesses
  pub looks : (k : ℕ) → play (gate_in k) 0 [] ≡ Wants (access_of k Looks) no_changes
  pub takes : (k entry : ℕ) → play (gate_in k) 1 (entry ∷ []) ≡ Wants (access_of k Takes) (busied_if k)
  pub stores : (k entry : ℕ) → play (gate_in k) 2 (entry ∷ token k ∷ []) ≡ Wants (access_of k Stores) no_changes
  pub reads : (ends : Leaving) (k : ℕ) → play (gate_out ends k) 0 [] ≡ Wants (access_of k Reads) no_changes
  pub gives : (ends : Leaving) (k value : ℕ) → play (gate_out ends k) 1 (value ∷ []) ≡ Wants (access_of k Gives) (λ found. freed ends k)
