-- The stated schedules, as relations on lists of turns. Source: own.
use Rattle.std.specs.Prelude.{◌≡◌, ℕ, ◌+◌, ◌*◌, ◌/◌, ◌%◌, ◌^◌, Bool, true, false, cond, List, [], ◌∷◌, ◌++◌, length, drop, Option, Some, None, slice_get, All, IsSome}
use Rattle.std.specs.Option.{option_or}
use Rattle.cet_words.specs.Job.{JobData}
use Rattle.cet_isa.specs.declared.threads.End.{End}
use Rattle.cet_page.specs.Machine.{Machine, Thread, run, step}

abbrev pub goes_on : Option End → Bool
goes_on None = true
goes_on (Some e) = false

-- the number of the first live thread of a list whose first thread has number n
abbrev pub first_live : List Thread → (n : ℕ) → Option ℕ
first_live [] n = None
first_live (thread ∷ threads) n = cond (goes_on thread.core.over) (Some n) (first_live threads (n + 1))

abbrev pub after_last : Option ℕ → ℕ
after_last None = 0
after_last (Some t) = t + 1

-- the least live number above that of the last turn, or else the least
abbrev pub next_turn : List Thread → (last : Option ℕ) → Option ℕ
next_turn threads last = option_or (first_live (drop (after_last last) threads) (after_last last)) (first_live threads 0)

-- Robin, after a last turn: these are its turns until every thread has ended
abbrev pub IsRobin : JobData → Machine → (last : Option ℕ) → (turns : List ℕ) → Type 0
IsRobin job m last [] = next_turn m.threads last ≡ None
IsRobin job m last (t ∷ ts) = (next_turn m.threads last ≡ Some t) × IsRobin job (step job m t) (Some t) ts

-- Robin from the start
abbrev pub ByRobin : JobData → Machine → (turns : List ℕ) → Type 0
ByRobin job start turns = IsRobin job start None turns

-- the given turns, and then Robin anew
pub record IsFull (job : JobData) (m : Machine) (given turns : List ℕ) : Type 0 where
  pub rest : List ℕ
  pub whole : turns ≡ given ++ rest
  pub robin : IsRobin job (run job m given) None rest

-- the numbers of the live threads
abbrev pub live_from : List Thread → (n : ℕ) → List ℕ
live_from [] n = []
live_from (thread ∷ threads) n = cond (goes_on thread.core.over) (n ∷ live_from threads (n + 1)) (live_from threads (n + 1))

-- the numbers of Mix, one after another
abbrev pub mixed : ℕ → ℕ
mixed x = (x * 6364136223846793005 + 1442695040888963407) % 2 ^ 64

abbrev pub mix_turn : List ℕ → (x : ℕ) → Option ℕ
mix_turn [] x = None
mix_turn (t ∷ ts) x = slice_get (t ∷ ts) (x / 2 ^ 33 % length (t ∷ ts))

-- Mix from a number: each turn goes to the live thread that the next number picks, until every thread has ended
abbrev pub IsMix : JobData → Machine → (x : ℕ) → (turns : List ℕ) → Type 0
IsMix job m x [] = live_from m.threads 0 ≡ []
IsMix job m x (t ∷ ts) = (mix_turn (live_from m.threads 0) (mixed x) ≡ Some t) × IsMix job (step job m t) (mixed x) ts

-- every thread has ended
abbrev pub IsComplete : Machine → Type 0
IsComplete m = All (λ thread. IsSome thread.core.over) m.threads
