-- The answer of some rules in a row: a refusal for the first that is broken. Source: own.
use Rattle.std.specs.Prelude.{ℕ, ◌≡◌, ◌+◌, ◌<◌, List, length, slice_index_or, Option, Some, None, Result, Ok, Err}
use Rattle.cet_elf.specs.declared.loads.LoadFault.{LoadFault}
use Rattle.cet_elf.specs.declared.loads.LoadFault.TheVariants.{Refused, NoMemory}

-- the first `count` of these rules hold
abbrev pub HoldBelow : ℕ → List (Option ℕ) → Type 0
HoldBelow count breaches = (k : ℕ) → k < count → slice_index_or breaches k None ≡ None

-- this rule, of those that are numbered from `first` on, is broken at this place, and none before it
abbrev pub BrokenFirst : ℕ → List (Option ℕ) → ℕ → ℕ → Type 0
BrokenFirst first breaches rule offset =
    (k : ℕ) × (k < length breaches) × (rule ≡ first + k) × (slice_index_or breaches k None ≡ Some offset)
    × HoldBelow k breaches

abbrev pub Refusal : ℕ → List (Option ℕ) → Result (Unit {0}) LoadFault → Type 0
Refusal first breaches (Ok _) = HoldBelow (length breaches) breaches
Refusal first breaches (Err (Refused rule offset)) = BrokenFirst first breaches rule offset
Refusal first breaches (Err NoMemory) = ⊥
