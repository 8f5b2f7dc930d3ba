-- What a thread has seen in its present row: how many accesses it made, and the answers that it kept. Source: own.
use Rattle.std.specs.Prelude.{ℕ, List, ◌+◌, ◌++◌, [], ◌∷◌, Bool, true, false, cond}
use Rattle.cet_words.specs.declared.accesses.Access.{Access}
use Rattle.cet_words.specs.declared.accesses.Access.TheVariants as access

pub record ValsData : Type 0 where
  pub accesses : ℕ
  pub values : List ℕ

-- The most values that a row may keep. The row that keeps most is that of rt_sigreturn, which reads a signal's frame: it keeps 29.
abbrev pub most_values : ℕ
most_values = 32

-- The most accesses of a row: the longest, which writes the entries of 1,024 drawn pages, makes 1,032.
abbrev pub most_accesses : ℕ
most_accesses = 4096

abbrev pub no_vals : ValsData
no_vals = record { accesses = 0; values = [] }

-- the answer of every access but a store is kept
abbrev pub keeps : Access → Bool
keeps (access.Store word value) = false
keeps (access.Look page) = true
keeps (access.Load word) = true
keeps (access.Swap word value) = true
keeps (access.FetchAdd word value) = true
keeps (access.FetchOr word value) = true
keeps (access.FetchAnd word value) = true
keeps (access.CompareExchange word expected value) = true

abbrev pub kept_after : List ℕ → Access → ℕ → List ℕ
kept_after values a value = cond (keeps a) (values ++ value ∷ []) values

-- one access more
abbrev pub vals_after : ValsData → Access → ℕ → ValsData
vals_after vals a value = record { accesses = vals.accesses + 1; values = kept_after vals.values a value }
