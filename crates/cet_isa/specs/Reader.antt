-- Readers of the front of a list of bytes. Source: own.
use Rattle.std.specs.Prelude.{ℕ, ◌<◌, List, [], ◌∷◌, Result, Ok, Err}

-- each number is a byte
abbrev pub IsBytes : List ℕ → Type 0
IsBytes [] = Unit {0}
IsBytes (b ∷ bs) = (b < 256) × IsBytes bs

-- why a reader has no value: the bytes end too early, or they differ from all that it reads
pub data Miss : Type 0 where
  Ends : Miss
  Differs : Miss

-- one step after another; the first miss ends it
infixl 10 ◌>>=◌
abbrev pub ◌>>=◌ : {A B : Type 0} → Result A Miss → (A → Result B Miss) → Result B Miss
(Ok x) >>= f = f x
(Err m) >>= f = Err m

-- the first value, else Ends where one of the two ends
abbrev pub or_else : {A : Type 0} → Result A Miss → Result A Miss → Result A Miss
or_else (Ok x) r = Ok x
or_else (Err m) (Ok x) = Ok x
or_else (Err Ends) (Err m) = Err Ends
or_else (Err Differs) (Err m) = Err m
