-- Grammars of words, as tables of commands and options, and the first faulty word of a list. Source: own.
use Rattle.std.specs.Prelude.{ℕ, ◌+◌, ◌<◌, ◌≤◌, ◌≡◌, ◌≢◌, ◌⊎◌, true, List, [], ◌∷◌, ◌++◌, length, take, codes, Option, Some, None}
use Rattle.cet_cli.specs.Values.{Value, fits}

-- An option: its name, its word, its value, where it has one, and its part. A line has at most one option of each part: an option
-- that stands alone has a part of its own, and options that exclude each other have one part.
pub record OptionRow (O : Type 0) : Type 0 where
  pub name : O
  pub word : List ℕ
  pub value : Option Value
  pub part : ℕ

-- A command: its name, its word, its words without a name, the options that it takes, and the parts of which a line has an option.
pub record CommandRow (C O : Type 0) : Type 0 where
  pub name : C
  pub word : List ℕ
  pub operands : List Value
  pub options : List (OptionRow O)
  pub needs : List ℕ

-- an option that is given, and its value, which is empty where the option has none
pub record Given (O : Type 0) : Type 0 where
  pub option : OptionRow O
  pub value : List ℕ

-- it is one of the rows
abbrev pub IsAmong : {A : Type 0} → A → List A → Type 0
IsAmong row [] = ⊥
IsAmong row (r ∷ rs) = (row ≡ r) ⊎ IsAmong row rs

-- the words of an option: its own, or that and its value, in the next word or behind `=` in the same
abbrev pub IsSpelled : (word : List ℕ) → Option Value → (value : List ℕ) → (words : List (List ℕ)) → Type 0
IsSpelled word None value words = (value ≡ []) × (words ≡ word ∷ [])
IsSpelled word (Some v) value words = (fits v value ≡ true) × ((words ≡ word ∷ value ∷ []) ⊎ (words ≡ (word ++ codes "=" ++ value) ∷ []))

-- options, one after another
abbrev pub AreOptions : {O : Type 0} → List (Given O) → (words : List (List ℕ)) → Type 0
AreOptions [] words = words ≡ []
AreOptions (g ∷ gs) words = (first : List (List ℕ)) × (rest : List (List ℕ)) × IsSpelled g.option.word g.option.value g.value first × AreOptions gs rest × (words ≡ first ++ rest)

-- words without a name, one for each value
abbrev pub AreValues : List Value → (words : List (List ℕ)) → Type 0
AreValues [] [] = Unit {0}
AreValues [] (w ∷ ws) = ⊥
AreValues (v ∷ vs) [] = ⊥
AreValues (v ∷ vs) (w ∷ ws) = (fits v w ≡ true) × AreValues vs ws

-- each is an option of the table
abbrev pub AreTaken : {O : Type 0} → List (OptionRow O) → List (Given O) → Type 0
AreTaken options [] = Unit {0}
AreTaken options (g ∷ gs) = IsAmong g.option options × AreTaken options gs

-- no option of this part is given
abbrev pub NoneOf : {O : Type 0} → (part : ℕ) → List (Given O) → Type 0
NoneOf part [] = Unit {0}
NoneOf part (g ∷ gs) = (g.option.part ≢ part) × NoneOf part gs

-- an option of this part is given
abbrev pub OneOf : {O : Type 0} → (part : ℕ) → List (Given O) → Type 0
OneOf part [] = ⊥
OneOf part (g ∷ gs) = (g.option.part ≡ part) ⊎ OneOf part gs

-- no two are of one part
abbrev pub AreApart : {O : Type 0} → List (Given O) → Type 0
AreApart [] = Unit {0}
AreApart (g ∷ gs) = NoneOf g.option.part gs × AreApart gs

-- an option of each of these parts is given
abbrev pub HasAll : {O : Type 0} → (parts : List ℕ) → List (Given O) → Type 0
HasAll [] given = Unit {0}
HasAll (p ∷ ps) given = OneOf p given × HasAll ps given

-- The words are the command's own, its words without a name, and then options in any order: it takes each of them, no two are of
-- one part, and none is missing of those that it needs.
pub record IsLine {C O : Type 0} (row : CommandRow C O) (operands : List (List ℕ)) (given : List (Given O)) (words : List (List ℕ)) : Type 0 where
  pub options : List (List ℕ)
  pub whole : words ≡ row.word ∷ (operands ++ options)
  pub values : AreValues row.operands operands
  pub spelled : AreOptions given options
  pub taken : AreTaken row.options given
  pub apart : AreApart given
  pub needed : HasAll row.needs given

-- the words are a line of some command of the table
pub record IsIn {C O : Type 0} (table : List (CommandRow C O)) (words : List (List ℕ)) : Type 0 where
  pub row : CommandRow C O
  pub among : IsAmong row table
  pub operands : List (List ℕ)
  pub given : List (Given O)
  pub line : IsLine row operands given words

module _ (Accepted : List (List ℕ) → Type 0) where
  -- an accepted list begins with these words
  abbrev pub Begins : List (List ℕ) → Type 0
  Begins words = (rest : List (List ℕ)) × Accepted (words ++ rest)

  -- The words are not accepted, and the word of this number, counted from 1, is the first with which no accepted list
  -- goes on; where there is none, words are missing after the last.
  pub record FaultyWord (words : List (List ℕ)) (number : ℕ) : Type 0 where
    pub refused : ¬ Accepted words
    pub before : (n : ℕ) → n < number → Begins (take n words)
    pub here : ((number ≤ length words) × ¬ Begins (take number words)) ⊎ (number ≡ length words + 1)
