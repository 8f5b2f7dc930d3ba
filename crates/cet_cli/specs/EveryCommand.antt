-- A table of all commands that are planned, and what the reader of a table makes of some lists of words by it. It shows that the form
-- of the grammar carries them; only the commands of `Words` are offered. Names are the words themselves. Source: own.
use Rattle.std.specs.Prelude.{ℕ, ◌≡◌, List, [], ◌∷◌, ◌++◌, codes, Option, Some, None}
use Rattle.cet_cli.specs.Grammar.{CommandRow, OptionRow}
use Rattle.cet_cli.specs.Reader.{stop}
use Rattle.cet_cli.specs.Values.{Number, OneOf, Signals, Turns, Value, items, place_among, schedule_of, signals_of}

-- ---- options

abbrev pub option : (word : List ℕ) → (part : ℕ) → Value → OptionRow (List ℕ)
option word part value = record { name = word; word = word; value = Some value; part = part }

-- without a value
abbrev pub flag : (word : List ℕ) → (part : ℕ) → OptionRow (List ℕ)
flag word part = record { name = word; word = word; value = None; part = part }

abbrev pub common : List (OptionRow (List ℕ))
common =
    option (codes "--limit") 0 (Number 1 100000) ∷ option (codes "--procs") 1 (Number 1 8)
    ∷ option (codes "--trace") 2 (OneOf (codes "full") (codes "last" ∷ [])) ∷ option (codes "--signals") 3 Signals ∷ []

-- `--schedule` and `--mix` exclude each other
abbrev pub plans : List (OptionRow (List ℕ))
plans = option (codes "--schedule") 4 Turns ∷ option (codes "--mix") 4 (Number 0 18446744073709551615) ∷ []

-- ---- commands

abbrev pub command : (word : List ℕ) → List Value → List (OptionRow (List ℕ)) → (needs : List ℕ) → CommandRow (List ℕ) (List ℕ)
command word operands options needs = record { name = word; word = word; operands = operands; options = options; needs = needs }

abbrev pub every_command : List (CommandRow (List ℕ) (List ℕ))
every_command =
    command (codes "asm") [] (flag (codes "--runtime") 0 ∷ []) [] ∷ command (codes "dis") [] [] []
    ∷ command (codes "check") [] (flag (codes "--pads") 0 ∷ []) [] ∷ command (codes "run") [] common []
    ∷ command (codes "replay") [] (common ++ plans ++ flag (codes "--order") 5 ∷ []) (4 ∷ [])
    ∷ command (codes "bench") (Number 1 1000 ∷ []) [] [] ∷ command (codes "ring") (Number 2 16 ∷ Number 1 200 ∷ []) [] []
    ∷ command (codes "audit") [] [] [] ∷ command (codes "smp") [] (common ++ option (codes "--workers") 4 (Number 1 16) ∷ []) [] ∷ []

-- ---- rows: words with a space between two, and the number of the first faulty one, where there is one

abbrev pub Stops : (text : List ℕ) → Option ℕ → Type 0
Stops text number = stop every_command (items 32 text) ≡ number

-- what excludes each other, what is needed, what has no value, and words without a name
abbrev pub StopsByForm : Type 0
StopsByForm =
    Stops [] (Some 1) × Stops (codes "walk") (Some 1) × Stops (codes "replay") (Some 2) × Stops (codes "replay --limit 5") (Some 4)
    × Stops (codes "replay --mix 1 --schedule 0") (Some 4) × Stops (codes "replay --mix 1 --order --order") (Some 5)
    × Stops (codes "run --procs 8 --procs 8") (Some 4) × Stops (codes "run --order") (Some 2) × Stops (codes "run --workers 4") (Some 2)
    × Stops (codes "asm --runtime=") (Some 2) × Stops (codes "check --pads x") (Some 3) × Stops (codes "bench") (Some 2)
    × Stops (codes "bench 1001") (Some 2) × Stops (codes "bench 1000 5") (Some 3) × Stops (codes "ring 16") (Some 3)
    × Stops (codes "ring 16 201") (Some 3) × Stops (codes "ring 16 200") None × Stops (codes "bench 1000") None
    × Stops (codes "asm --runtime") None × Stops (codes "replay --order --mix=0xffffffffffffffff --limit 100000") None

-- which texts are a value
abbrev pub StopsByValue : Type 0
StopsByValue =
    Stops (codes "run --trace first") (Some 3) × Stops (codes "run --trace=last") None × Stops (codes "smp --workers 17") (Some 3)
    × Stops (codes "replay --mix 18446744073709551616") (Some 3) × Stops (codes "run --signals=") None
    × Stops (codes "run --signals 0:0:10,0:0:32") (Some 3) × Stops (codes "run --signals 0:6:10,") (Some 3)
    × Stops (codes "run --signals 0:6:10,31:100000:31") None × Stops (codes "replay --schedule=") None
    × Stops (codes "replay --schedule 0*47,32") (Some 3) × Stops (codes "replay --schedule 0*0") (Some 3)
    × Stops (codes "replay --schedule=0*1000000,1") (Some 2) × Stops (codes "replay --schedule 0*999999,1 --procs 1") None

-- what texts mean
abbrev pub MeansTexts : Type 0
MeansTexts =
    (place_among (codes "full" ∷ codes "last" ∷ []) (codes "last") ≡ Some 1) × (signals_of [] ≡ Some []) × (schedule_of [] ≡ Some []) × (schedule_of (codes "0*3,1") ≡ Some (0 ∷ 0 ∷ 0 ∷ 1 ∷ []))
    × (signals_of (codes "0:6:10,31:0x10:1") ≡ Some (record { thread = 0; count = 6; number = 10 } ∷ record { thread = 31; count = 16; number = 1 } ∷ []))
