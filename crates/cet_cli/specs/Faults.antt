-- Why words are read as no command. Source: own.
use Rattle.std.specs.Prelude.{List, ℕ}
use Rattle.cet_cli.specs.Grammar.{FaultyWord}
use Rattle.cet_cli.specs.declared.words.CliFault.{CliFault}
use Rattle.cet_cli.specs.declared.words.CliFault.TheVariants.{NoMemory, Usage}

-- of lists of words some are accepted: the words have this first faulty word; or they are accepted, and no memory was left for the
-- settings of their command
abbrev pub HasCause : (Accepted : List (List ℕ) → Type 0) → (words : List (List ℕ)) → CliFault → Type 0
HasCause Accepted words (Usage number) = FaultyWord Accepted words number
HasCause Accepted words NoMemory = Accepted words
