-- The words that each of the two calls serves.
use Rattle.std.proofs.Common.{ℕ, zero, suc, ◌+◌, ◌<◌, ◌≤◌, ◌≡◌, Bool, true, false, List, [], ◌∷◌, ◌++◌, length, take, refl, sym, ap, ◌∙◌, inl, inr, subst, arith}
use Rattle.std.specs.Prelude.{codes, IfOk, MatchResult, Result}
use Rattle.std.specs.Str.{bytes_eq}
use Rattle.std.proofs.lemmas.Result.{MatchResult-weaker}
use Rattle.cet_cli.specs.Faults.{HasCause}
use Rattle.cet_cli.specs.Grammar.{Begins, FaultyWord, IsAmong, IsLine}
use Rattle.cet_cli.specs.Words.{HasNumber, IsCommand, IsPlain, IsSmp, Means, MeansPlain, begins_smp, choices_of, command_of, commands, is_threaded, smp, smp_word}
use Rattle.cet_cli.specs.Settings.{SettingsData}
use Rattle.cet_cli.specs.declared.options.Choices.{Choices}
use Rattle.cet_cli.specs.declared.words.Command.{Command}
use Rattle.cet_cli.specs.declared.words.Command.TheVariants as command
use Rattle.cet_cli.specs.declared.words.CliFault.{CliFault}
use Rattle.cet_cli.specs.declared.words.CliFault.TheVariants.{NoMemory, Usage}
use Rattle.cet_cli.proofs.CommandWords.{Row, means_number}
use Rattle.cet_cli.proofs.Faulty.{faulty_here}

-- ---- a row's word tells whether its command is a threaded run

threaded_row : (row : Row) → IsAmong row commands → (operands : List (List ℕ)) (choices : Choices) → is_threaded (command_of row.name operands choices) ≡ bytes_eq row.word smp_word
threaded_row row (inl e) operands choices = rw (e) refl
threaded_row row (inr (inl e)) operands choices = rw (e) refl
threaded_row row (inr (inr (inl e))) operands choices = rw (e) refl
threaded_row row (inr (inr (inr (inl e)))) operands choices = rw (e) refl
threaded_row row (inr (inr (inr (inr (inl e))))) operands choices = rw (e) refl
threaded_row row (inr (inr (inr (inr (inr (inl e)))))) operands choices = rw (e) refl
threaded_row row (inr (inr (inr (inr (inr (inr (inl e))))))) operands choices = rw (e) refl
threaded_row row (inr (inr (inr (inr (inr (inr (inr none))))))) operands choices = absurd none

pub means_threaded : (words : List (List ℕ)) (c : Command) → Means words c → is_threaded c ≡ begins_smp words
means_threaded words c m =
    ap is_threaded m.is ∙ threaded_row m.row m.among m.operands (choices_of m.given) ∙ sym (ap begins_smp m.line.whole)

-- a threaded run is `smp`
pub threaded_is : (c : Command) → is_threaded c ≡ true → (settings : SettingsData) × (workers : ℕ) × (c ≡ command.Smp settings workers)
threaded_is (command.Smp settings workers) e = (settings, workers, refl)
threaded_is (command.Run settings) e = cc
threaded_is (command.Replay settings plan) e = cc
threaded_is command.Dis e = cc
threaded_is (command.Asm with) e = cc
threaded_is command.Check e = cc
threaded_is (command.Bench n) e = cc

to_plain : (words : List (List ℕ)) → begins_smp words ≡ false → IsCommand words → IsPlain words
to_plain words e (c, m) = (c, record { means = m; plain = means_threaded words c m ∙ e })

of_plain : (words : List (List ℕ)) → IsPlain words → IsCommand words
of_plain words (c, m) = (c, m.means)

pub plain_first : (words : List (List ℕ)) → IsPlain words → begins_smp words ≡ false
plain_first words (c, m) = sym (means_threaded words c m.means) ∙ m.plain

to_smp : (words : List (List ℕ)) → begins_smp words ≡ true → IsCommand words → IsSmp words
to_smp words e (c, m) =
    let is = threaded_is c (means_threaded words c m ∙ e) in
    (is.0, is.1, subst (Means words) is.2 m)

of_smp : (words : List (List ℕ)) → IsSmp words → IsCommand words
of_smp words (settings, workers, m) = (command.Smp settings workers, m)

pub smp_first : (words : List (List ℕ)) → IsSmp words → begins_smp words ≡ true
smp_first words (settings, workers, m) = sym (means_threaded words (command.Smp settings workers) m)

-- ---- there are words of both

abbrev dis_words : List (List ℕ)
dis_words = codes "dis" ∷ []

dis_line : IsCommand dis_words
dis_line = (
  command.Dis,
  record {
    row = _;
    among = inr (inr (inl refl));
    operands = [];
    given = [];
    line = record { options = []; whole = refl; values = tt; spelled = refl; taken = tt; apart = tt; needed = tt };
    is = refl;
  },
)

smp_line : IsCommand (smp_word ∷ [])
smp_line = (
  command_of smp.name [] (choices_of []),
  record {
    row = smp;
    among = inr (inr (inr (inr (inr (inr (inl refl))))));
    operands = [];
    given = [];
    line = record { options = []; whole = refl; values = tt; spelled = refl; taken = tt; apart = tt; needed = tt };
    is = refl;
  },
)

plain_begins : Begins IsPlain []
plain_begins = (dis_words, to_plain dis_words refl dis_line)

smp_begins : Begins IsSmp []
smp_begins = (smp_word ∷ [], to_smp (smp_word ∷ []) refl smp_line)

none_begins : (A : List (List ℕ) → Type 0) → Begins A [] → (n : ℕ) → Begins A (take n [])
none_begins A b zero = b
none_begins A b (suc n) = b

-- ---- a first word of the other call's

pub faulty_plain_first : (words : List (List ℕ)) → begins_smp words ≡ true → FaultyWord IsPlain words 1
faulty_plain_first [] e = cc
faulty_plain_first (word ∷ words) e = faulty_here IsPlain (word ∷ words) 0 (omega arith) plain_begins (λ b.
    (let never : false ≡ true = sym (plain_first (word ∷ b.0) b.1) ∙ e in cc))

no_words : (words : List (List ℕ)) → words ≡ [] → IsSmp words → ⊥
no_words words none is = (let never : false ≡ true = sym (ap begins_smp none) ∙ smp_first words is in cc)

pub faulty_smp_first : (words : List (List ℕ)) → begins_smp words ≡ false → FaultyWord IsSmp words 1
faulty_smp_first [] e = record {
  refused = no_words [] refl;
  before = λ n l. none_begins IsSmp smp_begins n;
  here = inr refl;
}
faulty_smp_first (word ∷ words) e = faulty_here IsSmp (word ∷ words) 0 (omega arith) smp_begins (λ b.
    (let never : false ≡ true = sym e ∙ smp_first (word ∷ b.0) b.1 in cc))

-- ---- behind it the first faulty word is that of all commands

module _ (A : List (List ℕ) → Type 0) (first : Bool) (to : (l : List (List ℕ)) → begins_smp l ≡ first → IsCommand l → A l) (from : (l : List (List ℕ)) → A l → IsCommand l) (none : Begins A []) where
  front_begins : (word : List ℕ) (words : List (List ℕ)) → bytes_eq word smp_word ≡ first → (n : ℕ) → Begins IsCommand (take n (word ∷ words)) → Begins A (take n (word ∷ words))
  front_begins word words e zero b = none
  front_begins word words e (suc n) (rest, is) = (rest, to (word ∷ (take n words ++ rest)) e is)

  faulty_front : (word : List ℕ) (words : List (List ℕ)) (number : ℕ) → bytes_eq word smp_word ≡ first → FaultyWord IsCommand (word ∷ words) number → FaultyWord A (word ∷ words) number
  faulty_front word words number e f = record {
    refused = λ is. f.refused (from (word ∷ words) is);
    before = λ n l. front_begins word words e n (f.before n l);
    here = elim f.here [ inl h ↦ inl (h.0, λ b. h.1 (b.0, from _ b.1)) | inr e ↦ inr e ];
  }

none_faulty : (number : ℕ) → FaultyWord IsCommand [] number → FaultyWord IsPlain [] number
none_faulty number f = record {
  refused = λ is. f.refused (of_plain [] is);
  before = λ n l. none_begins IsPlain plain_begins n;
  here = elim f.here [ inl h ↦ inl (h.0, λ b. h.1 (b.0, of_plain _ b.1)) | inr e ↦ inr e ];
}

pub faulty_plain : (words : List (List ℕ)) (number : ℕ) → begins_smp words ≡ false → FaultyWord IsCommand words number → FaultyWord IsPlain words number
faulty_plain [] number e f = none_faulty number f
faulty_plain (word ∷ words) number e f = faulty_front IsPlain false to_plain of_plain plain_begins word words number e f

pub faulty_smp : (words : List (List ℕ)) (number : ℕ) → begins_smp words ≡ true → FaultyWord IsCommand words number → FaultyWord IsSmp words number
faulty_smp [] number e f = cc
faulty_smp (word ∷ words) number e f = faulty_front IsSmp true to_smp of_smp smp_begins word words number e f

-- ---- what is read

abbrev Read : Type 0
Read = Result Command CliFault

plain_cause : (words : List (List ℕ)) (fault : CliFault) → begins_smp words ≡ false → HasCause IsCommand words fault → HasCause IsPlain words fault
plain_cause words (Usage number) e f = faulty_plain words number e f
plain_cause words NoMemory e is = to_plain words e is

pub smp_fault : (words : List (List ℕ)) (fault : CliFault) → begins_smp words ≡ true → HasCause IsCommand words fault → HasCause IsSmp words fault
smp_fault words (Usage number) e f = faulty_smp words number e f
smp_fault words NoMemory e is = to_smp words e is

pub plain_read : (words : List (List ℕ)) (r : Read) → begins_smp words ≡ false → MatchResult r (Means words) (HasCause IsCommand words) → MatchResult r (MeansPlain words) (HasCause IsPlain words)
plain_read words r e h = MatchResult-weaker r h
    (λ c m. record { means = m; plain = means_threaded words c m ∙ e })
    (λ fault f. plain_cause words fault e f)

-- the number of what is read is one that it may have
pub number_read : (words : List (List ℕ)) (r : Read) → MatchResult r (Means words) (HasCause IsCommand words) → IfOk r HasNumber
number_read words r h = MatchResult-weaker r h (λ c m. means_number words c m) (λ fault f. tt)
