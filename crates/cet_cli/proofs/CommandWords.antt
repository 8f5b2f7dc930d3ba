-- The words that are commands, and the first faulty word of others, as their reader finds them.
use Rattle.std.proofs.Common.{ℕ, ◌+◌, ◌<◌, ◌≤◌, ◌≡◌, true, false, List, [], ◌∷◌, ◌++◌, length, take, drop, get_or, Option, Some, None, refl, sym, ap, ◌∙◌, inl, inr, subst, arith, lit<}
use Rattle.std.specs.Prelude.{fold, is_some, map, option_and_then, option_map, slice_get, nat_lt, unwrap_or}
use Rattle.std.proofs.lemmas.List.{take_all, take_at, take_more, drop_more, take-append-drop, length-append, length-take-le}
use Rattle.std.proofs.lemmas.Bool.Decides.{Decides-ltb}
use Rattle.std.proofs.lemmas.Option.{slice_get_within, slice_get-get_or, slice_get-map, get_or_from_slice_get}
use Rattle.cet_base.proofs.NumberLaws.{number_of-decimal}
use Rattle.cet_cli.specs.GoodTable.{good_table}
use Rattle.cet_cli.specs.Grammar.{AreValues, CommandRow, FaultyWord, Given, IsAmong, IsIn, IsLine}
use Rattle.cet_cli.specs.Reader.{Reader, find_command, forget, given_by, may_end, start, step}
use Rattle.cet_cli.proofs.ReaderSteps.{steps}
use Rattle.cet_cli.specs.Values.{Value, number_within}
use Rattle.cet_cli.specs.Words.{HasNumber, IsCommand, Means, most_swaps, most_workers, command_of, commands, defaults, choices_of, with_any, with_given, with_option, with_workers}
use Rattle.cet_cli.specs.declared.options.Choices.{Choices}
use Rattle.cet_cli.specs.declared.options.OptionName.{OptionName}
use Rattle.cet_cli.specs.declared.options.OptionName.TheVariants as option
use Rattle.cet_cli.specs.declared.words.Command.{Command}
use Rattle.cet_cli.specs.declared.words.CommandName.{CommandName}
use Rattle.cet_cli.proofs.Faulty.{faulty_same_lists}
use Rattle.cet_cli.proofs.FaultyLines.{misses, no_command, no_word, read_accepted, same_row, stops, valid_read}
use Rattle.cet_cli.proofs.SignalLaws.{bounds}
use Rattle.cet_cli.proofs.Kept.{kept_by, other_step, with_kept}
use Rattle.cet_cli.proofs.LineReads.{line_read}
use Rattle.cet_cli.proofs.Tables.{all_among, command_among, good_among}
use Rattle.cet_cli.proofs.WordSteps.{fewer_left, left, left_start, stepped, steps_append}

-- the rows are good ones
pub good : good_table commands ≡ true
good = rw (number_of-decimal 1 (lit< tt), number_of-decimal 0 (lit< tt)) refl

abbrev pub Reading : Type 0
Reading = Reader CommandName OptionName (Unit {0})

abbrev pub Row : Type 0
Row = CommandRow CommandName OptionName

-- no command has many words without a name
few_of : (row : Row) → IsAmong row commands → nat_lt (length row.operands) 16 ≡ true
few_of row m = all_among (λ (r : Row). nat_lt (length r.operands) 16) commands row refl m

pub few : (row : Row) → IsAmong row commands → length row.operands < 16
few row m = (Decides-ltb (length row.operands) 16).0 (few_of row m)

-- ---- commands are lines

to_command : (words : List (List ℕ)) → IsIn commands words → IsCommand words
to_command words is = (command_of is.row.name is.operands (choices_of is.given), record { row = is.row; among = is.among; operands = is.operands; given = is.given; line = is.line; is = refl })

to_line : (words : List (List ℕ)) → IsCommand words → IsIn commands words
to_line words (c, m) = record { row = m.row; among = m.among; operands = m.operands; given = m.given; line = m.line }

commanded : (words : List (List ℕ)) (n : ℕ) → FaultyWord (IsIn commands) words n → FaultyWord IsCommand words n
commanded words n f = faulty_same_lists (IsIn commands) IsCommand words n to_command to_line f

-- ---- what the reader finds

pub faulty_none : FaultyWord IsCommand [] 1
faulty_none = commanded [] 1 (no_word forget commands good tt)

pub faulty_first : (word : List ℕ) (words : List (List ℕ)) → None ≡ find_command commands word → FaultyWord IsCommand (word ∷ words) 1
faulty_first word words none = commanded (word ∷ words) 1 (no_command forget commands good tt word words (sym none))

take_next : (xs : List (List ℕ)) (i : ℕ) (x : List ℕ) → slice_get xs i ≡ Some x → (take (i + 1) xs ≡ take i xs ++ x ∷ []) × (drop i xs ≡ x ∷ drop (i + 1) xs) × (length (take i xs) ≡ i) × (i < length xs)
take_next xs i x e =
    let l = slice_get_within xs i x e in
    let here : get_or xs i x ≡ x = get_or_from_slice_get xs i x x e in (
      take_more xs i x l ∙ ap (λ (y : List ℕ). take i xs ++ y ∷ []) here,
      drop_more xs i x l ∙ ap (λ (y : List ℕ). y ∷ drop (i + 1) xs) here,
      length-take-le i xs (omega arith),
      l,
    )

-- what was read so far
pub record SoFar (row : Row) (words : List (List ℕ)) (r : Reading) : Type 0 where
  pub read : steps forget (start row tt) words ≡ Some r
  pub left : length words + left forget r ≤ length row.operands + 17

pub so_far_none : (row : Row) (r : Reading) → r ≡ start row tt → SoFar row [] r
so_far_none row r e = subst (SoFar row []) (sym e) (record { read = refl; left = (let l = left_start forget row tt in omega arith) })

pub so_far_more : (row : Row) (all : List (List ℕ)) (at : ℕ) (word : List ℕ) (r next : Reading) → IsAmong row commands
    → slice_get all at ≡ Some word → SoFar row (take at all) r → Some next ≡ step forget r word → SoFar row (take (at + 1) all) next
so_far_more row all at word r next m here f e =
    let w = take_next all at word here in
    let v = valid_read forget commands good tt row (take at all) r m f.read in
    let fewer = fewer_left forget row r next word v (stepped forget r next word (sym e)) in
    let old = f.left in
    let n = w.2 in
    let size : length (take (at + 1) all) ≡ length (take at all) + 1 = ap (λ (l : List (List ℕ)). length l) w.0 ∙ length-append (take at all) (word ∷ []) in
    record {
      read = ap (steps forget (start row tt)) w.0
          ∙ steps_append forget (start row tt) (take at all) (word ∷ [])
          ∙ ap (option_and_then (λ x. steps forget x (word ∷ []))) f.read
          ∙ ap (option_and_then (λ x. Some x)) (sym e);
      left = omega arith;
    }

pub so_far_stops : (row : Row) (all : List (List ℕ)) (at : ℕ) (word : List ℕ) (r : Reading) → IsAmong row commands
    → slice_get all at ≡ Some word → SoFar row (take at all) r → None ≡ step forget r word → FaultyWord IsCommand (row.word ∷ all) (at + 2)
so_far_stops row all at word r m here f e =
    let w = take_next all at word here in
    let whole : take at all ++ word ∷ drop (at + 1) all ≡ all = ap (λ (l : List (List ℕ)). take at all ++ l) (sym w.1) ∙ take-append-drop at all in
    let s = stops forget commands good tt row (take at all) word (drop (at + 1) all) r m f.read (sym e) in
    commanded (row.word ∷ all) (at + 2) (subst (λ l. FaultyWord (IsIn commands) (row.word ∷ l) (at + 2)) whole
    (subst (λ n. FaultyWord (IsIn commands) (row.word ∷ (take at all ++ word ∷ drop (at + 1) all)) (n + 2)) w.2 s))

pub so_far_misses : (row : Row) (all : List (List ℕ)) (r : Reading) → IsAmong row commands → SoFar row all r → may_end r ≡ false → FaultyWord IsCommand (row.word ∷ all) (length all + 2)
so_far_misses row all r m f short = commanded (row.word ∷ all) (length all + 2) (misses forget commands good tt row all r m f.read short)

-- what the reader takes is a command
pub so_far_means : (row : Row) (all : List (List ℕ)) (r : Reading) → IsAmong row commands → SoFar row all r → may_end r ≡ true → IsCommand (row.word ∷ all)
so_far_means row all r m f h = to_command (row.word ∷ all) (read_accepted forget commands good tt row all r m f.read h)

-- ---- what its options set

-- what was read so far, and what its options set
pub record Made (row : Row) (words : List (List ℕ)) (r : Reading) (choices : Choices) : Type 0 where
  pub far : SoFar row words r
  pub sets : steps with_given (start row defaults) words ≡ Some (with_kept r choices)

pub made_none : (row : Row) (r : Reading) (choices : Choices) → r ≡ start row tt → choices ≡ defaults → Made row [] r choices
made_none row r choices e d = record { far = so_far_none row r e; sets = rw (e, d) refl }

any_given : (choices : Choices) (given : Option (Given OptionName)) → kept_by with_given choices given ≡ with_any choices given
any_given choices None = refl
any_given choices (Some g) = refl

pub made_more : (row : Row) (all : List (List ℕ)) (at : ℕ) (word : List ℕ) (r next : Reading) (choices after : Choices) → IsAmong row commands
    → slice_get all at ≡ Some word → Made row (take at all) r choices → Some next ≡ step forget r word → after ≡ with_any choices (given_by r word)
    → Made row (take (at + 1) all) next after
made_more row all at word r next choices after m here f e is =
    let w = take_next all at word here in
    let same : after ≡ kept_by with_given choices (given_by r word) = is ∙ sym (any_given choices (given_by r word)) in
    record {
      far = so_far_more row all at word r next m here f.far e;
      sets = ap (steps with_given (start row defaults)) w.0
          ∙ steps_append with_given (start row defaults) (take at all) (word ∷ [])
          ∙ ap (option_and_then (λ x. steps with_given x (word ∷ []))) f.sets
          ∙ ap (option_and_then (λ x. Some x)) (other_step forget with_given r choices word next (sym e))
          ∙ ap (λ (s : Choices). Some (with_kept next s)) (sym same);
    }

pub made_is : (row : Row) (all : List (List ℕ)) (at : ℕ) (r : Reading) (choices : Choices) → length all ≤ at → Made row (take at all) r choices → IsAmong row commands
    → (operands : List (List ℕ)) (given : List (Given OptionName)) → IsLine row operands given (row.word ∷ all) → choices ≡ choices_of given
made_is row all at r choices l f m operands given line =
    let read : steps with_given (start row defaults) all ≡ Some (with_kept r choices) = subst (λ ws. steps with_given (start row defaults) ws ≡ Some (with_kept r choices)) (take_all at all l) f.sets in
    let led = line_read with_given row (good_among commands good row m) defaults operands given all line in
    let same : with_kept r choices ≡ led.last = (let e = sym read ∙ led.read in cc) in
    ap (λ (x : Reader CommandName OptionName Choices). x.kept) same ∙ led.kept_are

-- no line goes on where the reader stops
pub made_stops : (row : Row) (all : List (List ℕ)) (at : ℕ) (word : List ℕ) (r : Reading) (choices other : Choices) → IsAmong row commands → slice_get all at ≡ Some word →
    Made row (take at all) r choices → None ≡ step forget r word
    → (operands : List (List ℕ)) (given : List (Given OptionName)) → IsLine row operands given (row.word ∷ all) → other ≡ choices_of given
made_stops row all at word r choices other m here f e operands given line =
    absurd ((so_far_stops row all at word r m here f.far e).refused (to_command (row.word ∷ all) (record { row = row; among = m; operands = operands; given = given; line = line })))

-- of the words behind a command's own, those without a name come first
same_command : (row : Row) → IsAmong row commands → (operands options all : List (List ℕ)) (choices : Choices) → AreValues row.operands operands → all ≡ operands ++ options
    → command_of row.name all choices ≡ command_of row.name operands choices
same_command row (inl e) operands options all choices v w = rw (e) refl
same_command row (inr (inl e)) operands options all choices v w = rw (e) refl
same_command row (inr (inr (inl e))) operands options all choices v w = rw (e) refl
same_command row (inr (inr (inr (inl e)))) operands options all choices v w = rw (e) refl
same_command row (inr (inr (inr (inr (inl e))))) operands options all choices v w = rw (e) refl
same_command row (inr (inr (inr (inr (inr (inl e)))))) [] options all choices v w =
    absurd (subst (λ (r : Row). AreValues r.operands []) e v)
same_command row (inr (inr (inr (inr (inr (inl e)))))) (word ∷ words) options all choices v w = rw (e, w) refl
same_command row (inr (inr (inr (inr (inr (inr (inl e))))))) operands options all choices v w = rw (e) refl
same_command row (inr (inr (inr (inr (inr (inr (inr h))))))) operands options all choices v w = absurd h

within : (low high : ℕ) (text : List ℕ) (o : Option ℕ) → number_within low high text ≡ o → is_some o ≡ true → (low ≤ unwrap_or o 0) × (unwrap_or o 0 ≤ high)
within low high text None e h = cc
within low high text (Some n) e h = bounds low high text n e

-- ---- a threaded run has a number of workers that it may have

abbrev HasWorkers : Choices → Type 0
HasWorkers choices = (1 ≤ choices.workers) × (choices.workers ≤ most_workers)

workers_by : (o : Option ℕ) (text : List ℕ) (workers : ℕ) → number_within 1 most_workers text ≡ o → (1 ≤ workers) × (workers ≤ most_workers) → (1 ≤ unwrap_or o workers) × (unwrap_or o workers ≤ most_workers)
workers_by None text workers e h = h
workers_by (Some n) text workers e h = bounds 1 most_workers text n e

workers_option : (choices : Choices) (name : OptionName) (value : List ℕ) → HasWorkers choices → HasWorkers (with_option choices name value)
workers_option choices option.Limit value h = h
workers_option choices option.Procs value h = h
workers_option choices option.Signals value h = h
workers_option choices option.Trace value h = h
workers_option choices option.Runtime value h = h
workers_option choices option.Schedule value h = h
workers_option choices option.Mix value h = h
workers_option choices option.Workers value h = workers_by (number_within 1 most_workers value) value choices.workers refl h

workers_fold : (given : List (Given OptionName)) (choices : Choices) → HasWorkers choices → HasWorkers (fold with_given choices given)
workers_fold [] choices h = h
workers_fold (g ∷ gs) choices h = workers_fold gs (with_given choices g) (workers_option choices g.option.name g.value h)

workers_set : (given : List (Given OptionName)) → HasWorkers (choices_of given)
workers_set given = workers_fold given defaults (omega arith, omega arith)

number_within_row : (row : Row) → IsAmong row commands → (operands : List (List ℕ)) (choices : Choices) → AreValues row.operands operands → HasWorkers choices → HasNumber (command_of row.name operands choices)
number_within_row row (inl e) operands choices v h = rw (e) tt
number_within_row row (inr (inl e)) operands choices v h = rw (e) tt
number_within_row row (inr (inr (inl e))) operands choices v h = rw (e) tt
number_within_row row (inr (inr (inr (inl e)))) operands choices v h = rw (e) tt
number_within_row row (inr (inr (inr (inr (inl e))))) operands choices v h = rw (e) tt
number_within_row row (inr (inr (inr (inr (inr (inl e)))))) [] choices v h = absurd (subst (λ (r : Row). AreValues r.operands []) e v)
number_within_row row (inr (inr (inr (inr (inr (inl e)))))) (word ∷ words) choices v h =
    let fit : is_some (number_within 1 most_swaps word) ≡ true = (subst (λ (r : Row). AreValues r.operands (word ∷ words)) e v).0 in
    rw (e) (within 1 most_swaps word (number_within 1 most_swaps word) refl fit)
number_within_row row (inr (inr (inr (inr (inr (inr (inl e))))))) operands choices v h = rw (e) h
number_within_row row (inr (inr (inr (inr (inr (inr (inr none))))))) operands choices v h = absurd none

-- the number of a command that words mean is one that it may have
pub means_number : (words : List (List ℕ)) (c : Command) → Means words c → HasNumber c
means_number words c m = subst HasNumber (sym m.is) (number_within_row m.row m.among m.operands (choices_of m.given) m.line.values (workers_set m.given))

-- a command is what its line means
pub row_means : (row : Row) (all : List (List ℕ)) (choices : Choices) (c : Command) → IsAmong row commands → IsCommand (row.word ∷ all)
    → ((operands : List (List ℕ)) (given : List (Given OptionName)) → IsLine row operands given (row.word ∷ all) → choices ≡ choices_of given)
    → c ≡ command_of row.name all choices → Means (row.word ∷ all) c
row_means row all choices c m (d, means) set is =
    let whole : row.word ∷ all ≡ means.row.word ∷ (means.operands ++ means.line.options) = means.line.whole in
    let words : row.word ≡ means.row.word = cc in
    let same : means.row ≡ row = sym (same_row forget commands good tt row means.row m means.among words) in
    let line : IsLine row means.operands means.given (row.word ∷ all) = subst (λ (x : Row). IsLine x means.operands means.given (row.word ∷ all)) same means.line in
    record {
      row = row;
      among = m;
      operands = means.operands;
      given = means.given;
      line = line;
      is = is ∙ same_command row m means.operands line.options all choices line.values (let e : row.word ∷ all ≡ row.word ∷ (means.operands ++ line.options) = line.whole in cc)
          ∙ ap (command_of row.name means.operands) (set means.operands means.given line);
    }

-- ---- the words mean one command

-- the words without a name are as many as the row has
are_as_many : (vs : List Value) (ws : List (List ℕ)) → AreValues vs ws → length ws ≡ length vs
are_as_many [] [] h = refl
are_as_many [] (w ∷ ws) h = absurd h
are_as_many (v ∷ vs) [] h = absurd h
are_as_many (v ∷ vs) (w ∷ ws) h = let e = are_as_many vs ws h.1 in omega arith

-- what the words behind the command's own mean
abbrev Meant : (row : Row) (tail : List (List ℕ)) → Reader CommandName OptionName Choices → Command
Meant row tail r = command_of row.name (take (length row.operands) tail) r.kept

means_one : (row : Row) (tail : List (List ℕ)) (c : Command) → IsAmong row commands → Means (row.word ∷ tail) c
    → (r : Reader CommandName OptionName Choices) × (steps with_given (start row defaults) tail ≡ Some r) × (c ≡ Meant row tail r)
means_one row tail c m means =
    let whole : row.word ∷ tail ≡ means.row.word ∷ (means.operands ++ means.line.options) = means.line.whole in
    let words : row.word ≡ means.row.word = cc in
    let rest : tail ≡ means.operands ++ means.line.options = cc in
    let same : means.row ≡ row = sym (same_row forget commands good tt row means.row m means.among words) in
    let line : IsLine row means.operands means.given (row.word ∷ tail) = subst (λ (x : Row). IsLine x means.operands means.given (row.word ∷ tail)) same means.line in
    let l = line_read with_given row (good_among commands good row m) defaults means.operands means.given tail line in
    let many = are_as_many row.operands means.operands line.values in
    let first : take (length row.operands) tail ≡ means.operands = ap (take (length row.operands)) rest ∙ take_at means.operands means.line.options (length row.operands) (omega arith) in (
      l.last,
      l.read,
      means.is
          ∙ ap (λ (x : Row). command_of x.name means.operands (choices_of means.given)) same
          ∙ ap (λ (o : List (List ℕ)). command_of row.name o (choices_of means.given)) (sym first)
          ∙ ap (command_of row.name (take (length row.operands) tail)) (sym l.kept_are),
    )

pub means_same : (words : List (List ℕ)) (c d : Command) → Means words c → Means words d → c ≡ d
means_same words c d m n =
    let e : words ≡ m.row.word ∷ (m.operands ++ m.line.options) = m.line.whole in
    let tail = m.operands ++ m.line.options in
    let a = means_one m.row tail c m.among (subst (λ w. Means w c) e m) in
    let b = means_one m.row tail d m.among (subst (λ w. Means w d) e n) in
    let same : a.0 ≡ b.0 = (let f = sym a.1 ∙ b.1 in cc) in
    a.2 ∙ ap (Meant m.row tail) same ∙ sym b.2

-- ---- as the code has it

-- a row that was found
pub found_row : (word : List ℕ) (row : Row) → Some row ≡ find_command commands word → IsAmong row commands × (row.word ≡ word)
found_row word row e = command_among commands word row (sym e)

pub number_fits : (row : Row) (all : List (List ℕ)) (at : ℕ) (word : List ℕ) (r : Reading) → IsAmong row commands → slice_get all at ≡ Some word → SoFar row (take at all) r → at < 100
number_fits row all at word r m here f =
    let w = take_next all at word here in
    let size = w.2 in
    let l = f.left in
    let n = few row m in
    omega arith

pub length_fits : (row : Row) (all : List (List ℕ)) (r : Reading) → IsAmong row commands → SoFar row all r → length all < 100
length_fits row all r m f = let l = f.left in let n = few row m in omega arith

-- a word at a place
pub word_here : {X : Type 0} (f : X → List ℕ) (xs : List X) (at : ℕ) (x : X) (w : List ℕ) → at < length xs → x ≡ get_or xs at x → w ≡ f x → slice_get (map f xs) at ≡ Some w
word_here f xs at x w l is e = slice_get-map f xs at ∙ ap (option_map f) (slice_get-get_or xs at x l ∙ ap Some (sym is)) ∙ ap Some (sym e)

-- at the end all was read
pub so_far_all : (row : Row) (all : List (List ℕ)) (at : ℕ) (r : Reading) → length all ≤ at → SoFar row (take at all) r → SoFar row all r
so_far_all row all at r l f = subst (λ ws. SoFar row ws r) (take_all at all l) f
