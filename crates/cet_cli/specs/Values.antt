-- The values of options, and of words without a name: which texts are one, and what a text means. Source: own; the number that a text
-- writes is `number_of`.
use Rattle.std.specs.Prelude.{ℕ, ◌+◌, ◌==◌, ◌&&◌, nat_le, if◌then◌else◌, replicate, Bool, List, [], ◌∷◌, ◌++◌, length, Option, Some, None, is_some, option_map, option_and_then}
use Rattle.std.specs.Fmt.{decimal}
use Rattle.std.specs.List.{slice_split}
use Rattle.std.specs.Str.{bytes_eq}
use Rattle.cet_base.specs.Numbers.{number_of}
use Rattle.cet_words.specs.declared.images.Signal.{Signal}
use Rattle.cet_cli.specs.declared.turns.Repeat.{Repeat}

-- a number from low to high, one of some words, a list of signals, or a list of turns
pub data Value : Type 0 where
  Number : (low high : ℕ) → Value
  OneOf : (first : List ℕ) → (others : List (List ℕ)) → Value
  Signals : Value
  Turns : Value

-- the number that a text writes, where it is one from low to high
abbrev pub number_within : (low high : ℕ) → List ℕ → Option ℕ
number_within low high text = option_and_then (λ n. if nat_le low n && nat_le n high then Some n else None) (number_of text)

-- the place of a text among some words, counted from 0
abbrev pub place_among : List (List ℕ) → List ℕ → Option ℕ
place_among [] text = None
place_among (w ∷ ws) text = if bytes_eq text w then Some 0 else option_map (λ n. n + 1) (place_among ws text)

-- ---- lists

-- the items of a list, with a sign between two of them; an empty text has none
abbrev pub items : (sign : ℕ) → List ℕ → List (List ℕ)
items sign [] = []
items sign (c ∷ cs) = slice_split (λ x. x == sign) (c ∷ cs)

-- what each item is, where each is something
abbrev pub each_of : {A : Type 0} → (List ℕ → Option A) → List (List ℕ) → Option (List A)
each_of read [] = Some []
each_of read (i ∷ is) = option_and_then (λ a. option_map (λ more. a ∷ more) (each_of read is)) (read i)

-- those of up to `most` items with commas between them
abbrev pub listed : {A : Type 0} → (most : ℕ) → (List ℕ → Option A) → List ℕ → Option (List A)
listed most read text = if nat_le (length (items 44 text)) most then each_of read (items 44 text) else None

-- `thread:count:number`
abbrev pub signal_by : List (List ℕ) → Option Signal
signal_by (t ∷ c ∷ n ∷ []) =
    option_and_then (λ thread. option_and_then (λ count. option_map (λ number.
    record { thread = thread; count = count; number = number })
    (number_within 1 31 n)) (number_within 0 100000 c)) (number_within 0 31 t)
signal_by parts = None

abbrev pub signal_of : List ℕ → Option Signal
signal_of item = signal_by (items 58 item)

-- up to 256 signals
abbrev pub signals_of : List ℕ → Option (List Signal)
signals_of text = listed 256 signal_of text

-- `t`, or `t*n`: some turns of one thread, one after another
abbrev pub repeat_by : List (List ℕ) → Option Repeat
repeat_by (t ∷ []) = option_map (λ thread. record { thread = thread; turns = 1 }) (number_within 0 31 t)
repeat_by (t ∷ n ∷ []) =
    option_and_then (λ thread. option_map (λ turns. record { thread = thread; turns = turns }) (number_within 1 1000000 n)) (number_within 0 31 t)
repeat_by parts = None

abbrev pub repeat_of : List ℕ → Option Repeat
repeat_of item = repeat_by (items 42 item)

-- how many turns they are in all
abbrev pub all_turns : List Repeat → ℕ
all_turns [] = 0
all_turns (s ∷ ss) = s.turns + all_turns ss

-- up to 10,000 repeats, of up to 1,000,000 turns in all
abbrev pub repeats_of : List ℕ → Option (List Repeat)
repeats_of text = option_and_then (λ ss. if nat_le (all_turns ss) 1000000 then Some ss else None) (listed 10000 repeat_of text)

-- the thread of each turn
abbrev pub threads_of : List Repeat → List ℕ
threads_of [] = []
threads_of (s ∷ ss) = replicate s.turns s.thread ++ threads_of ss

abbrev pub schedule_of : List ℕ → Option (List ℕ)
schedule_of text = option_map threads_of (repeats_of text)

-- ---- values

-- The text is such a value. It is a list of turns where it has repeats, which are fewer than their turns.
abbrev pub fits : Value → List ℕ → Bool
fits (Number low high) text = is_some (number_within low high text)
fits (OneOf first others) text = is_some (place_among (first ∷ others) text)
fits Signals text = is_some (signals_of text)
fits Turns text = is_some (repeats_of text)

-- a text that is such a value, where there is one: that of the lowest number, the first word, or the empty list
abbrev pub example : Value → List ℕ
example (Number low high) = decimal low
example (OneOf first others) = first
example Signals = []
example Turns = []
