-- What follows of a command that was served.
use Rattle.std.proofs.Common.{◌≡◌, ℕ, ◌<◌, ◌≤◌, arith, ◌∙◌, Bool, true, false, List, [], ◌∷◌, length, Option, Some, None, refl, sym, ap, subst, inl, inr, ◌⊎◌}
use Rattle.std.specs.Prelude.{IfSome, is_some}
use Rattle.std.specs.Io.KnownBytes.{Appends, Consumes}
use Rattle.cet_top.specs.Answer.{Answers, AnswersThreaded, Refuses, Runs, Turns, has_run, reads, status_of}
use Rattle.cet_top.specs.Serves.{Answering, Answered, Completes, CountsTooMuch, Cut, GaveTooMuch, IsAnswered, LostTooMuch, Serves, SinkState, Takes, TakesSome, Wrote}
use Rattle.cet_elf.specs.Written.{written}
use Rattle.cet_io.specs.Stream.{AppendsSome, Rose, RoseBy, Tally}
use Rattle.cet_top.specs.Reading.{ReadSome, ReadToEnd, ReadTooMuch, ReadUntilFault, SourceState, TakesAll, TalliesBy}
use Rattle.cet_cli.specs.Settings.{SettingsData}
use Rattle.cet_cli.specs.Words.{Means, MeansPlain, MeansSmp}
use Rattle.cet_run.specs.declared.outcomes.Outcome.{Outcome}
use Rattle.cet_run.specs.declared.outcomes.ProcessEnd.{ProcessEnd}
use Rattle.cet_run.specs.declared.outcomes.ProcessEnd.TheVariants as process
use Rattle.cet_top.specs.declared.status.Status.{Status}
use Rattle.cet_top.specs.declared.status.Status.TheVariants as status
use Rattle.cet_cli.specs.declared.words.Command.{Command}
use Rattle.cet_cli.specs.declared.words.Command.TheVariants as command
use Rattle.cet_cli.proofs.CommandWords.{means_same}

-- no run answers a faulty word
run_no_usage : (end : ProcessEnd) (n : ℕ) → status.Usage n ≡ status_of end → ⊥
run_no_usage (process.Exit s) n e = cc
run_no_usage (process.Killed s) n e = cc
run_no_usage (process.Limit t) n e = cc

refused_no_usage : (bytes output : List ℕ) (n : ℕ) → Refuses bytes (status.Usage n) output → ⊥
refused_no_usage bytes output n r = (let e = r.refused in cc)

runs_no_usage : (by : Turns) (settings : SettingsData) (bytes output : List ℕ) (n : ℕ) → Runs by settings bytes (status.Usage n) output → ⊥
runs_no_usage by settings bytes output n r = run_no_usage r.reported.outcome.process n r.reported.told.ends

either_no_usage : (by : Turns) (settings : SettingsData) (bytes output : List ℕ) (n : ℕ) → Refuses bytes (status.Usage n) output ⊎ Runs by settings bytes (status.Usage n) output → ⊥
either_no_usage by settings bytes output n a = elim a [
  | inl r ↦ refused_no_usage bytes output n r
  | inr r ↦ runs_no_usage by settings bytes output n r
]

no_usage : (c : Command) (bytes output : List ℕ) (n : ℕ) → Answers c bytes (status.Usage n) output → ⊥
no_usage (command.Run settings) bytes output n a = either_no_usage _ settings bytes output n a
no_usage (command.Replay settings plan) bytes output n a = either_no_usage _ settings bytes output n a
no_usage (command.Smp settings workers) bytes output n a = either_no_usage _ settings bytes output n a
no_usage command.Dis bytes output n a = elim a [
  | inl r ↦ refused_no_usage bytes output n r
  | inr r ↦ (let e = r.done in cc)
]
no_usage (command.Asm with) bytes output n a = elim a [
  | inl r ↦ (let e = r.refused in cc)
  | inr r ↦ (let e = r.done in cc)
]
no_usage (command.Bench m) bytes output n a = elim a [
  | inl r ↦ (let e = r.refused in cc)
  | inr b ↦ elim b.ran [
    | inl r ↦ refused_no_usage (written b.program) output n r
    | inr r ↦ run_no_usage r.measured.outcome.process n r.measured.ends
  ]
]
no_usage command.Check bytes output n a = elim a [
  | inl r ↦ refused_no_usage bytes output n r
  | inr r ↦ (let e = r.done in cc)
]

threaded_no_usage : (settings : SettingsData) (ran : Option Outcome) (bytes output : List ℕ) (n : ℕ) → AnswersThreaded settings ran bytes (status.Usage n) output → ⊥
threaded_no_usage settings None bytes output n a = refused_no_usage bytes output n a
threaded_no_usage settings (Some outcome) bytes output n (runs, same) = runs_no_usage _ settings bytes output n runs

-- what never answers a faulty word isn't served as one
module _ (reads : Bool) (Answer : Answering) (none : (bytes output : List ℕ) (n : ℕ) → Answer bytes (status.Usage n) output → ⊥) where
  usage_never : (src src' : SourceState) (sink sink' : SinkState) (s : Status) (n : ℕ) → Serves reads Answer src src' sink sink' s → s ≡ status.Usage n → ⊥
  usage_never src src' sink sink' s n h e =
      let g : Serves reads Answer src src' sink sink' (status.Usage n) = subst (Serves reads Answer src src' sink sink') e h in
      let a = g.answered tt in
      none a.read.bytes a.output n a.read.answer

pub served_no_usage : (c : Command) (src src' : SourceState) (sink sink' : SinkState) (s : Status) (n : ℕ) → Serves (reads c) (Answers c) src src' sink sink' s → s ≡ status.Usage n → ⊥
served_no_usage c src src' sink sink' s n h e = usage_never (reads c) (Answers c) (no_usage c) src src' sink sink' s n h e

pub threads_no_usage : (settings : SettingsData) (ran : Option Outcome) (src src' : SourceState) (sink sink' : SinkState) (s : Status) (n : ℕ) → Serves true (AnswersThreaded settings ran) src src' sink sink' s
    → s ≡ status.Usage n → ⊥
threads_no_usage settings ran src src' sink sink' s n h e = usage_never true (AnswersThreaded settings ran) (threaded_no_usage settings ran) src src' sink sink' s n h e

-- an answer is none of the failures
run_answered : (end : ProcessEnd) → IsAnswered (status_of end)
run_answered (process.Exit s) = tt
run_answered (process.Killed s) = tt
run_answered (process.Limit t) = tt

refused_answered : (bytes output : List ℕ) (s : Status) → Refuses bytes s output → IsAnswered s
refused_answered bytes output s r = subst IsAnswered (sym r.refused) tt

runs_answered : (by : Turns) (settings : SettingsData) (bytes output : List ℕ) (s : Status) → Runs by settings bytes s output → IsAnswered s
runs_answered by settings bytes output s r = subst IsAnswered (sym r.reported.told.ends) (run_answered r.reported.outcome.process)

either_answered : (by : Turns) (settings : SettingsData) (bytes output : List ℕ) (s : Status) → Refuses bytes s output ⊎ Runs by settings bytes s output → IsAnswered s
either_answered by settings bytes output s a = elim a [
  | inl r ↦ refused_answered bytes output s r
  | inr r ↦ runs_answered by settings bytes output s r
]

pub answer_is_answered : (c : Command) (bytes output : List ℕ) (s : Status) → Answers c bytes s output → IsAnswered s
answer_is_answered (command.Run settings) bytes output s a = either_answered _ settings bytes output s a
answer_is_answered (command.Replay settings plan) bytes output s a = either_answered _ settings bytes output s a
answer_is_answered (command.Smp settings workers) bytes output s a = either_answered _ settings bytes output s a
answer_is_answered command.Dis bytes output s a = elim a [
  | inl r ↦ refused_answered bytes output s r
  | inr r ↦ subst IsAnswered (sym r.done) tt
]
answer_is_answered (command.Asm with) bytes output s a = elim a [
  | inl r ↦ subst IsAnswered (sym r.refused) tt
  | inr r ↦ subst IsAnswered (sym r.done) tt
]
answer_is_answered (command.Bench m) bytes output s a = elim a [
  | inl r ↦ subst IsAnswered (sym r.refused) tt
  | inr b ↦ elim b.ran [
    | inl r ↦ refused_answered (written b.program) output s r
    | inr r ↦ subst IsAnswered (sym r.measured.ends) (run_answered r.measured.outcome.process)
  ]
]
answer_is_answered command.Check bytes output s a = elim a [
  | inl r ↦ refused_answered bytes output s r
  | inr r ↦ subst IsAnswered (sym r.done) tt
]

pub threaded_is_answered : (settings : SettingsData) (ran : Option Outcome) (bytes output : List ℕ) (s : Status) → AnswersThreaded settings ran bytes s output → IsAnswered s
threaded_is_answered settings None bytes output s a = refused_answered bytes output s a
threaded_is_answered settings (Some outcome) bytes output s (runs, same) = runs_answered _ settings bytes output s runs

-- ---- a threaded run's report is written exactly where there was a run

run_has : (end : ProcessEnd) → true ≡ has_run (status_of end)
run_has (process.Exit s) = refl
run_has (process.Killed s) = refl
run_has (process.Limit t) = refl

pub written_has : (settings : SettingsData) (ran : Option Outcome) (bytes output : List ℕ) (s : Status) → AnswersThreaded settings ran bytes s output → is_some ran ≡ has_run s
written_has settings None bytes output s r = ap has_run (sym r.refused)
written_has settings (Some outcome) bytes output s (runs, same) = run_has runs.reported.outcome.process ∙ ap has_run (sym runs.reported.told.ends)

-- a refusal has nothing to write
pub cut_has : (settings : SettingsData) (ran : Option Outcome) (bytes output : List ℕ) (s : Status) → AnswersThreaded settings ran bytes s output → 0 < length output → is_some ran ≡ true
cut_has settings None bytes output s r some = absurd (let none : length output ≡ 0 = ap (λ (l : List ℕ). length l) r.nothing in omega arith)
cut_has settings (Some outcome) bytes output s a some = refl

-- each way in which a command ends, with its cause
module _ (reads : Bool) (Answer : Answering) (src src' : SourceState) (sink : SinkState) where
  pub serves_no_memory : TakesSome reads src src' → src.faults ≤ src'.faults → Serves reads Answer src src' sink sink status.NoMemory
  serves_no_memory some later = record {
    answered = λ a. absurd a;
    write_fault = λ e. absurd (let no : ⊥ = cc in no);
    read_fault = λ e. absurd (let no : ⊥ = cc in no);
    too_long = λ e. absurd (let no : ⊥ = cc in no);
    no_memory = λ e. (some, refl);
    src_later = later;
    sink_later = omega arith;
  }

  pub serves_read_fault : (reads ≡ true) × ReadUntilFault src src' → src.faults ≤ src'.faults → Serves reads Answer src src' sink sink status.ReadFault
  serves_read_fault fault later = record {
    answered = λ a. absurd a;
    write_fault = λ e. absurd (let no : ⊥ = cc in no);
    read_fault = λ e. (fault.0, fault.1, refl);
    too_long = λ e. absurd (let no : ⊥ = cc in no);
    no_memory = λ e. absurd (let no : ⊥ = cc in no);
    src_later = later;
    sink_later = omega arith;
  }

  pub serves_too_long : (reads ≡ true) × ReadTooMuch src src' → src.faults ≤ src'.faults → Serves reads Answer src src' sink sink status.TooLong
  serves_too_long much later = record {
    answered = λ a. absurd a;
    write_fault = λ e. absurd (let no : ⊥ = cc in no);
    read_fault = λ e. absurd (let no : ⊥ = cc in no);
    too_long = λ e. (much.0, much.1, refl);
    no_memory = λ e. absurd (let no : ⊥ = cc in no);
    src_later = later;
    sink_later = omega arith;
  }

module _ (reads : Bool) (Answer : Answering) (src src' : SourceState) (sink sink' : SinkState) (bytes output : List ℕ) (s : Status) where
  pub serves_written : IsAnswered s → Takes reads src src' bytes → Answer bytes s output → Wrote sink sink' output → src.faults ≤ src'.faults → sink.faults ≤ sink'.faults → Serves reads Answer src src' sink sink' s
  serves_written is whole answer wrote src_later sink_later = record {
    answered = λ a. record { output = output; read = record { bytes = bytes; whole = whole; answer = answer }; written = wrote };
    write_fault = λ e. absurd (subst IsAnswered e is);
    read_fault = λ e. absurd (subst IsAnswered e is);
    too_long = λ e. absurd (subst IsAnswered e is);
    no_memory = λ e. absurd (subst IsAnswered e is);
    src_later = src_later;
    sink_later = sink_later;
  }

  pub serves_cut : Takes reads src src' bytes → Answer bytes s output → 0 < length output → AppendsSome sink.written sink'.written output →
      Rose sink.faults sink'.faults → src.faults ≤ src'.faults → sink.faults ≤ sink'.faults → Serves reads Answer src src' sink sink' status.WriteFault
  serves_cut whole answer some part cause src_later sink_later = record {
    answered = λ a. absurd a;
    write_fault = λ e. record { status = s; output = output; read = record { bytes = bytes; whole = whole; answer = answer }; some = some; written = part; cause = cause };
    read_fault = λ e. absurd (let no : ⊥ = cc in no);
    too_long = λ e. absurd (let no : ⊥ = cc in no);
    no_memory = λ e. absurd (let no : ⊥ = cc in no);
    src_later = src_later;
    sink_later = sink_later;
  }

-- output that was appended by writes that didn't fail, where without any the sink wasn't used
pub wrote_by : (sink sink' : SinkState) (output : List ℕ) → Appends sink.written sink'.written output → sink'.faults ≡ sink.faults → (length output ≡ 0 → sink' ≡ sink) → Wrote sink sink' output
wrote_by sink sink' [] a same n = n refl
wrote_by sink sink' (b ∷ bs) a same n = (a, same)

module _ (reads : Bool) (Answer : Answering) (src src' : SourceState) (sink sink' : SinkState) where
  -- the five ways in which a command ends
  abbrev Ways : Status → Type 0
  Ways s =
      (s ≡ status.NoMemory) ⊎ ((s ≡ status.TooLong) × ReadTooMuch src src') ⊎ ((s ≡ status.ReadFault) × ReadUntilFault src src') ⊎ ((s ≡ status.WriteFault) ×
      Cut reads Answer src src' sink sink') ⊎ Answered reads Answer src src' sink sink' s

  ways : (s : Status) → Serves reads Answer src src' sink sink' s → Ways s
  ways status.NoMemory h = inl refl
  ways status.TooLong h = inr (inl (refl, (h.too_long refl).1))
  ways status.ReadFault h = inr (inr (inl (refl, (h.read_fault refl).1)))
  ways status.WriteFault h = inr (inr (inr (inl (refl, h.write_fault refl))))
  ways status.Done h = inr (inr (inr (inr (h.answered tt))))
  ways (status.Usage w) h = inr (inr (inr (inr (h.answered tt))))
  ways (status.Refused r o) h = inr (inr (inr (inr (h.answered tt))))
  ways (status.AsmRefused i r) h = inr (inr (inr (inr (h.answered tt))))
  ways (status.Killed i) h = inr (inr (inr (inr (h.answered tt))))
  ways (status.Limit t) h = inr (inr (inr (inr (h.answered tt))))

  pub served_completes : (s : Status) → Serves reads Answer src src' sink sink' s → Completes reads Answer src src' sink sink' s
  served_completes s h r w = elim (ways s h) [
    | inl none ↦ inl none
    | inr (inl long) ↦ inr (inl long)
    | inr (inr (inl (is, fault))) ↦ absurd (r fault.cause)
    | inr (inr (inr (inl (is, cut)))) ↦ absurd (w cut.cause)
    | inr (inr (inr (inr all))) ↦ inr (inr all)
  ]

-- counts that rose by few don't count too much
few_counted : (a b : Option Tally) (given ends : ℕ) → TalliesBy given ends a b → given ≤ 8388608 → CountsTooMuch a b → ⊥
few_counted None b given ends c few much = much
few_counted (Some t) None given ends c few much = much
few_counted (Some t) (Some u) given ends c few much = (let most = c.given.1 in omega arith)

-- a source that gave all of few bytes hasn't lost too many
few_lost : (a b : Option (List ℕ)) (bytes : List ℕ) → TakesAll a b bytes → length bytes ≤ 8388608 → LostTooMuch a b → ⊥
few_lost None b bytes all few much = much
few_lost (Some xs) None bytes all few much = much
few_lost (Some xs) (Some ys) bytes all few much = (let e : length bytes ≡ length xs = ap (λ (l : List ℕ). length l) all.0 in omega arith)

-- what was read to its end didn't give too much
few_read : (src src' : SourceState) (bytes : List ℕ) → ReadToEnd src src' bytes → GaveTooMuch src src' → ⊥
few_read src src' bytes r much = elim much [
  | inl counted ↦ few_counted src.tally src'.tally (length bytes) 1 r.reads r.short counted
  | inr told ↦ few_lost src.left src'.left bytes r.all r.short told.0
]

-- nor did what was read until a fault
few_until : (src src' : SourceState) → ReadUntilFault src src' → GaveTooMuch src src' → ⊥
few_until src src' r much = elim much [
  | inl counted ↦ few_counted src.tally src'.tally (length r.bytes) 0 r.reads r.short counted
  | inr told ↦ told.1 r.cause
]

-- nor did a source that wasn't read
none_counted : (a : Option Tally) → CountsTooMuch a a → ⊥
none_counted None much = much
none_counted (Some t) much = omega arith

none_lost : (a : Option (List ℕ)) → LostTooMuch a a → ⊥
none_lost None much = much
none_lost (Some xs) much = omega arith

pub none_given : (src src' : SourceState) → src' ≡ src → GaveTooMuch src src' → ⊥
none_given src src' same much = elim (subst (λ (x : SourceState). GaveTooMuch src x) same much) [
  | inl counted ↦ none_counted src.tally counted
  | inr told ↦ none_lost src.left told.0
]

few_taken : (reads : Bool) (src src' : SourceState) (bytes : List ℕ) → Takes reads src src' bytes → GaveTooMuch src src' → ⊥
few_taken true src src' bytes r g = few_read src src' bytes r g
few_taken false src src' bytes r g = none_given src src' r.0 g

pub served_too_long : (reads : Bool) (Answer : Answering) (src src' : SourceState) (sink sink' : SinkState) (s : Status) → Serves reads Answer src src' sink sink' s → GaveTooMuch src src' →
    (s ≡ status.TooLong) ⊎ (s ≡ status.NoMemory)
served_too_long reads Answer src src' sink sink' s h g = elim (ways reads Answer src src' sink sink' s h) [
  | inl none ↦ inr none
  | inr (inl (is, much)) ↦ inl is
  | inr (inr (inl (is, fault))) ↦ absurd (few_until src src' fault g)
  | inr (inr (inr (inl (is, cut)))) ↦ absurd (few_taken reads src src' cut.read.bytes cut.read.whole g)
  | inr (inr (inr (inr all))) ↦ absurd (few_taken reads src src' all.read.bytes all.read.whole g)
]

-- the same of a command by other words for it
pub means_serves : (words : List (List ℕ)) (c d : Command) (src src' : SourceState) (sink sink' : SinkState) (s : Status) → MeansPlain words c → MeansPlain words d →
    Serves (reads c) (Answers c) src src' sink sink' s → Serves (reads d) (Answers d) src src' sink sink' s
means_serves words c d src src' sink sink' s m n h = subst (λ (x : Command). Serves (reads x) (Answers x) src src' sink sink' s) (means_same words c d m.means n.means) h

abbrev settings_in : SettingsData → Command → SettingsData
settings_in other (command.Smp settings workers) = settings
settings_in other (command.Run settings) = other
settings_in other (command.Replay settings plan) = other
settings_in other command.Dis = other
settings_in other (command.Asm with) = other
settings_in other command.Check = other
settings_in other (command.Bench n) = other

pub means_threads : (words : List (List ℕ)) (a b : SettingsData) (n m : ℕ) (ran : Option Outcome) (src src' : SourceState) (sink sink' : SinkState) (s : Status) → MeansSmp words a n → MeansSmp words b m →
    Serves true (AnswersThreaded a ran) src src' sink sink' s → Serves true (AnswersThreaded b ran) src src' sink sink' s
means_threads words a b n m ran src src' sink sink' s one other h =
    subst (λ (x : SettingsData). Serves true (AnswersThreaded x ran) src src' sink sink' s) (ap (settings_in a) (means_same words (command.Smp a n) (command.Smp b m) one other)) h

-- ---- no memory for the words

still_left : (left : Option (List ℕ)) → Consumes left left []
still_left None = tt
still_left (Some bytes) = refl

still_count : (n : ℕ) → RoseBy 0 n n
still_count n = (omega arith, omega arith)

still_tally : (tally : Option Tally) → TalliesBy 0 0 tally tally
still_tally None = tt
still_tally (Some t) = record { given = still_count t.given; ends = still_count t.ends }

still_faults : (tally : Option Tally) (faults : ℕ) → IfSome tally (λ t. faults ≡ faults)
still_faults None faults = tt
still_faults (Some t) faults = refl

untouched : (src : SourceState) → ReadSome src src
untouched src = record {
  bytes = [];
  taken = still_left src.left;
  ends = 0;
  once = omega arith;
  reads = still_tally src.tally;
  calm = still_faults src.tally src.faults;
}

-- nothing was taken
takes_none : (reads : Bool) (src : SourceState) → TakesSome reads src src
takes_none true src = untouched src
takes_none false src = refl

-- nothing was read or written
pub none_served : (reads : Bool) (Answer : Answering) (src : SourceState) (sink : SinkState) → Serves reads Answer src src sink sink status.NoMemory
none_served reads Answer src sink = serves_no_memory reads Answer src src sink (takes_none reads src) (omega arith)

pub none_read : (c : Command) (src : SourceState) (sink : SinkState) → Serves (reads c) (Answers c) src src sink sink status.NoMemory
none_read c src sink = none_served (reads c) (Answers c) src sink
