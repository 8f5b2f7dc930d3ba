-- What is read of a finished run is its outcome by the last book.
use Rattle.std.proofs.Common.{◌≡◌, ℕ, ◌≤◌, List, [], ◌++◌, Option, Some, None, refl, ap, sym, ◌∙◌, subst}
use Rattle.std.specs.Prelude.{IsSome, length, map, slice_index}
use Rattle.std.proofs.lemmas.Simd.{map-map}
use Rattle.std.proofs.lemmas.List.{length-map}
use Rattle.std.proofs.lemmas.Option.{slice_get_within, get_or_from_slice_get}
use Rattle.cet_words.specs.Layout.{exit_word}
use Rattle.cet_words.specs.Job.{JobData, IsJob}
use Rattle.cet_isa.specs.declared.threads.End.{End}
use Rattle.cet_book.specs.Book.{Book, region, starting_at}
use Rattle.cet_book.specs.View.{Covers, InStep, IsReadable, Span, shown_region}
use Rattle.cet_book.specs.declared.regions.StackReport.{StackReport}
use Rattle.cet_page.specs.Machine.{Machine, Starts, Thread, machine, run}
use Rattle.cet_own.specs.ExitWord.{IsExitWord}
use Rattle.cet_own.specs.Told.{kept_pointers, told_spans}
use Rattle.cet_own.specs.Covered.{AllEnded, LastCovered, told_numbers}
use Rattle.cet_own.proofs.CoveredRun.{last_covered, last_stands}
use Rattle.cet_own.proofs.Run.{exit_run, safe_run, stands_run}
use Rattle.cet_own.proofs.Switched.{raises_run, switches_run}
use Rattle.cet_run.specs.Outcome.{process_end, thread_out}
use Rattle.cet_run.specs.SafeRun.{IsLeft, IsThis, SafeRun, outcome_of}
use Rattle.cet_run.specs.Schedule.{IsComplete, IsFull, IsRobin}
use Rattle.cet_run.specs.Shown.{shown_stacks, told_by}
use Rattle.cet_run.specs.Turns.{Finishes, Mixed, Reached, Robined}
use Rattle.cet_run.specs.declared.outcomes.Outcome.{Outcome}
use Rattle.cet_run.specs.declared.outcomes.ProcessEnd.{ProcessEnd}
use Rattle.cet_run.specs.declared.outcomes.ThreadOut.{ThreadOut}
use Rattle.cet_run.proofs.ScheduleLaws.{mix_complete, robin_complete}
use Rattle.cet_run.proofs.Steps.{run_append}
use Rattle.cet_run.proofs.ToldStacks.{told_same}

abbrev pub shown_with : List ThreadOut → List StackReport → ProcessEnd → Outcome
shown_with outs stacks process = record { threads = outs; stacks = stacks; process = process }

-- ---- every thread has ended

over_by : (over : Option End) → IsSome over → (e : End) × (over ≡ Some e)
over_by None h = cc
over_by (Some e) h = (e, refl)

all_ended : (m : Machine) → IsComplete m → AllEnded m.threads
all_ended m h t thread e =
    over_by thread.core.over (subst (λ (x : Thread). IsSome x.core.over) (get_or_from_slice_get m.threads t thread thread e) (h t thread (slice_get_within m.threads t thread e)))

-- ---- one outcome

-- what the words show of the book, with ends and process, is the outcome by that book
outcome_read : (m : Machine) (b : Book) (outs : List ThreadOut) (stacks : List StackReport) (process : ProcessEnd) (exit : ℕ) → exit ≡ slice_index m.words exit_word → outs ≡ map thread_out m.threads →
    stacks ≡ map (λ i. shown_region b (region b i)) (told_numbers b m.threads) → process ≡ process_end exit outs → shown_with outs stacks process ≡ outcome_of m b
outcome_read m b outs stacks process exit e o s p =
    let ends : process ≡ process_end (slice_index m.words exit_word) (map thread_out m.threads) = p ∙ ap (process_end exit) o ∙ ap (λ n. process_end n (map thread_out m.threads)) e in
    let shown : stacks ≡ shown_stacks b m.threads = s ∙ map-map (λ i. shown_region b (region b i)) (λ (r : Span). starting_at r.start b) (told_spans m.threads) in
    ap (λ l. shown_with l stacks process) o ∙ ap (λ l. shown_with (map thread_out m.threads) l process) shown ∙ ap (shown_with (map thread_out m.threads) (shown_stacks b m.threads)) ends

-- ---- a finished run, by what it leaves

module _ (job : JobData) (start : Machine) (turns words : List ℕ) (outs : List ThreadOut) (pointers : List (ℕ × ℕ)) (is : IsJob job) (left : IsLeft job start turns words outs pointers) where
  abbrev end : Machine
  end = run job start turns

  last : LastCovered job start turns
  last = last_covered job start turns is left.starts (all_ended end left.complete)

  same_spans : told_by outs ≡ told_spans end.threads
  same_spans = told_same end.threads outs left.threads_left

  pub left_readable : IsReadable (told_by outs) pointers
  left_readable =
      subst (λ spans. IsReadable spans pointers) (sym same_spans)
      (subst (IsReadable (told_spans end.threads)) (sym left.pointers_left) last.covered.readable)

  pub left_few : length outs ≤ 32
  left_few = subst (λ n. n ≤ 32) (sym (ap length left.threads_left ∙ length-map end.threads thread_out)) last.covered.few

  pub left_exit : IsExitWord (slice_index words exit_word)
  left_exit = subst (λ l. IsExitWord (slice_index l exit_word)) (sym left.words_left) (exit_run job start turns is left.starts)

  -- an outcome of which this is read is that of the run
  pub left_run : (stacks : List StackReport) (process : ProcessEnd) (exit : ℕ) → exit ≡ slice_index words exit_word → process ≡ process_end exit outs →
      ((b : Book) (numbers : List ℕ) → InStep job.image words b → Covers b numbers (told_by outs) pointers → stacks ≡ map (λ i. shown_region b (region b i)) numbers) →
      SafeRun job (IsThis start turns) (shown_with outs stacks process)
  left_run stacks process exit e p read =
      let step = subst (λ l. InStep job.image l last.book) (sym left.words_left) last.covered.in_step in
      let covers =
      subst (λ spans. Covers last.book (told_numbers last.book end.threads) spans pointers) (sym same_spans)
      (subst (Covers last.book (told_numbers last.book end.threads) (told_spans end.threads)) (sym left.pointers_left) last.covered.covers) in
      let stood = last_stands job start turns is left.starts last.book last.last in
      record {
        is_job = is;
        start = start;
        starts = left.starts;
        turns = turns;
        schedule = record { from = refl; by = refl };
        complete = left.complete;
        book = last.book;
        legal = last.last;
        is = outcome_read end last.book outs stacks process exit (e ∙ ap (λ l. slice_index l exit_word) left.words_left) left.threads_left (read last.book (told_numbers last.book end.threads) step covers) p;
        safe = safe_run job start turns is left.starts;
        stands = stands_run job start turns is left.starts;
        last = stood;
        switched = switches_run job start turns is left.starts;
        raises = raises_run job start turns is left.starts;
        exit = exit_run job start turns is left.starts;
      }

-- ---- schedules

-- the run by these turns is one by a schedule that has them
pub by_schedule : (job : JobData) (start : Machine) (turns : List ℕ) (Schedule : Machine → List ℕ → Type 0) (outcome : Outcome) → Schedule start turns → SafeRun job (IsThis start turns) outcome → SafeRun job Schedule outcome
by_schedule job start turns Schedule outcome h r = record {
  is_job = r.is_job;
  start = r.start;
  starts = r.starts;
  turns = r.turns;
  schedule = subst (λ m. Schedule m r.turns) (sym r.schedule.from) (subst (Schedule start) (sym r.schedule.by) h);
  complete = r.complete;
  book = r.book;
  legal = r.legal;
  is = r.is;
  safe = r.safe;
  stands = r.stands;
  last = r.last;
  switched = r.switched;
  raises = r.raises;
  exit = r.exit;
}

-- what is left of a run that ended in this machine
pub finished_left : (job : JobData) (start : Machine) (turns words : List ℕ) (threads : List Thread) (outs : List ThreadOut) (pointers : List (ℕ × ℕ)) →
    Finishes job start turns (machine words threads) → outs ≡ map thread_out threads → pointers ≡ kept_pointers threads → IsLeft job start turns words outs pointers
finished_left job start turns words threads outs pointers f o p = record {
  starts = f.starts;
  complete = subst IsComplete (sym f.ran) f.complete;
  words_left = ap (λ (m : Machine). m.words) (sym f.ran);
  threads_left = o ∙ ap (λ (m : Machine). map thread_out m.threads) (sym f.ran);
  pointers_left = p ∙ ap (λ (m : Machine). kept_pointers m.threads) (sym f.ran);
}

-- ---- the end of each schedule

pub robined_finishes : (job : JobData) (start m : Machine) → Starts job start → (r : Robined job start m) → Finishes job start r.turns m
robined_finishes job start m s r = record { starts = s; ran = r.ran; complete = subst IsComplete r.ran (robin_complete job start None r.turns r.robin) }

pub mixed_finishes : (job : JobData) (seed : ℕ) (start m : Machine) → Starts job start → (r : Mixed job seed start m) → Finishes job start r.turns m
mixed_finishes job seed start m s r = record { starts = s; ran = r.ran; complete = subst IsComplete r.ran (mix_complete job start seed r.turns r.mix) }

-- given turns, and then Robin anew
pub full_by : (job : JobData) (start mid m : Machine) (given : List ℕ) → mid ≡ run job start given → (r : Robined job mid m) → IsFull job start given (given ++ r.turns)
full_by job start mid m given e r = record { rest = r.turns; whole = refl; robin = subst (λ x. IsRobin job x None r.turns) e r.robin }

pub full_finishes : (job : JobData) (start mid m : Machine) (given : List ℕ) → Starts job start → mid ≡ run job start given → (r : Robined job mid m) → Finishes job start (given ++ r.turns) m
full_finishes job start mid m given s e r = record {
  starts = s;
  ran = run_append job start given r.turns ∙ ap (λ x. run job x r.turns) (sym e) ∙ r.ran;
  complete = subst IsComplete r.ran (robin_complete job mid None r.turns r.robin);
}

-- the start is a moment of the run
pub reached_start : (job : JobData) (start : Machine) → IsJob job → Starts job start → Reached job start
reached_start job start is s = record { is_job = is; start = start; starts = s; turns = []; ran = refl }
