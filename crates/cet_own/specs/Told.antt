-- The shadow stacks that the records of threads tell of, and the pointers of the threads that keep theirs. Source: own.
use Rattle.std.specs.Prelude.{ℕ, ◌+◌, ◌-◌, nat_le, if◌then◌else◌, List, [], ◌∷◌, Option, Some, None}
use Rattle.std.specs.List.{flat_map}
use Rattle.cet_words.specs.Layout.{first_region_end, first_region_start, page_up, thread_region_size}
use Rattle.cet_isa.specs.declared.threads.End.{End}
use Rattle.cet_isa.specs.declared.threads.End.TheVariants as ending
use Rattle.cet_isa.specs.declared.threads.Record.{Record}
use Rattle.cet_isa.specs.declared.threads.What.{What}
use Rattle.cet_isa.specs.declared.threads.What.TheVariants as what
use Rattle.cet_book.specs.View.{Span}
use Rattle.cet_page.specs.Machine.{Thread}

-- The stack that a record tells of: a `claim` has its start and the bytes that were asked for, which whole pages hold, and a
-- `born` the end of a stack of eight pages.
abbrev pub told : Record → What → List Span
told r what.Claim = record { start = r.a; end = r.a + page_up r.b } ∷ []
told r what.Born = record { start = r.b - thread_region_size; end = r.b } ∷ []
told r what.Step = []
told r what.Call = []
told r what.Ret = []
told r what.Raise = []
told r what.Take = []
told r what.Save = []
told r what.Busy = []
told r what.Sys = []
told r what.Wrote = []
told r what.Signal = []
told r what.Ignore = []
told r what.SigReturn = []
told r (what.Fault name) = []
told r what.Kill = []

abbrev pub told_in : List Record → List Span
told_in trace = flat_map (λ (r : Record). told r r.what) trace

-- thread 0's first stack
abbrev pub first_span : Span
first_span = record { start = first_region_start; end = first_region_end }

abbrev pub put_in : Span → List Span → List Span
put_in s [] = s ∷ []
put_in s (r ∷ rs) = if nat_le s.start r.start then s ∷ r ∷ rs else r ∷ put_in s rs

abbrev pub in_order : List Span → List Span
in_order [] = []
in_order (s ∷ ss) = put_in s (in_order ss)

-- thread 0's first stack and those that the traces tell of, by their starts
abbrev pub told_spans : List Thread → List Span
told_spans threads = in_order (first_span ∷ flat_map (λ (thread : Thread). told_in thread.trace) threads)

-- a thread by its number and its shadow-stack pointer, unless it has given its stack up by exit
abbrev pub kept_pointer : Option End → (number ssp : ℕ) → List (ℕ × ℕ)
kept_pointer None number ssp = (number, ssp) ∷ []
kept_pointer (Some (ending.Exit status)) number ssp = []
kept_pointer (Some ending.Group) number ssp = (number, ssp) ∷ []
kept_pointer (Some ending.Limit) number ssp = (number, ssp) ∷ []

abbrev pub kept_pointers : List Thread → List (ℕ × ℕ)
kept_pointers threads = flat_map (λ (thread : Thread). kept_pointer thread.core.over thread.core.arch.number thread.core.arch.ssp) threads
