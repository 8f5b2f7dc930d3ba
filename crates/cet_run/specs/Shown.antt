-- The shadow stacks that a report shows, by the last book of the run. Source: own.
use Rattle.std.specs.Prelude.{List, ◌∷◌, map}
use Rattle.std.specs.List.{flat_map}
use Rattle.cet_book.specs.Book.{Book, region, starting_at}
use Rattle.cet_book.specs.View.{Span, shown_region}
use Rattle.cet_book.specs.declared.regions.StackReport.{StackReport}
use Rattle.cet_own.specs.Told.{first_span, in_order, told_in, told_spans}
use Rattle.cet_page.specs.Machine.{Thread}
use Rattle.cet_run.specs.declared.outcomes.ThreadOut.{ThreadOut}

-- thread 0's first stack and those that the traces tell of, each by its start, as the book has it
abbrev pub shown_stacks : Book → List Thread → List StackReport
shown_stacks b threads = map (λ (s : Span). shown_region b (region b (starting_at s.start b))) (told_spans threads)

-- the same stacks by the records of an outcome's threads
abbrev pub told_by : List ThreadOut → List Span
told_by outs = in_order (first_span ∷ flat_map (λ (out : ThreadOut). told_in out.records) outs)
