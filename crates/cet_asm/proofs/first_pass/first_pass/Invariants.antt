use Rattle.std.proofs.Common.{◌≡◌, ◌+◌, ◌==◌, length}
use Rattle.std.specs.List.{slice_split}
use Rattle.cet_asm.specs.Layout.{start}
use Rattle.std.specs.Option.{option_or}
use Rattle.cet_asm.specs.Program.{lines_of, end_from}
use Rattle.cet_syntax.specs.Parts.{parts_left}
use Rattle.cet_syntax.proofs.PartsLeft.{lines_left}
use Rattle.cet_asm.specs.Passes.{place_in, places_from, twice_from, no_places, IsWithin}
use Rattle.cet_asm.proofs.first_pass.first_pass.Given as goal

abbrev pub invariant-loop-left : goal.invariant-loop-left
invariant-loop-left l = record {
  places : places_from (place_in l.places) l.here (lines_left l.left) ≡ places_from no_places start (lines_of l.source);
  end : end_from l.here (lines_left l.left) ≡ end_from start (lines_of l.source);
  twice : option_or l.twice (twice_from (l.above + 1) (place_in l.places) l.here (lines_left l.left)) ≡ twice_from 1 no_places start (lines_of l.source);
  count : l.above + length (parts_left l.left) ≡ length (slice_split (λ b. b == 10) l.source);
  within : IsWithin l.here;
}

abbrev pub decreases-loop-left : goal.decreases-loop-left
decreases-loop-left l = length (parts_left l.left)
