use Rattle.std.proofs.Common.{◌≡◌, ◌+◌, ◌++◌, ◌==◌, length}
use Rattle.std.specs.List.{slice_split}
use Rattle.cet_asm.specs.Layout.{start}
use Rattle.cet_asm.specs.Program.{lines_of, section_from, mark_from}
use Rattle.cet_syntax.specs.Parts.{parts_left}
use Rattle.cet_syntax.proofs.PartsLeft.{lines_left}
use Rattle.cet_asm.specs.Passes.{fault_by, IsWithin}
use Rattle.cet_asm.specs.Places.{symbols_view}
use Rattle.cet_asm.specs.declared.sections.Section.TheVariants.{Text, Data}
use Rattle.cet_asm.proofs.second_pass.second_pass.Given as goal

abbrev pub invariant-loop-left : goal.invariant-loop-left
invariant-loop-left l = record {
  faults : fault_by (symbols_view l.labels) l.twice (l.above + 1) l.here (lines_left l.left) ≡ fault_by (symbols_view l.labels) l.twice 1 start (lines_of l.source);
  text : l.out.text ++ section_from (symbols_view l.labels) Text l.here (lines_left l.left) ≡ section_from (symbols_view l.labels) Text start (lines_of l.source);
  static_data : l.out.static_data ++ section_from (symbols_view l.labels) Data l.here (lines_left l.left) ≡ section_from (symbols_view l.labels) Data start (lines_of l.source);
  marks : mark_from l.mark (lines_left l.left) ≡ mark_from 2 (lines_of l.source);
  count : l.above + length (parts_left l.left) ≡ length (slice_split (λ b. b == 10) l.source);
  within : IsWithin l.here;
}

abbrev pub decreases-loop-left : goal.decreases-loop-left
decreases-loop-left l = length (parts_left l.left)
