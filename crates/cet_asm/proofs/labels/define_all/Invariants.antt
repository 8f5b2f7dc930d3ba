use Rattle.std.proofs.Common.{◌≡◌, ◌||◌, length}
use Rattle.cet_syntax.specs.Line.{labels_of}
use Rattle.cet_asm.specs.Passes.{place_in, with_labels, has_one}
use Rattle.cet_asm.proofs.labels.define_all.Given as goal

abbrev pub invariant-loop-name : goal.invariant-loop-name
invariant-loop-name l = record {
  known : (l.known || has_one (place_in l.places) l.symbol (labels_of l.rest)) ≡ has_one (place_in l.fn.places) l.symbol (labels_of l.text);
  places : with_labels (place_in l.places) l.symbol (labels_of l.rest) ≡ with_labels (place_in l.fn.places) l.symbol (labels_of l.text);
}

abbrev pub decreases-loop-name : goal.decreases-loop-name
decreases-loop-name l = length l.rest
