use Rattle.std.proofs.Common.{◌≡◌, ◌-◌, length}
use Rattle.cet_elf.specs.Notes.{feature, feature_among}
use Rattle.cet_elf.proofs.notes.feature.Given as goal

abbrev pub invariant-loop-step : goal.invariant-loop-step
invariant-loop-step l = feature_among (length l.properties - l._step) l.rest ≡ feature l.properties
