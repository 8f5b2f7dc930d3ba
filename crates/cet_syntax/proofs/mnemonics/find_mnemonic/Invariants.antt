use Rattle.std.proofs.Common.{◌≡◌, drop, map}
use Rattle.std.specs.List.{find}
use Rattle.std.specs.Str.{bytes_eq}
use Rattle.cet_syntax.specs.Mnemonics.{Named}
use Rattle.cet_syntax.specs.Views.{named_view}
use Rattle.cet_syntax.proofs.mnemonics.find_mnemonic.Given as goal

abbrev pub invariant-loop-row : goal.invariant-loop-row
invariant-loop-row l = find (λ (n : Named). bytes_eq l.word n.name) (map named_view l.rows) ≡ find (λ (n : Named). bytes_eq l.word n.name) (map named_view (drop l.row-index l.rows))
