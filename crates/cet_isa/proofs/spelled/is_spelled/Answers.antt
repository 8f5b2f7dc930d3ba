use Rattle.std.proofs.Common.{◌∙◌, sym}
use Rattle.cet_isa.specs.Canonical.{canonical_spelling}
use Rattle.cet_isa.proofs.CanonicalSpells.{canonical_spells}
use Rattle.cet_isa.proofs.SpelledLaws.{spelled_has}
use Rattle.cet_isa.proofs.spelled.is_spelled.Goals as goal

pub returns-clause-spelled : goal.returns-clause-spelled
returns-clause-spelled c =
    let fits = c.passes_by_value.ensures.fits in
    let test = c.passes_by_value.ensures.test in
    (λ h. (canonical_spelling c.args.instr.now, canonical_spells c.args.instr.now fits (sym test ∙ h)), λ s. test ∙ spelled_has s.0 c.args.instr.now s.1)
