use Rattle.std.proofs.Common.{ap, ◌∙◌}
use Rattle.cet_isa.specs.Canonical.{canonical_spelling}
use Rattle.cet_isa.proofs.CanonicalSpells.{canonical_spells}
use Rattle.cet_isa.specs.Spelled.{has_spelling}
use Rattle.cet_asm.proofs.sizes.spell.Goals as goal

pub encode-requires : goal.encode-requires
encode-requires c = (canonical_spelling c.ranged.result, canonical_spells c.ranged.result c.ranged.ensures.fits (ap has_spelling c.ranged.ensures.same ∙ c.requires))
