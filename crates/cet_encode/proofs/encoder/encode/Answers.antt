use Rattle.std.proofs.Common.{◌≡◌, List, ℕ, ◌++◌, length}
use Rattle.cet_isa.specs.declared.instructions.Instr.{Instr}
use Rattle.cet_isa.specs.Canonical.{canonical_spelling}
use Rattle.cet_isa.proofs.CanonicalSpells.{canonical_spells}
use Rattle.cet_isa.proofs.DecodedLaws.{decoded_spelling}
use Rattle.cet_isa.specs.Reading.{decoded, Read}
use Rattle.cet_isa.specs.Spelled.{InstrFits}
use Rattle.cet_isa.proofs.SpelledLaws.{spelled_has}
use Rattle.cet_isa.specs.Spells.{Spells}
use Rattle.cet_encode.proofs.encoder.encode.Goals as goal

-- what is spelled has its canonical spelling, which is decoded as the same
decoded_back : (instr : Instr) → (bytes : List ℕ) × Spells bytes instr → InstrFits instr → (rest : List ℕ)
    → decoded (canonical_spelling instr ++ rest) ≡ Read instr (length (canonical_spelling instr))
decoded_back instr spelled fits rest =
    decoded_spelling (canonical_spelling instr) rest instr (canonical_spells instr fits (spelled_has spelled.0 instr spelled.1))

pub returns-in_err-put_spelling-clause-back : goal.returns-in_err-put_spelling-clause-back
returns-in_err-put_spelling-clause-back c = decoded_back c.args.instr.now c.requires c.put_spelling.ensures.fits

pub returns-clause-back : goal.returns-clause-back
returns-clause-back c = decoded_back c.args.instr.now c.requires c.put_spelling.ensures.fits
