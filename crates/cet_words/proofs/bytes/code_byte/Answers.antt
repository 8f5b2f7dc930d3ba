use Rattle.std.proofs.Common.{sym, ap, ◌∙◌}
use Rattle.std.specs.Prelude.{find}
use Rattle.std.specs.Option.{option_copied}
use Rattle.cet_words.specs.Job.{covers}
use Rattle.cet_words.proofs.ByteLaws.{found_place}
use Rattle.cet_words.proofs.bytes.code_byte.Goals as goal

pub returns-in-Some-clause-range : goal.returns-in-Some-clause-range
returns-in-Some-clause-range c =
    (found_place c.image.inside.segments c.args.addr c.in-Some.segment.now c.image.invariant.each (sym (ap (find (covers _)) c.as_slice.ensures) ∙ sym c.segment_of.ensures ∙ ap option_copied c.in-Some.is)).1
