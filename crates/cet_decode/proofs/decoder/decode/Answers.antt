use Rattle.std.proofs.Common.{arith, sym, subst, ap, ◌∙◌}
use Rattle.cet_isa.specs.Reading.{IsAnswer, Decoding}
use Rattle.cet_isa.proofs.DecodedLaws.{decoded_answers, spelling_short, part_short, is_bytes}
use Rattle.cet_decode.specs.Decoded.{decoding}
use Rattle.cet_decode.proofs.decoder.decode.Goals as goal

pub returns-clause-exact : goal.returns-clause-exact
returns-clause-exact c =
    let a = decoded_answers c.args.bytes.now (is_bytes c.args.bytes.now (λ i. omega (arith, c.type_inv.bytes i))) in
    subst (λ (d : Decoding). IsAnswer c.args.bytes.now d) (sym c.answer.ensures.reads) a

pub returns-clause-part : goal.returns-clause-part
returns-clause-part c e =
    let a = decoded_answers c.args.bytes.now (is_bytes c.args.bytes.now (λ i. omega (arith, c.type_inv.bytes i))) in
    part_short c.args.bytes.now (a.short.0 (sym c.answer.ensures.reads ∙ ap decoding e))

pub returns-clause-longest : goal.returns-clause-longest
returns-clause-longest c spelling instr s = spelling_short spelling instr s
