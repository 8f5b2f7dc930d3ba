use Rattle.std.proofs.Common.{Some, None, arith, sym}
use Rattle.cet_isa.proofs.DecodedLaws.{is_bytes}
use Rattle.cet_decode.specs.Lead.{lead}
use Rattle.cet_decode.proofs.RowLaws.{row_reads}
use Rattle.cet_decode.proofs.decoder.found_in.Goals as goal

pub returns-in_default-row_of : goal.returns-in_default-row_of
returns-in_default-row_of c =
    let x = c.in-Some.lead in
    let row = row_reads c.args.bytes.now (lead x.prefix x.rex x.escaped x.opcode x.rest.now) None (is_bytes c.args.bytes.now (λ i. omega (arith, c.type_inv.bytes i))) c.in-Some.ensures c.in_default-row_of.ensures in
    sym row

pub returns : goal.returns
returns c =
    let x = c.in-Some.lead in
    let row = row_reads c.args.bytes.now (lead x.prefix x.rex x.escaped x.opcode x.rest.now) (Some c.in-Some-row_of.form.now)
    (is_bytes c.args.bytes.now (λ i. omega (arith, c.type_inv.bytes i))) c.in-Some.ensures c.in-Some-row_of.ensures in
    rw row at c.found_behind.ensures
