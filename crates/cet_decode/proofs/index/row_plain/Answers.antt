use Rattle.cet_decode.proofs.index.row_plain.Goals as goal

pub returns-then-lead : goal.returns-then-lead
returns-then-lead c = rw c.if-lead.true c.row_mapped.ensures

pub returns-else-lead : goal.returns-else-lead
returns-else-lead c = rw c.if-lead.false c.row_mapped-else-lead.ensures
