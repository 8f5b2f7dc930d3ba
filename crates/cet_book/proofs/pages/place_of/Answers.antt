use Rattle.std.proofs.Common.{sym, ◌∙◌, length}
use Rattle.cet_book.proofs.PageTable.{has_both, table_found, table_none}
use Rattle.cet_book.proofs.pages.place_of.Goals as goal

pub returns-then-has-clause-place : goal.returns-then-has-clause-place
returns-then-has-clause-place c =
    table_found c.args.regions.now c.args.table.now c.args.addr (length c.args.regions.now) c.listed-at.result c.requires c.listed-at.ensures (sym c.has.ensures ∙ c.if-has.true)

pub returns-then-has-clause-there : goal.returns-then-has-clause-there
returns-then-has-clause-there c = λ _. (has_both c.args.regions.now c.args.addr c.listed-at.result (sym c.has.ensures ∙ c.if-has.true)).1

pub returns-else-has-clause-place : goal.returns-else-has-clause-place
returns-else-has-clause-place c =
    table_none c.args.regions.now c.args.table.now c.args.addr (length c.args.regions.now) c.listed-at.result c.requires c.listed-at.ensures (sym c.has.ensures ∙ c.if-has.false)
