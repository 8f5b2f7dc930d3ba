use Rattle.std.proofs.Common.{◌∙◌}
use Rattle.cet_book.proofs.PageTable.{table_more}
use Rattle.cet_book.proofs.pages.fill_table.Goals as goal

pub loop-at-preserved : goal.loop-at-preserved
loop-at-preserved c = record {
  size = c.put_pages.auto.table ∙ c.loop-at.invariant.size;
  table = table_more c.args.regions.now c.loop-at.table c.put_pages.new.table c.loop-at.at c.pages_of-first.result.0 c.pages_of-first.result.1 c.requires.each c.requires.apart c.loop-at-test.true
      c.pages_of-first.ensures.first c.pages_of-first.ensures.last c.put_pages.ensures.here c.put_pages.ensures.others c.loop-at.invariant.table;
}
