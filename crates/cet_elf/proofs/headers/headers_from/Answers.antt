use Rattle.cet_elf.proofs.HeaderLemmas.{one_more}
use Rattle.cet_elf.proofs.headers.headers_from.Goals as goal

pub loop-index-preserved : goal.loop-index-preserved
loop-index-preserved c =
    one_more c.args.bytes.now c.args.table c.loop-index.index c.loop-index.headers.items c.push.new.self.items
    c.header_at.result c.loop-index.invariant c.in_ok-push.ensures.items c.header_at.ensures
