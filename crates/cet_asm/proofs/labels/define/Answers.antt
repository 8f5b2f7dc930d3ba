use Rattle.std.proofs.Common.{rules}
use Rattle.cet_asm.proofs.MapLaws.{one_more}
use Rattle.cet_asm.proofs.labels.define.Goals as goal

pub returns-clause-places : goal.returns-clause-places
returns-clause-places c = one_more c.args.name.now c.args.places.now c.insert.new.self c.args.symbol (search rules) c.in_ok-insert.ensures.updates
