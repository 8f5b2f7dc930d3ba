use Rattle.std.proofs.Common.{sym, ◌∙◌}
use Rattle.cet_decode.proofs.IndexLaws.{long_is}
use Rattle.cet_decode.proofs.index.read_apart.Goals as goal

pub returns-then-has_long_prefix : goal.returns-then-has_long_prefix
returns-then-has_long_prefix c =
    let e = long_is c.args.bytes.now (sym c.has_long_prefix.ensures ∙ c.if-has_long_prefix.true) in
    rw e at c.read_some.ensures
