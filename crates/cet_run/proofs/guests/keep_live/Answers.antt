use Rattle.std.proofs.Common.{sym, ◌∙◌}
use Rattle.cet_run.proofs.LiveThreads.{live_kept}
use Rattle.cet_run.proofs.guests.keep_live.Goals as goal

pub returns-else-is_some : goal.returns-else-is_some
returns-else-is_some c =
    live_kept c.args.all_traced.now c.args.live.now.items c.args.at c.index-all_traced-at.result c.end.result c.requires.live c.requires.range c.index-all_traced-at.is c.end.ensures (sym c.is_some.ensures ∙ c.if-is_some.false)
