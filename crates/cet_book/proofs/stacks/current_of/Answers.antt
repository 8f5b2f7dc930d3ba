use Rattle.std.proofs.Common.{sym, ◌∙◌}
use Rattle.cet_book.proofs.Latest.{none_current}
use Rattle.cet_book.proofs.Lookups.{current_is}
use Rattle.cet_book.proofs.stacks.current_of.Goals as goal

pub returns-then-not-is_current : goal.returns-then-not-is_current
returns-then-not-is_current c = none_current c.args.thread c.args.stacks.now c.args.latest.now c.requires.1.list (sym c.is_current.ensures ∙ c.if-not-is_current.true)

pub returns : goal.returns
returns c = current_is c.args.thread _ c.args.stacks.now c.requires.0 c.requires.1.book (sym c.is_current.ensures ∙ c.if-not-is_current.false)
