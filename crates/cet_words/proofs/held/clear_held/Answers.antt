use Rattle.std.proofs.Common.{arith}
use Rattle.std.proofs.lemmas.Bool.Decides.{nat_tests}
use Rattle.std.proofs.lemmas.List.{get_or_past}
use Rattle.cet_words.proofs.held.clear_held.Goals as goal

pub returns-clause-clear : goal.returns-clause-clear
returns-clause-clear c w = grind (arith, nat_tests, c.loop-at.invariant.clear w, get_or_past c.args.words.now.items w 0)
