use Rattle.std.proofs.Common.{◌++◌, ◌∷◌, []}
use Rattle.cet_pool.specs.Going.{weigh}
use Rattle.cet_pool.specs.Rounds.{Settled}
use Rattle.cet_pool.proofs.drives.drive_rounds.Given as goal

abbrev pub invariant-rounds : goal.invariant-rounds
invariant-rounds g l = Settled l.shared 0 (record { pass = l.fn.first; records = [] } ∷ []) l.lives.items l.ended.items

abbrev pub decreases-rounds : goal.decreases-rounds
decreases-rounds g l = weigh l.shared.job (l.lives.items ++ l.ended.items)
