use Rattle.std.specs.Prelude.{◌≡◌, None}
use Rattle.cet_pool.specs.Going.{Went}
use Rattle.cet_pool.proofs.lives.turn.Given as goal

abbrev pub invariant-loop : goal.invariant-loop
invariant-loop l = Went l.shared 1 l.fn.live l.live l.fn.born.items l.born.items × (l.child ≡ None)
