use Rattle.cet_shared.specs.Held.{IsOf}
use Rattle.cet_shared.proofs.tests.go_on.Given as goal

abbrev pub invariant-turns : goal.invariant-turns
invariant-turns l = record {
  pass : IsOf l.shared l.pass;
}
