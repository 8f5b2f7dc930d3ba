use Rattle.std.proofs.Common.{◌≡◌, ◌<◌, ◌∙◌, sym, refl, true, false, length, arith}
use Rattle.std.specs.Prelude.{nat_le}
use Rattle.std.proofs.lemmas.Bool.Decides.{nat_tests}
use Rattle.cet_book.proofs.EventSteps.{busied_step}
use Rattle.cet_book.proofs.gates.busied.Goals as goal

pub returns-then-held_by-gates : goal.returns-then-held_by-gates
returns-then-held_by-gates c =
    let none : nat_le (length c.args.gates.now) c.held_by.result ≡ false = (let t = c.if-held_by-gates.true in grind (arith, nat_tests)) in
    let few : c.args.stack < 8 = (let t = c.if-at-gates.false in let u = c.requires in omega arith) in
    λ R. (busied_step c.args.thread c.args.stack c.held_by.result R c.args.gates.now false few (sym c.is_free.ensures ∙ c.if-not-is_free.false) c.held_by.ensures none, refl)

pub returns : goal.returns
returns c =
    let some : nat_le (length c.args.gates.now) c.held_by.result ≡ true = (let t = c.if-held_by-gates.false in grind (arith, nat_tests)) in
    let few : c.args.stack < 8 = (let t = c.if-at-gates.false in let u = c.requires in omega arith) in
    λ R. busied_step c.args.thread c.args.stack c.held_by.result R c.args.gates.now true few (sym c.is_free.ensures ∙ c.if-not-is_free.false) c.held_by.ensures some
