use Rattle.std.proofs.Common.{◌≤◌, IfSome, subst, sym}
use Rattle.cet_asm.specs.Layout.{program_limit}
use Rattle.cet_asm.proofs.labels.label_address.Goals as goal

pub address_of-requires-clause-symbol : goal.address_of-requires-clause-symbol
address_of-requires-clause-symbol c = subst (λ o. IfSome o (λ symbol. symbol.offset ≤ program_limit)) (sym c.in-Some.ensures.value) (c.requires.1 c.args.name.now)
