use Rattle.std.proofs.Common.{not, ◌&&◌, rules, tests}
use Rattle.std.proofs.lemmas.Iterator.{YieldsList-from_slice}
use Rattle.std.proofs.lemmas.Iterator.Search.{find_from_yields_List}
use Rattle.cet_elf.specs.Headers.{is_load}
use Rattle.cet_elf.proofs.rules.load_breach.Goals as goal

pub returns : goal.returns
returns g c test is_test =
    let found = find_from_yields_List (λ h. is_load h && not (test h)) _ _ c.find-broken.result c.find-broken.ensures.ran
    (YieldsList-from_slice c.args.headers.now cc) (λ x b q called. search (is_test, rules, tests)) in
    search (found, rules)
