use Rattle.std.proofs.Common.{◌≡◌, ◌-◌, ◌+◌, ◌<◌, None, length, sym, ◌∙◌, ap, arith}
use Rattle.cet_elf.specs.Notes.{feature_among}
use Rattle.cet_elf.proofs.NoteLemmas.{found_here, found_later, none_behind, counted_out}
use Rattle.cet_elf.proofs.notes.feature.Goals as goal

pub returns-then-is_feature : goal.returns-then-is_feature
returns-then-is_feature c =
    let n = length c.args.properties.now - c.loop-step._step in
    let some : 0 < n = omega arith in
    c.get_u32.ensures ∙ sym (found_here n c.loop-step.rest.now some (sym c.if-is_feature.ensures)) ∙ c.loop-step.invariant

pub returns-in_err-rest : goal.returns-in_err-rest
returns-in_err-rest c =
    let n = length c.args.properties.now - c.loop-step._step in
    let some : 0 < n = omega arith in
    let same = none_behind n c.loop-step.rest.now some (sym c.if-is_feature.ensures) c.in_err-rest.ensures in
    let fin : None ≡ feature_among n c.loop-step.rest.now = sym same in
    search (c.loop-step.invariant, fin, c.from_residual.ensures)

pub loop-step-preserved : goal.loop-step-preserved
loop-step-preserved c =
    let n = length c.args.properties.now - c.loop-step._step in
    let m = length c.args.properties.now - (c.loop-step._step + 1) in
    let less : m + 1 ≡ n = omega arith in
    ap (feature_among m) c.in_ok-rest.ensures ∙ sym (found_later n m c.loop-step.rest.now less (sym c.if-is_feature.ensures)) ∙ c.loop-step.invariant

pub returns : goal.returns
returns c =
    let n = length c.args.properties.now - c.loop-step._step in
    let done : n ≡ 0 = omega arith in
    counted_out n c.loop-step.rest.now done ∙ c.loop-step.invariant
