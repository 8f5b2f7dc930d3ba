use Rattle.std.proofs.Common.{◌∙◌, refl, arith, rules}
use Rattle.std.proofs.lemmas.Result.{err_from_is_err_and}
use Rattle.std.proofs.lemmas.List.{length-drop, take_all, take_rest}
use Rattle.cet_top.proofs.Known.{Appends-more, AppendsSome-more, appends_none}
use Rattle.cet_top.proofs.Serving.{wrote_by}
use Rattle.cet_top.proofs.transfers.write_all.Goals as goal

pub writes-init : goal.writes-init
writes-init g c = record { within = omega arith; steady = refl; written = appends_none _; unused = λ z. refl }

pub returns-in_err-at-clause-part : goal.returns-in_err-at-clause-part
returns-in_err-at-clause-part g c =
    let p = err_from_is_err_and c.from_residual.result c.from_residual.ensures.1 in
    let writes = c.in_err-at.ensures.bytes in
    let so_far = c.writes.invariant in
    rw p.1 (AppendsSome-more _ _ _ c.writes.at c.args.bytes.now so_far.within so_far.written (rw (take_rest c.args.bytes.now c.writes.at) at writes.failed))

pub writes-preserved : goal.writes-preserved
writes-preserved g c =
    let writes = c.in_ok-at.ensures.bytes in
    let so_far = c.writes.invariant in
    record {
      within = search rules;
      steady = c.in_ok-at.ensures.steady ∙ so_far.steady;
      unused = λ z. absurd (let t = c.writes-test.true in let some = c.in_ok-at.ensures.bytes.some (let n = length-drop c.writes.at c.args.bytes.now in omega arith) in omega arith);
      written = Appends-more _ _ _ c.writes.at c.in_ok-at.field-0 c.args.bytes.now so_far.written (rw (take_rest c.args.bytes.now c.writes.at) at writes.appended);
    }

pub returns-clause-written : goal.returns-clause-written
returns-clause-written g c =
    let so_far = c.writes.invariant in
    let whole = take_all c.writes.at c.args.bytes.now (let t = c.writes-test.false in omega arith) in
    wrote_by _ _ _ (rw whole at so_far.written) so_far.steady (λ z. so_far.unused (let w = so_far.within in omega arith))
