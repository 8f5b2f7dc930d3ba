use Rattle.std.proofs.Common.{map, string_bytes, sym}
use Rattle.std.proofs.lemmas.Result.{err_from_is_err_and}
use Rattle.cet_cli.proofs.CallWords.{faulty_smp_first, smp_fault}
use Rattle.cet_cli.proofs.calls.read_smp.Goals as goal

pub returns-then-not-is_smp-clause-means : goal.returns-then-not-is_smp-clause-means
returns-then-not-is_smp-clause-means c = faulty_smp_first (map string_bytes c.args.words.now) (sym c.if-not-is_smp.ensures)

pub returns-in_err-settings-clause-means : goal.returns-in_err-settings-clause-means
returns-in_err-settings-clause-means c =
    let p = err_from_is_err_and c.from_residual.result c.from_residual.ensures.1 in
    rw (p.1, p.2) (smp_fault (map string_bytes c.args.words.now) c.in_err-settings.field-0.0 (sym c.if-not-is_smp.ensures) c.in_err-settings.ensures.means)
