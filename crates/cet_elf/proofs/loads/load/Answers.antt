use Rattle.std.proofs.Common.{subst, Option, List, ℕ, Err, length}
use Rattle.std.proofs.lemmas.Result.{err_from_is_err_and}
use Rattle.cet_elf.specs.Refusals.{HoldBelow, Refusal}
use Rattle.cet_elf.proofs.RuleLemmas.{early_refused, table_inside, answered}
use Rattle.cet_elf.proofs.loads.load.Goals as goal

pub returns-in_err-refuse_broken : goal.returns-in_err-refuse_broken
returns-in_err-refuse_broken c =
    let bytes = c.args.bytes.now in
    let e = c.in_err-refuse_broken.field-0.0 in
    let refused = early_refused bytes e (subst (λ (l : List (Option ℕ)). Refusal 1 l (Err e)) c.file_breaches.ensures c.in_err-refuse_broken.ensures) in
    let p = err_from_is_err_and c.from_residual.result c.from_residual.ensures.1 in
    answered bytes c.from_residual.result p.0 e p.1 p.2 refused

pub headers-requires : goal.headers-requires
headers-requires c =
    let bytes = c.args.bytes.now in
    table_inside bytes (subst (λ (l : List (Option ℕ)). HoldBelow (length l) l) c.file_breaches.ensures c.in_ok-refuse_broken.ensures)
