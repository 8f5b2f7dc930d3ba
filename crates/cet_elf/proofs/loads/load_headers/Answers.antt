use Rattle.std.proofs.Common.{subst, Option, List, ℕ, Err, length}
use Rattle.std.proofs.lemmas.Result.{err_from_is_err_and}
use Rattle.cet_elf.specs.Headers.{xword}
use Rattle.cet_elf.specs.Refusals.{HoldBelow, Refusal}
use Rattle.cet_elf.proofs.RuleLemmas.{late_refused, same_breaches, each_holds, all_hold, loaded, answered}
use Rattle.cet_elf.proofs.ImageLemmas.{is_image, all_filled}
use Rattle.cet_elf.proofs.loads.load_headers.Goals as goal

pub returns-in_err-refuse_broken : goal.returns-in_err-refuse_broken
returns-in_err-refuse_broken c =
    let bytes = c.args.bytes.now in
    let e = c.in_err-refuse_broken.field-0.0 in
    let same = same_breaches bytes c.args.table.now c.features-features.result c.header_breaches.result c.requires.headers c.features-features.ensures c.header_breaches.ensures in
    let refused = late_refused bytes e c.requires.file
    (subst (λ (l : List (Option ℕ)). Refusal 7 l (Err e)) same c.in_err-refuse_broken.ensures) in
    let p = err_from_is_err_and c.from_residual.result c.from_residual.ensures.1 in
    answered bytes c.from_residual.result p.0 e p.1 p.2 refused

pub image-requires-clause-filled : goal.image-requires-clause-filled
image-requires-clause-filled c =
    let bytes = c.args.bytes.now in
    let same = same_breaches bytes c.args.table.now c.features-features.result c.header_breaches.result c.requires.headers c.features-features.ensures c.header_breaches.ensures in
    let hold = subst (λ (l : List (Option ℕ)). HoldBelow (length l) l) same c.in_ok-refuse_broken.ensures in
    all_filled (length bytes) c.args.table.now (each_holds bytes c.args.table.now c.requires.headers hold).filled

pub image-requires-clause-good : goal.image-requires-clause-good
image-requires-clause-good c =
    let bytes = c.args.bytes.now in
    let same = same_breaches bytes c.args.table.now c.features-features.result c.header_breaches.result c.requires.headers c.features-features.ensures c.header_breaches.ensures in
    let hold = subst (λ (l : List (Option ℕ)). HoldBelow (length l) l) same c.in_ok-refuse_broken.ensures in
    let each = each_holds bytes c.args.table.now c.requires.headers hold in
    is_image bytes (xword bytes 24) c.args.table.now c.requires.headers each.filled each.placed each.guarded each.apart each.entered

pub returns : goal.returns
returns c =
    let bytes = c.args.bytes.now in
    let same = same_breaches bytes c.args.table.now c.features-features.result c.header_breaches.result c.requires.headers c.features-features.ensures c.header_breaches.ensures in
    let hold = subst (λ (l : List (Option ℕ)). HoldBelow (length l) l) same c.in_ok-refuse_broken.ensures in (
      all_hold bytes c.requires.file hold,
      loaded bytes c.args.table.now c.features-features.result c.in_ok-image.field-0 c.requires.headers c.features-features.ensures c.in_ok-image.ensures,
    )
