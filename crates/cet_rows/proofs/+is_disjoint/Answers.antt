use Rattle.std.proofs.Common.{◌≡◌, false, true, refl}
use Rattle.cet_rows.proofs.PairLaws.{pairs_from_later, pairs_of_later, pairs_exclude}
use Rattle.cet_rows.proofs.+is_disjoint.Goals as goal

pub returns-then-not-has_key : goal.returns-then-not-has_key
returns-then-not-has_key f c = (
  λ h. pairs_from_later c.args.rows.now _ c.in-len1-up.len_at_least (λ has. let e : false ≡ true = c.if-not-has_key.ensures.1 has in cc) (c.is_disjoint.ensures.0 h),
  λ pairs. c.is_disjoint.ensures.1 (pairs_of_later c.args.rows.now pairs),
)

pub returns-else-not-has_key : goal.returns-else-not-has_key
returns-else-not-has_key f c =
    (λ h. let e = c.if-not-has_key.false in absurd cc, λ pairs. absurd (pairs_exclude c.args.rows.now _ c.in-len1-up.len_at_least (c.if-not-has_key.ensures.0 refl) pairs))
