use Rattle.std.proofs.Common.{◌≡◌, ◌<◌, sym, ap, ◌∙◌, arith}
use mathlib.Core.Option.{none}
use Rattle.atomic_table.specs.Table.{step}
use Rattle.cet_shared.specs.Keys.{job_of}
use Rattle.cet_shared.proofs.Auditing.{audits}
use Rattle.cet_shared.proofs.tables.Shared.audit.Goals as goal

pub load-requires : goal.load-requires
load-requires c =
    let table = c.self.inside.table.shared in
    let wide : 0 < table.table_id.words = omega (arith, c.self.invariant.0) in
    (ap (λ p. p.table_id) c.pass.view_is ∙ c.requires.table ∙ sym (ap (λ s. s.table_id) c.self.view_is), wide, audits (job_of table.key) _ _ _ (step table.table_id.slots 0 0 0 none))
