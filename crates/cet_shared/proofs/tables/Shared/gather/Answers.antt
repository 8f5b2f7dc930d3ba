use Rattle.std.proofs.Common.{◌<◌, sym, ap, ◌∙◌, arith}
use Rattle.cet_shared.specs.Keys.{job_of}
use Rattle.cet_shared.proofs.Law.{merges}
use Rattle.cet_shared.proofs.tables.Shared.gather.Goals as goal

pub join_seat-requires : goal.join_seat-requires
join_seat-requires c =
    let table = c.self.inside.table.shared in
    let wide : 0 < table.table_id.words = omega (arith, c.self.invariant.0) in
    let same = sym (ap (λ s. s.table_id) c.self.view_is) in (
      ap (λ p. p.table_id) c.into.view_is ∙ c.requires.into.table ∙ same,
      ap (λ p. p.table_id) c.done.view_is ∙ c.requires.done.table ∙ same,
      c.done.invariant.0,
      wide,
      merges (job_of table.key) _ _ _ _ c.into.inside.cpu.core c.into.invariant.1,
    )
