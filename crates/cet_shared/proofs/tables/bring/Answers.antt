use Rattle.std.proofs.Common.{◌<◌, refl, arith}
use mathlib.Core.Option.{none}
use Rattle.atomic_table.specs.Table.{step}
use Rattle.cet_shared.specs.Keys.{job_of}
use Rattle.cet_shared.proofs.Children.{brings}
use Rattle.cet_shared.proofs.tables.bring.Goals as goal

pub load-requires : goal.load-requires
load-requires c =
    let table = c.args.shared.now in
    let wide : c.args.number < table.table_id.words = omega (arith, c.requires.1) in
    (c.requires.0, wide, brings (job_of table.key) c.args.seat.now.id c.args.seat.now.me table.table_id.slots c.args.number (step table.table_id.slots c.args.number 0 0 none) refl)

pub returns-clause-picked : goal.returns-clause-picked
returns-clause-picked c = c.load.ensures.2.2
