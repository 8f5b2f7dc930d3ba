use Rattle.std.proofs.Common.{length}
use Rattle.cet_rows.proofs.+is_disjoint.Given as goal

abbrev pub decreases-is_disjoint : goal.decreases-is_disjoint
decreases-is_disjoint c = length c.rows.now
