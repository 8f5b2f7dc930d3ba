use Rattle.std.proofs.Common.{length}
use Rattle.std.specs.Prelude.{All}
use Rattle.cet_pool.specs.Going.{IsLive}
use Rattle.cet_pool.specs.Gathering.{IsGathering}
use Rattle.cet_pool.proofs.drives.gather.Given as goal

abbrev pub invariant-waiting : goal.invariant-waiting
invariant-waiting l = record {
  lives : All (IsLive l.shared) l.waiting.items;
  gathering : IsGathering l.shared l.fn.waiting.items l.waiting.items l.done;
}

abbrev pub decreases-waiting : goal.decreases-waiting
decreases-waiting l = length l.waiting.items
