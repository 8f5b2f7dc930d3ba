use Rattle.std.proofs.Common.{rules}
use Rattle.std.proofs.lemmas.List.Sorted.{All-permutation, IsNonDecreasingBy-from_sort_by_key}
use Rattle.cet_pool.specs.Going.{IsLive}
use Rattle.cet_pool.proofs.Gatherings.{all_moved, ascends, gathering_done, number_of}
use Rattle.cet_pool.proofs.Settling.{over_lives}
use Rattle.cet_pool.proofs.drives.gather_by_number.Goals as goal

pub gather-requires-clause-lives : goal.gather-requires-clause-lives
gather-requires-clause-lives c =
    All-permutation (IsLive c.args.shared.now) c.args.ended.items c.sort_by_key.new.self.items c.in_ok-sort_by_key.ensures.permutation (over_lives c.args.shared.now c.args.ended.items c.requires.over)

pub returns : goal.returns
returns c =
    gathering_done c.args.shared.now c.sort_by_key.new.self.items c.in_ok-done.done c.in_ok-done.ensures
    (all_moved c.args.ended.items c.sort_by_key.new.self.items c.in_ok-sort_by_key.ensures.permutation c.requires.all)
    (ascends c.sort_by_key.new.self.items (IsNonDecreasingBy-from_sort_by_key number_of _ c.in_ok-sort_by_key.ensures.sorted (λ a r q k. search rules)))
