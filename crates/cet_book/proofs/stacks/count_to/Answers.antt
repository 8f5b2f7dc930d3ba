use Rattle.std.proofs.Common.{arith, leb, leb-true, leb-false, rules}
use Rattle.std.proofs.lemmas.List.Sorted.{IsPartitionPoint-from_clause, IsPartitionedBy-leb}
use Rattle.cet_book.specs.Book.{Region, nowhere}
use Rattle.cet_book.proofs.Lookups.{starts_rise}
use Rattle.cet_book.proofs.stacks.count_to.Goals as goal

pub returns-clause-below : goal.returns-clause-below
returns-clause-below c =
    let parted = IsPartitionedBy-leb (λ (r : Region). r.start) _ c.args.addr (starts_rise c.args.stacks.now c.requires.0 c.requires.1) in
    let point = IsPartitionPoint-from_clause (λ (r : Region). leb r.start c.args.addr) _ _ c.partition_point.ensures.partitioned parted (λ a r q k. search rules) in
    λ k l. leb-true _ _ (point.0 k nowhere (omega arith) l)

pub returns-clause-above : goal.returns-clause-above
returns-clause-above c =
    let parted = IsPartitionedBy-leb (λ (r : Region). r.start) _ c.args.addr (starts_rise c.args.stacks.now c.requires.0 c.requires.1) in
    let point = IsPartitionPoint-from_clause (λ (r : Region). leb r.start c.args.addr) _ _ c.partition_point.ensures.partitioned parted (λ a r q k. search rules) in
    λ k l m. leb-false _ _ (point.1 k nowhere l m)
