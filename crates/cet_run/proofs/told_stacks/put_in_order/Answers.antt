use Rattle.std.proofs.Common.{rules}
use Rattle.std.proofs.lemmas.List.Sorted.{answers_always}
use Rattle.cet_book.specs.View.{Span}
use Rattle.cet_run.proofs.InOrder.{sorted_is}
use Rattle.cet_run.proofs.told_stacks.put_in_order.Goals as goal

pub returns : goal.returns
returns c =
    let by_start = answers_always _ _ _ (λ f a r g h. search rules) in
    sorted_is _ _ (c.in_ok-sort_by_key.ensures.sorted (λ (s : Span). s.start) by_start) (c.sort_by_key.ensures.stable (λ (s : Span). s.start) by_start)
