use Rattle.std.proofs.Common.{All, sym, subst}
use Rattle.cet_book.specs.View.{IsSpan}
use Rattle.cet_own.specs.Told.{told_in}
use Rattle.cet_run.proofs.ToldStacks.{told_of}
use Rattle.cet_run.proofs.told_stacks.told_spans.Goals as goal

pub push_all_told-requires : goal.push_all_told-requires
push_all_told-requires c =
    subst (λ l. All IsSpan (told_in l)) (sym c.as_slice.ensures) (told_of c.args.outs.now c.loop-out.out-index c.out-item.result c.loop-out-test.true c.out-item.is c.requires)
