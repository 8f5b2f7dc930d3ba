use Rattle.std.proofs.Common.{◌≤◌, ℕ, List, length, subst, sym}
use Rattle.cet_ctx.specs.Lines.{most_text}
use Rattle.cet_ctx.proofs.Lengths.{bench_short}
use Rattle.cet_ctx.proofs.bench.bench_text.Goals as goal

pub returns-clause-short : goal.returns-clause-short
returns-clause-short c = subst (λ (t : List ℕ). length t ≤ most_text) (sym (c.in_ok-text.ensures {u = tt})) (bench_short c.args.n c.requires.high)
