use Rattle.std.proofs.Common.{◌≡◌, ◌∙◌, sym, ap, rules, Bool, false, eqb, vec_len, length, arith}
use Rattle.std.specs.Prelude.{not}
use Rattle.std.proofs.lemmas.Bool.Decides.{nat_tests}
use Rattle.std.proofs.lemmas.List.Elements.{filter_from_retain}
use Rattle.cet_pool.specs.declared.workers.Bin.{Bin}
use Rattle.cet_pool.specs.Rounds.{spread}
use Rattle.cet_pool.proofs.Dealing.{spread_filter}
use Rattle.cet_pool.proofs.Turns.{none_in}
use Rattle.cet_pool.proofs.rounds.drop_empty.Goals as goal

abbrev has_some : Bin → Bool
has_some b = not (eqb (vec_len b.lives) 0)

none_len : (n m : _) → n ≡ m → not (eqb n 0) ≡ false → m ≡ 0
none_len n m e t = grind (arith, nat_tests)

pub returns : goal.returns
returns c =
    ap spread (filter_from_retain _ has_some (λ p x b q h. search rules) _ _ _ c.retain.ensures.filtered)
    ∙ spread_filter has_some (λ b e. none_in b.lives.items (none_len (vec_len b.lives) (length b.lives.items) b.lives.ok.0 e)) c.args.bins.now.items
