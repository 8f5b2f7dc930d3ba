use Rattle.std.proofs.Common.{◌≡◌, ◌&&◌, length}
use Rattle.std.specs.List.{list_all}
use Rattle.cet_syntax.specs.Tokens.{tokens}
use Rattle.cet_syntax.specs.Operands.{is_list, listed}
use Rattle.cet_syntax.specs.Views.{fits_kind}
use Rattle.cet_syntax.proofs.lists.list_fits.Given as goal

abbrev pub invariant-loop-place : goal.invariant-loop-place
invariant-loop-place l = record {
  form : is_list (tokens l.rest) ≡ is_list (tokens l.text);
  fits : (l.all_fit && list_all (fits_kind l.kind) (listed (tokens l.rest))) ≡ list_all (fits_kind l.kind) (listed (tokens l.text));
}

abbrev pub decreases-loop-place : goal.decreases-loop-place
decreases-loop-place l = length l.rest
