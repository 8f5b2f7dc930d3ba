use Rattle.std.proofs.Common.{Some, sym, ap, ◌∙◌}
use Rattle.std.proofs.lemmas.Option.{slice_get-get_or}
use Rattle.cet_run.proofs.guests.ask.Goals as goal

pub returns : goal.returns
returns g c = record {
  traced = c.index-all_traced-at.result;
  here = slice_get-get_or c.args.all_traced.now c.args.at c.index-all_traced-at.result c.requires.range ∙ ap Some (sym c.index-all_traced-at.is);
  asked = c.ask.ensures;
}
