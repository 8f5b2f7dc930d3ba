use Rattle.std.proofs.Common.{◌≡◌, Some, sym, ap, ◌∙◌, refl}
use Rattle.std.specs.Prelude.{slice_get}
use Rattle.std.proofs.lemmas.List.Elements.{All-set}
use Rattle.std.proofs.lemmas.Result.{on_ok_weaker}
use Rattle.std.proofs.lemmas.Option.{slice_get-get_or}
use Rattle.cet_cpu.specs.Cpu.{IsCpu}
use Rattle.cet_run.specs.TracedThreads.{TracedThreadData}
use Rattle.cet_run.proofs.guests.take.Goals as goal

here : (c : goal.After-all_traced-1) → slice_get c.args.all_traced.now.items c.args.at ≡ Some c.index_mut.result.now
here c = slice_get-get_or c.args.all_traced.now.items c.args.at c.index_mut.result.now c.requires.range ∙ ap Some (sym c.index_mut.ensures.value)

pub returns-clause-took : goal.returns-clause-took
returns-clause-took c =
    on_ok_weaker c.take.result (λ e. record { traced = c.index_mut.result.now; here = here c; set = record { traced = c.take.new.self; is = refl }; took = e }) c.take.ensures.took

pub returns-clause-cores : goal.returns-clause-cores
returns-clause-cores c =
    let P : TracedThreadData → Type 0 = λ traced. IsCpu c.args.job.now traced.cpu in
    on_ok_weaker c.take.result (λ s. All-set P c.args.all_traced.now.items c.args.at c.take.new.self s c.requires.cores) c.take.ensures.state
