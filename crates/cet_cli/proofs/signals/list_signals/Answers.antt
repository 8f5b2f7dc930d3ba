use Rattle.std.proofs.Common.{ℕ, List, [], ◌∷◌, ◌++◌, drop, length, ap, ◌∙◌, sym, arith, refl}
use Rattle.std.proofs.lemmas.Iterator.Consumers.{YieldsList-end, YieldsList-turn}
use Rattle.std.proofs.lemmas.List.{length_push}
use Rattle.cet_words.specs.declared.images.Signal.{Signal}
use Rattle.cet_cli.specs.Values.{signal_of}
use Rattle.cet_cli.proofs.ItemLists.{items_are, made_end, made_none, made_on, none_is, one_signal, parts, signals_first, signals_made, split_gives}
use Rattle.cet_cli.proofs.signals.list_signals.Goals as goal

pub loop-item-init : goal.loop-item-init
loop-item-init c =
    signals_first c.args.text.now c.requires
    ∙ ap (signals_made []) (items_are c.args.text.now (c.if-is_empty.ensures {u = tt}))
    ∙ ap (λ (l : List Signal). signals_made l (parts 44 c.args.text.now)) (sym c.new-signals.ensures)

pub loop-item-preserved : goal.loop-item-preserved
loop-item-preserved c =
    let t = YieldsList-turn (split_gives c.args.text.now c.split-item-items.result c.into_iter-item-iterator.result c.into_iter-item-iterator.ensures.into_iter_gives c.split-item-items.ensures.text
    c.split-item-items.ensures.has_more c.split-item-items.ensures.pattern)
    c.loop-item.yielded _ c.loop-item.yielded_by _ _ c.in-Some.item c.in-Some.is c.next.ensures.steps in
    let all = parts 44 c.args.text.now in
    let signal = c.in-Some-signal_of.signal in
    c.loop-item.invariant
    ∙ made_on signal_of one_signal (λ s. s) refl (λ a rest. refl) all (length c.loop-item.yielded) c.in-Some.item.now signal c.loop-item.signals t (sym c.signal_of.ensures ∙ c.in-Some-signal_of.is)
    ∙ ap (λ (n : ℕ). signals_made (c.loop-item.signals ++ signal ∷ []) (drop n all)) (sym (length_push c.loop-item.yielded c.in-Some.item))
    ∙ ap (λ (l : List Signal). signals_made l (drop (length (c.loop-item.yielded ++ c.in-Some.item ∷ [])) all)) (sym (c.in_ok-push.ensures {u = tt}).ok)

pub returns-in_default : goal.returns-in_default
returns-in_default c =
    let t = YieldsList-turn (split_gives c.args.text.now c.split-item-items.result c.into_iter-item-iterator.result c.into_iter-item-iterator.ensures.into_iter_gives c.split-item-items.ensures.text
    c.split-item-items.ensures.has_more c.split-item-items.ensures.pattern)
    c.loop-item.yielded _ c.loop-item.yielded_by _ _ c.in-Some.item c.in-Some.is c.next.ensures.steps in
    absurd (none_is _ c.requires (c.loop-item.invariant
    ∙ made_none signal_of one_signal (λ s. s) refl (λ a rest. refl) (parts 44 c.args.text.now) (length c.loop-item.yielded) c.in-Some.item.now c.loop-item.signals t (sym c.signal_of.ensures ∙ c.in_default.is)))

pub returns : goal.returns
returns c =
    let t = YieldsList-end (split_gives c.args.text.now c.split-item-items.result c.into_iter-item-iterator.result c.into_iter-item-iterator.ensures.into_iter_gives c.split-item-items.ensures.text
    c.split-item-items.ensures.has_more c.split-item-items.ensures.pattern)
    c.loop-item.yielded _ c.loop-item.yielded_by _ _ c.in-None.is c.next.ensures.steps in
    sym (c.loop-item.invariant ∙ made_end signal_of one_signal (λ s. s) refl (λ a rest. refl) (parts 44 c.args.text.now) (length c.loop-item.yielded) c.loop-item.signals (omega (arith, t.1)))
