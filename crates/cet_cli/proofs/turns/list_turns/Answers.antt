use Rattle.std.proofs.Common.{ℕ, List, [], ◌∷◌, ◌++◌, drop, length, ap, ◌∙◌, sym, arith, refl}
use Rattle.std.proofs.lemmas.Iterator.Consumers.{YieldsList-end, YieldsList-turn}
use Rattle.std.proofs.lemmas.List.{length_push}
use Rattle.cet_cli.specs.Values.{repeat_of, threads_of}
use Rattle.cet_cli.proofs.ItemLists.{items_are, its_turns, made_end, made_none, made_on, no_schedule, parts, split_gives, turns_first, turns_made}
use Rattle.cet_cli.proofs.turns.list_turns.Goals as goal

pub loop-item-init : goal.loop-item-init
loop-item-init c =
    turns_first c.args.text.now c.requires
    ∙ ap (turns_made []) (items_are c.args.text.now (c.if-is_empty.ensures {u = tt}))
    ∙ ap (λ (l : List ℕ). turns_made l (parts 44 c.args.text.now)) (sym c.new-turns.ensures)

pub loop-item-preserved : goal.loop-item-preserved
loop-item-preserved c =
    let t = YieldsList-turn (split_gives c.args.text.now c.split-item-items.result c.into_iter-item-iterator.result c.into_iter-item-iterator.ensures.into_iter_gives c.split-item-items.ensures.text
    c.split-item-items.ensures.has_more c.split-item-items.ensures.pattern)
    c.loop-item.yielded _ c.loop-item.yielded_by _ _ c.in-Some.item c.in-Some.is c.next.ensures.steps in
    let all = parts 44 c.args.text.now in
    let repeat = c.in-Some-repeat_of.repeat in
    c.loop-item.invariant
    ∙ made_on repeat_of its_turns threads_of refl (λ a rest. refl) all (length c.loop-item.yielded) c.in-Some.item.now repeat c.loop-item.turns t (sym c.repeat_of.ensures ∙ c.in-Some-repeat_of.is)
    ∙ ap (λ (n : ℕ). turns_made (c.loop-item.turns ++ its_turns repeat) (drop n all)) (sym (length_push c.loop-item.yielded c.in-Some.item))
    ∙ ap (λ (l : List ℕ). turns_made l (drop (length (c.loop-item.yielded ++ c.in-Some.item ∷ [])) all)) (sym (c.in_ok-extend_with.ensures {u = tt}).ok)

pub returns-in_default : goal.returns-in_default
returns-in_default c =
    let t = YieldsList-turn (split_gives c.args.text.now c.split-item-items.result c.into_iter-item-iterator.result c.into_iter-item-iterator.ensures.into_iter_gives c.split-item-items.ensures.text
    c.split-item-items.ensures.has_more c.split-item-items.ensures.pattern)
    c.loop-item.yielded _ c.loop-item.yielded_by _ _ c.in-Some.item c.in-Some.is c.next.ensures.steps in
    absurd (no_schedule c.args.text.now c.requires (c.loop-item.invariant
    ∙ made_none repeat_of its_turns threads_of refl (λ a rest. refl) (parts 44 c.args.text.now) (length c.loop-item.yielded) c.in-Some.item.now c.loop-item.turns t (sym c.repeat_of.ensures ∙ c.in_default.is)))

pub returns : goal.returns
returns c =
    let t = YieldsList-end (split_gives c.args.text.now c.split-item-items.result c.into_iter-item-iterator.result c.into_iter-item-iterator.ensures.into_iter_gives c.split-item-items.ensures.text
    c.split-item-items.ensures.has_more c.split-item-items.ensures.pattern)
    c.loop-item.yielded _ c.loop-item.yielded_by _ _ c.in-None.is c.next.ensures.steps in
    sym (c.loop-item.invariant ∙ made_end repeat_of its_turns threads_of refl (λ a rest. refl) (parts 44 c.args.text.now) (length c.loop-item.yielded) c.loop-item.turns (omega (arith, t.1)))
