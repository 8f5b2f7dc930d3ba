use Rattle.std.proofs.Common.{◌≡◌, ◌<◌, ◌-◌, ℕ, false, drop, length, ap, ◌∙◌, sym, arith}
use Rattle.std.proofs.lemmas.Iterator.Consumers.{YieldsList-end, YieldsList-turn}
use Rattle.std.proofs.lemmas.List.{length_push}
use Rattle.cet_cli.specs.Values.{items}
use Rattle.cet_cli.proofs.ItemLists.{items_are, parts, split_gives, turns_end, turns_full, turns_listed, turns_none, turns_on, turns_read, turns_too_many}
use Rattle.cet_cli.proofs.turns.are_turns.Goals as goal
use Rattle.cet_cli.proofs.turns.are_turns.Goals.{then-room-eq0-via-then-room-eq0, then-room-eq0-via-else-room-eq0+then-left-repeat}

pub loop-item-init : goal.loop-item-init
loop-item-init c = turns_listed (items 44 c.args.text.now) 10000 1000000 ∙ ap (turns_read 10000 1000000) (items_are c.args.text.now (c.if-is_empty.ensures {u = tt}))

pub loop-item-preserved : goal.loop-item-preserved
loop-item-preserved c =
    let t = YieldsList-turn (split_gives c.args.text.now c.split-item-items.result c.into_iter-item-iterator.result c.into_iter-item-iterator.ensures.into_iter_gives c.split-item-items.ensures.text
    c.split-item-items.ensures.has_more c.split-item-items.ensures.pattern)
    c.loop-item.yielded _ c.loop-item.yielded_by _ _ c.in-Some.item c.in-Some.is c.next.ensures.steps in
    let all = parts 44 c.args.text.now in
    let repeat = c.in-Some-repeat_of.repeat in
    let room : 0 < c.loop-item.room = omega (arith, c.if-room-eq0.false) in
    c.loop-item.invariant
    ∙ turns_on all (length c.loop-item.yielded) c.loop-item.room c.loop-item.left c.in-Some.item.now repeat t (sym c.repeat_of.ensures ∙ c.in-Some-repeat_of.is) room c.if-left-repeat.false
    ∙ ap (λ (n : ℕ). turns_read (c.loop-item.room - 1) (c.loop-item.left - repeat.turns) (drop n all)) (sym (length_push c.loop-item.yielded c.in-Some.item))

pub returns-in_default : goal.returns-in_default
returns-in_default c =
    let t = YieldsList-turn (split_gives c.args.text.now c.split-item-items.result c.into_iter-item-iterator.result c.into_iter-item-iterator.ensures.into_iter_gives c.split-item-items.ensures.text
    c.split-item-items.ensures.has_more c.split-item-items.ensures.pattern)
    c.loop-item.yielded _ c.loop-item.yielded_by _ _ c.in-Some.item c.in-Some.is c.next.ensures.steps in
    sym (c.loop-item.invariant ∙ turns_none (parts 44 c.args.text.now) (length c.loop-item.yielded) c.loop-item.room c.loop-item.left c.in-Some.item.now t (sym c.repeat_of.ensures ∙ c.in_default.is))

pub returns-then-room-eq0 : goal.returns-then-room-eq0
returns-then-room-eq0 c =
    let t = YieldsList-turn (split_gives c.args.text.now c.split-item-items.result c.into_iter-item-iterator.result c.into_iter-item-iterator.ensures.into_iter_gives c.split-item-items.ensures.text
    c.split-item-items.ensures.has_more c.split-item-items.ensures.pattern)
    c.loop-item.yielded _ c.loop-item.yielded_by _ _ c.in-Some.item c.in-Some.is c.next.ensures.steps in
    let all = parts 44 c.args.text.now in
    let repeat = c.in-Some-repeat_of.repeat in
    let is = sym c.repeat_of.ensures ∙ c.in-Some-repeat_of.is in
    elim c.then-room-eq0.branch [
      | then-room-eq0-via-then-room-eq0 w ↦ (
          let full : turns_read c.loop-item.room c.loop-item.left (drop (length c.loop-item.yielded) all) ≡ false = rw w.if-room-eq0.true (turns_full all (length c.loop-item.yielded) c.loop-item.left c.in-Some.item.now repeat t is) in
          sym (c.loop-item.invariant ∙ full)
          )
      | then-room-eq0-via-else-room-eq0+then-left-repeat w ↦ (
          let room : 0 < c.loop-item.room = omega (arith, w.if-room-eq0.false) in
          sym (c.loop-item.invariant ∙ turns_too_many all (length c.loop-item.yielded) c.loop-item.room c.loop-item.left c.in-Some.item.now repeat t is room w.if-left-repeat.true)
          )
    ]

pub returns : goal.returns
returns c =
    let t = YieldsList-end (split_gives c.args.text.now c.split-item-items.result c.into_iter-item-iterator.result c.into_iter-item-iterator.ensures.into_iter_gives c.split-item-items.ensures.text
    c.split-item-items.ensures.has_more c.split-item-items.ensures.pattern)
    c.loop-item.yielded _ c.loop-item.yielded_by _ _ c.in-None.is c.next.ensures.steps in
    sym (c.loop-item.invariant ∙ turns_end (parts 44 c.args.text.now) (length c.loop-item.yielded) c.loop-item.room c.loop-item.left (omega (arith, t.1)))
