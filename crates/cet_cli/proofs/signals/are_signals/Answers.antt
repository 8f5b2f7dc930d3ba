use Rattle.std.proofs.Common.{◌≡◌, ◌<◌, ◌-◌, ℕ, true, false, drop, length, ap, ◌∙◌, sym, arith}
use Rattle.std.specs.Prelude.{is_some}
use Rattle.std.proofs.lemmas.Iterator.Consumers.{YieldsList-end, YieldsList-turn}
use Rattle.std.proofs.lemmas.List.{length_push}
use Rattle.cet_cli.specs.Values.{items, signal_of}
use Rattle.cet_cli.proofs.ItemLists.{all_read, items_are, listed_read, parts, read_end, read_full, read_none, read_on, split_gives}
use Rattle.cet_cli.proofs.signals.are_signals.Goals as goal
use Rattle.cet_cli.proofs.signals.are_signals.Goals.{then-room-eq0-via-then-room-eq0, then-room-eq0-via-else-room-eq0+then-is_none}

pub loop-item-init : goal.loop-item-init
loop-item-init c = listed_read signal_of 256 (items 44 c.args.text.now) ∙ ap (all_read signal_of 256) (items_are c.args.text.now (c.if-is_empty.ensures {u = tt}))

pub loop-item-preserved : goal.loop-item-preserved
loop-item-preserved c =
    let t = YieldsList-turn (split_gives c.args.text.now c.split-item-items.result c.into_iter-item-iterator.result c.into_iter-item-iterator.ensures.into_iter_gives c.split-item-items.ensures.text
    c.split-item-items.ensures.has_more c.split-item-items.ensures.pattern)
    c.loop-item.yielded _ c.loop-item.yielded_by _ _ c.in-Some.item c.in-Some.is c.next.ensures.steps in
    let some : is_some (signal_of c.in-Some.item.now) ≡ true = ap is_some (sym c.signal_of.ensures) ∙ c.if-is_none.ensures {u = tt} in
    let room : 0 < c.loop-item.room = omega (arith, c.if-room-eq0.false) in
    c.loop-item.invariant
    ∙ read_on signal_of (parts 44 c.args.text.now) (length c.loop-item.yielded) c.loop-item.room c.in-Some.item.now t room some
    ∙ ap (λ (n : ℕ). all_read signal_of (c.loop-item.room - 1) (drop n (parts 44 c.args.text.now))) (sym (length_push c.loop-item.yielded c.in-Some.item))

pub returns-then-room-eq0 : goal.returns-then-room-eq0
returns-then-room-eq0 c =
    let t = YieldsList-turn (split_gives c.args.text.now c.split-item-items.result c.into_iter-item-iterator.result c.into_iter-item-iterator.ensures.into_iter_gives c.split-item-items.ensures.text
    c.split-item-items.ensures.has_more c.split-item-items.ensures.pattern)
    c.loop-item.yielded _ c.loop-item.yielded_by _ _ c.in-Some.item c.in-Some.is c.next.ensures.steps in
    let all = parts 44 c.args.text.now in
    elim c.then-room-eq0.branch [
      | then-room-eq0-via-then-room-eq0 w ↦ (
          let full : all_read signal_of c.loop-item.room (drop (length c.loop-item.yielded) all) ≡ false = rw w.if-room-eq0.true (read_full signal_of all (length c.loop-item.yielded) c.in-Some.item.now t) in
          sym (c.loop-item.invariant ∙ full)
          )
      | then-room-eq0-via-else-room-eq0+then-is_none w ↦ (
          let none : is_some (signal_of c.in-Some.item.now) ≡ false = ap is_some (sym w.signal_of.ensures) ∙ w.if-is_none.ensures {u = tt} in
          let room : 0 < c.loop-item.room = omega (arith, w.if-room-eq0.false) in
          sym (c.loop-item.invariant ∙ read_none signal_of all (length c.loop-item.yielded) c.loop-item.room c.in-Some.item.now t room none)
          )
    ]

pub returns : goal.returns
returns c =
    let t = YieldsList-end (split_gives c.args.text.now c.split-item-items.result c.into_iter-item-iterator.result c.into_iter-item-iterator.ensures.into_iter_gives c.split-item-items.ensures.text
    c.split-item-items.ensures.has_more c.split-item-items.ensures.pattern)
    c.loop-item.yielded _ c.loop-item.yielded_by _ _ c.in-None.is c.next.ensures.steps in
    sym (c.loop-item.invariant ∙ read_end signal_of (parts 44 c.args.text.now) (length c.loop-item.yielded) c.loop-item.room (omega (arith, t.1)))
