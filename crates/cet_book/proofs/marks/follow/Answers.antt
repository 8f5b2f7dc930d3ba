use Rattle.std.proofs.Common.{◌<◌, ◌≤◌, ap, length, arith}
use Rattle.cet_book.specs.Marks.{Found}
use Rattle.std.proofs.lemmas.Result.{IfOk-weaker}
use Rattle.cet_book.proofs.MarkSteps.{order_inside, follow_here, follow_past}
use Rattle.cet_book.proofs.marks.follow.Goals as goal

pub returns-then-turn-len : goal.returns-then-turn-len
returns-then-turn-len c =
    let past : length c.args.found.now.order ≤ c.args.turn = (let v = ap (λ (f : Found). length f.order) c.found.view_is in let ok = c.found.inside.order.ok.0 in let l = c.len.ensures in let t = c.if-turn-len.true in omega arith) in
    follow_past c.args.regions.now c.args.copies.now c.args.turn c.args.found.now past

pub entries_of-words-requires : goal.entries_of-words-requires
entries_of-words-requires c =
    let inside : c.args.turn < length c.found.inside.order.items = (let ok = c.found.inside.order.ok.0 in let l = c.len.ensures in let t = c.if-turn-len.false in omega arith) in
    let low = order_inside c.found.inside.marks.items c.found.inside.order.items c.args.turn c.index-at.result.now inside c.index-at.ensures c.found.invariant in
    let v = ap (λ (f : Found). length f.marks) c.found.view_is in
    let s = c.requires.size in let t = c.requires.copies in omega arith

pub returns : goal.returns
returns c =
    let inside : c.args.turn < length c.found.inside.order.items = (let ok = c.found.inside.order.ok.0 in let l = c.len.ensures in let t = c.if-turn-len.false in omega arith) in
    let low = order_inside c.found.inside.marks.items c.found.inside.order.items c.args.turn c.index-at.result.now inside c.index-at.ensures c.found.invariant in
    IfOk-weaker c.follow_words.result _ _
    (λ u. follow_here c.args.regions.now c.args.copies.now c.found.inside.marks.items c.found.inside.order.items c.args.found.now c.follow_words.new.found c.args.turn c.index-at.result.now c.index.result.now c.entries_of-words.result.now
    c.found.view_is inside c.index-at.ensures c.index.ensures low c.entries_of-words.ensures) c.follow_words.ensures
