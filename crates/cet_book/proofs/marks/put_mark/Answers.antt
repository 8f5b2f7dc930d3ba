use Rattle.std.proofs.Common.{◌<◌, ◌≤◌, sym, ap, length, arith}
use Rattle.cet_book.specs.Marks.{Found}
use Rattle.cet_book.proofs.MarkSteps.{marked_past, put_new, put_old}
use Rattle.cet_book.proofs.marks.put_mark.Goals as goal

pub returns-then-at-len : goal.returns-then-at-len
returns-then-at-len c =
    let past : length c.args.found.now.marks ≤ c.args.at = (let v = ap (λ (f : Found). length f.marks) c.found.view_is in let ok = c.found.inside.marks.ok.0 in let l = c.len.ensures in let t = c.if-at-len.true in omega arith) in
    sym (marked_past c.args.at c.args.shown c.args.from c.args.found.now past)

pub returns-in_ok-push : goal.returns-in_ok-push
returns-in_ok-push c =
    let inside : c.args.at < length c.found.inside.marks.items = (let ok = c.found.inside.marks.ok.0 in let l = c.len.ensures in let t = c.if-at-len.false in omega arith) in
    put_new c.args.at c.args.shown c.args.from c.found.inside.marks.items c.found.inside.order.items c.push.new.self.items c.args.found.now c.index.result.now
    c.found.view_is inside c.index.ensures c.in-Unseen.is c.in_ok-push.ensures.items

pub returns-in_default : goal.returns-in_default
returns-in_default c =
    let inside : c.args.at < length c.found.inside.marks.items = (let ok = c.found.inside.marks.ok.0 in let l = c.len.ensures in let t = c.if-at-len.false in omega arith) in
    put_old c.args.at c.args.shown c.args.from c.found.inside.marks.items c.found.inside.order.items c.args.found.now c.index.result.now
    c.found.view_is inside c.index.ensures c.in_default.not-Unseen
