use Rattle.std.proofs.Common.{◌≡◌, length, arith}
use Rattle.cet_book.proofs.InView.{found_follows, size_by}
use Rattle.cet_book.proofs.marks.found_of.Goals as goal

pub returns-clause-size : goal.returns-clause-size
returns-clause-size c =
    let long : length c.in_ok-vec.field-0.items ≡ length c.args.regions.now = (let l = c.in_ok-vec.ensures.len in let ok = c.in_ok-vec.field-0.ok.0 in omega arith) in
    size_by (length c.args.regions.now) c.find_all.new.found c.in_ok-find_all.ensures (found_follows c.args.regions.now c.args.copies.now c.args.ssps.now _) long
