use Rattle.std.proofs.Common.{◌+◌, ◌++◌, ◌∙◌, ap, append_assoc}
use Rattle.std.proofs.lemmas.List.{take_rest}
use Rattle.cet_top.specs.Listing.{piece_line}
use Rattle.cet_top.proofs.Listed.{piece_said, piece_within, all_said}
use Rattle.cet_top.proofs.listing.put_code.Goals as goal

pub pieces-preserved : goal.pieces-preserved
pieces-preserved c =
    let code = c.args.code.now in
    let at = c.pieces.at in
    let count = c.in_ok-at.field-0 in
    let (said, so_far, out) = c.pieces.invariant.lines in
    let (p, stands, size, whole, line) = c.in_ok-at.ensures.piece in
    let is = take_rest code at in
    record {
      within = piece_within at count code _ p c.pieces.invariant.within is size whole;
      lines = (
        said ++ piece_line (c.args.addr + at) p,
        piece_said c.args.addr at count code _ said p is so_far stands size whole,
        line ∙ ap (λ l. l ++ piece_line (c.args.addr + at) p) out ∙ append_assoc c.args.out.now said (piece_line (c.args.addr + at) p),
      );
    }

pub returns : goal.returns
returns c =
    let (said, so_far, out) = c.pieces.invariant.lines in
    (said, all_said c.args.addr c.pieces.at c.args.code.now said c.pieces-test.false so_far, out)
