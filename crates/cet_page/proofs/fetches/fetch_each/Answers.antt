use Rattle.std.proofs.Common.{arith, ◌∙◌, ap, sym}
use Rattle.cet_page.specs.Fetch.{fetchable}
use Rattle.cet_page.proofs.Fetching.{fetch_more, fetch_none, fetch_full}
use Rattle.cet_page.proofs.fetches.fetch_each.Goals as goal

pub loop-at-preserved : goal.loop-at-preserved
loop-at-preserved c =
    let place = c.in-Some.ensures.range in
    record {
      bytes = fetch_more c.args.image.now.segments c.args.addr c.loop-at.at c.in-Some.byte c.loop-at.buffer (let e = c.loop-at.auto.buffer in let l = c.loop-at-test.true in
          omega arith) (sym c.byte_of.ensures.byte ∙ c.in-Some.is) c.loop-at.invariant.bytes;
      room = omega arith;
    }

pub returns-in_default-clause-bytes : goal.returns-in_default-clause-bytes
returns-in_default-clause-bytes c =
    fetch_none c.args.image.now.segments c.args.addr c.loop-at.at c.loop-at.buffer (let e = c.loop-at.auto.buffer in let l = c.loop-at-test.true in omega arith) (sym c.byte_of.ensures.byte ∙ c.in_default.is) c.loop-at.invariant.bytes
    ∙ ap (fetchable c.args.image.now.segments c.args.addr) c.loop-at.auto.buffer

pub returns-clause-bytes : goal.returns-clause-bytes
returns-clause-bytes c =
    let e = c.loop-at.auto.buffer in
    let l = c.loop-at-test.false in
    let m = c.loop-at.auto.at-end in
    fetch_full c.args.image.now.segments c.args.addr c.loop-at.at c.loop-at.buffer (omega arith) (omega arith) c.loop-at.invariant.bytes
    ∙ ap (fetchable c.args.image.now.segments c.args.addr) c.loop-at.auto.buffer
