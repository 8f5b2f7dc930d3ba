use Rattle.std.proofs.Common.{arith, length}
use Rattle.cet_top.proofs.InputReads.{reading_failed, reading_more, reading_some, reading_too_much}
use Rattle.cet_top.specs.Reading.{source_state}
use Rattle.cet_io.specs.declared.streams.Failed.{Failed}
use Rattle.cet_top.proofs.transfers.read_all.Goals as goal

pub reads-preserved : goal.reads-preserved
reads-preserved g c =
    let reads = c.in_ok-count.ensures.bytes in
    let later = c.in_ok-count.ensures.cause.later in
    let bytes = c.in_ok-extend.ensures.ok in
    let reading = reading_more Failed (source_state (g.S.Source.left c.args.src.now) (g.S.Source.faults c.args.src.now) (g.S.Source.tally c.args.src.now))
    (source_state (g.S.Source.left c.reads.src) (g.S.Source.faults c.reads.src) (g.S.Source.tally c.reads.src))
    (source_state (g.S.Source.left c.read.new.self) (g.S.Source.faults c.read.new.self) (g.S.Source.tally c.read.new.self)) c.reads.bytes c.read.new.buf c.in_ok-count.count
    c.reads.invariant.reading c.if-count-eq0.false reads.within reads.moved c.in_ok-count.ensures.counts c.in_ok-count.ensures.steady in
    record {
      later = omega (arith, c.reads.invariant.later, later);
      size = (let l = c.reads.invariant.size in omega arith);
      reading = rw bytes reading;
    }

pub returns-in_err-extend-clause-memory : goal.returns-in_err-extend-clause-memory
returns-in_err-extend-clause-memory g c =
    let reads = c.in_ok-count.ensures.bytes in
    λ _. reading_some Failed (source_state (g.S.Source.left c.args.src.now) (g.S.Source.faults c.args.src.now) (g.S.Source.tally c.args.src.now))
    (source_state (g.S.Source.left c.reads.src) (g.S.Source.faults c.reads.src) (g.S.Source.tally c.reads.src))
    (source_state (g.S.Source.left c.read.new.self) (g.S.Source.faults c.read.new.self) (g.S.Source.tally c.read.new.self)) c.reads.bytes c.read.new.buf c.in_ok-count.count
    c.reads.invariant.reading c.if-count-eq0.false reads.within reads.moved c.in_ok-count.ensures.counts c.in_ok-count.ensures.steady

pub returns-in_err-count-clause-failed : goal.returns-in_err-count-clause-failed
returns-in_err-count-clause-failed g c =
    let reads = c.in_err-count.ensures.bytes in
    λ _. reading_failed Failed (source_state (g.S.Source.left c.args.src.now) (g.S.Source.faults c.args.src.now) (g.S.Source.tally c.args.src.now))
    (source_state (g.S.Source.left c.reads.src) (g.S.Source.faults c.reads.src) (g.S.Source.tally c.reads.src))
    (source_state (g.S.Source.left c.read.new.self) (g.S.Source.faults c.read.new.self) (g.S.Source.tally c.read.new.self)) c.reads.bytes (length c.read.new.buf) c.in_err-count.field-0.0
    c.reads.invariant.reading (let t = c.reads-test.true in let e = c.len.ensures in omega arith)
    reads.failed c.reads.invariant.later c.in_err-count.ensures.cause.failed c.in_err-count.ensures.counts c.in_err-count.ensures.steady

pub returns-clause-long : goal.returns-clause-long
returns-clause-long g c =
    λ _. reading_too_much (source_state (g.S.Source.left c.args.src.now) (g.S.Source.faults c.args.src.now) (g.S.Source.tally c.args.src.now))
    (source_state (g.S.Source.left c.reads.src) (g.S.Source.faults c.reads.src) (g.S.Source.tally c.reads.src)) c.reads.bytes c.reads.invariant.reading
    (let t = c.reads-test.false in let e = c.len.ensures in omega arith)
