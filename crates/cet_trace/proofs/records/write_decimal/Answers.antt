use Rattle.std.proofs.Common.{arith}
use Rattle.std.proofs.lemmas.Fmt.{decimal_digit}
use Rattle.cet_trace.proofs.records.write_decimal.Goals as goal

pub write_byte-requires : goal.write_byte-requires
write_byte-requires c =
    let room = rw (decimal_digit c.args.number (omega arith)) at c.requires.0 in
    (omega arith, c.requires.1)

pub returns-then-number-lt10-clause-start : goal.returns-then-number-lt10-clause-start
returns-then-number-lt10-clause-start c = rw (decimal_digit c.args.number (omega arith)) c.write_byte.ensures.start

pub returns-then-number-lt10-clause-written : goal.returns-then-number-lt10-clause-written
returns-then-number-lt10-clause-written c = rw (decimal_digit c.args.number (omega arith)) c.write_byte.ensures.written
