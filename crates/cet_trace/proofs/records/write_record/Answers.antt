use Rattle.std.proofs.Common.{arith}
use Rattle.std.specs.Fmt.{decimal}
use Rattle.std.proofs.lemmas.Fmt.{length-decimal-le}
use Rattle.cet_base.specs.Digits.{hex16}
use Rattle.cet_trace.specs.Report.{record_name, record_text}
use Rattle.cet_trace.proofs.Written.{length-record_name, newline, spaced_more, word_more, line_whole}
use Rattle.cet_trace.proofs.records.write_record.Goals as goal

pub write_decimal-at-requires : goal.write_decimal-at-requires
write_decimal-at-requires c =
    let code = length-decimal-le 10 c.from.result (omega arith) (omega arith) (omega arith) in
    (omega arith, omega arith)

pub write_byte-at-requires-2 : goal.write_byte-at-requires-2
write_byte-at-requires-2 c =
    let code = length-decimal-le 10 c.from.result (omega arith) (omega arith) (omega arith) in
    (omega arith, omega arith)

pub write_spaced-at-requires-3 : goal.write_spaced-at-requires-3
write_spaced-at-requires-3 c =
    let code = length-decimal-le 10 c.from.result (omega arith) (omega arith) (omega arith) in
    (omega arith, omega arith)

pub write_name-at-requires : goal.write_name-at-requires
write_name-at-requires c =
    let code = length-decimal-le 10 c.from.result (omega arith) (omega arith) (omega arith) in
    (omega arith, omega arith)

pub write_byte-at-requires-3 : goal.write_byte-at-requires-3
write_byte-at-requires-3 c =
    let code = length-decimal-le 10 c.from.result (omega arith) (omega arith) (omega arith) in
    let name = length-record_name c.args.noted.now.what in
    (omega arith, omega arith)

pub write_decimal-requires : goal.write_decimal-requires
write_decimal-requires c =
    let code = length-decimal-le 10 c.from.result (omega arith) (omega arith) (omega arith) in
    let name = length-record_name c.args.noted.now.what in
    let number = length-decimal-le 20 c.args.number (omega arith) (omega arith) (omega arith) in
    (omega arith, omega arith)

pub returns-clause-start : goal.returns-clause-start
returns-clause-start c =
    let code = length-decimal-le 10 c.from.result (omega arith) (omega arith) (omega arith) in
    let name = length-record_name c.args.noted.now.what in
    let number = length-decimal-le 20 c.args.number (omega arith) (omega arith) (omega arith) in
    omega arith

pub returns-clause-written : goal.returns-clause-written
unfolding record_text
returns-clause-written c =
    let noted = c.args.noted.now in
    let b = spaced_more (hex16 noted.b) (newline c.write_byte-at.ensures.written) c.write_spaced-at.ensures.written in
    let a = spaced_more (hex16 noted.a) b c.write_spaced-at-2.ensures.written in
    let code = word_more (decimal noted.code) a (rw c.from.ensures at c.write_decimal-at.ensures.written) c.write_byte-at-2.ensures.written in
    let rip = spaced_more (hex16 noted.rip) code c.write_spaced-at-3.ensures.written in
    let name = word_more (record_name noted.what) rip c.write_name-at.ensures.written c.write_byte-at-3.ensures.written in
    line_whole (decimal c.args.number) name c.write_decimal.ensures.written
