use Rattle.std.proofs.Common.{◌≡◌, ◌+◌, set, arith, length-set}
use Rattle.std.proofs.lemmas.List.{drop-set}
use Rattle.cet_base.specs.Digits.{hex_digit_at}
use Rattle.cet_trace.proofs.Pairs.{high_of, low_of}
use Rattle.cet_trace.proofs.digits.write_pair.Goals as goal

pub returns-clause-written : goal.returns-clause-written
returns-clause-written c =
    let buf = c.args.buf.now in
    let at = c.args.at in
    let byte = c.args.byte in
    let low = hex_digit_at byte 0 in
    let next : at + 1 + 1 ≡ at + 2 = omega arith in
    let first = drop-set (set buf (at + 1) low) at (hex_digit_at byte 1) (omega (arith, length-set buf (at + 1) low)) in
    let second = drop-set buf (at + 1) low (omega arith) in
    rw (high_of byte (omega arith), low_of byte (omega arith), first, second, next)
