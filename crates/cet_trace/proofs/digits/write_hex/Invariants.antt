use Rattle.std.proofs.Common.{◌≡◌, ◌+◌, ◌-◌, ◌*◌, ◌++◌, drop}
use Rattle.cet_base.specs.Digits.{hex_digits, hex16}
use Rattle.cet_trace.proofs.digits.write_hex.Given as goal

abbrev pub invariant-loop-pair : goal.invariant-loop-pair
invariant-loop-pair l = record {
  place : l.at + 2 * l._pair ≡ l.end;
  start : l.start + 16 ≡ l.end;
  zeros : drop l.start l.buf ≡ hex_digits (16 - 2 * l._pair) 0 ++ drop l.at l.buf;
  digits : hex_digits (16 - 2 * l._pair) l.rest ++ drop l.at l.buf ≡ hex16 l.number ++ drop l.end l.fn.buf;
}
