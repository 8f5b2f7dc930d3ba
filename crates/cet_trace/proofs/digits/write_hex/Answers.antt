use Rattle.std.proofs.Common.{◌≡◌, suc, ◌+◌, ◌-◌, ◌*◌, ◌++◌, drop, take, ap, sym, ◌∙◌, arith}
use Rattle.cet_base.specs.Digits.{hex_digits, hex16}
use Rattle.cet_trace.proofs.Pairs.{pair_written, past_digits, fewer_zeros}
use Rattle.cet_trace.proofs.digits.write_hex.Goals as goal

pub loop-pair-init : goal.loop-pair-init
unfolding hex16
loop-pair-init c =
    let z = c.write_zeros-start in
    let behind : drop c.args.end z.new.buf ≡ drop c.args.end c.args.buf.now =
    ap (λ n. drop n z.new.buf) (sym z.ensures.start) ∙ past_digits z.result 16 0 z.new.buf (drop c.args.end c.args.buf.now) z.ensures.written in
    record {
      place = omega arith;
      start = z.ensures.start;
      zeros = z.ensures.written ∙ ap (λ l. hex_digits 16 0 ++ l) (sym behind);
      digits = ap (λ l. hex_digits 16 c.args.number ++ l) behind;
    }

pub loop-pair-preserved : goal.loop-pair-preserved
loop-pair-preserved c =
    let l = c.loop-pair in
    let start = c.write_zeros-start.result in
    let after = c.write_pair.new.buf in
    let k = 16 - 2 * (l._pair + 1) in
    let left : 16 - 2 * l._pair ≡ suc (suc k) = omega arith in
    let place : start + suc (suc k) ≡ l.at = omega arith in
    let here : start + k ≡ l.at - 2 = omega arith in
    let before : take (start + k) after ≡ take (start + k) l.buf =
    ap (λ n. take n after) here ∙ c.write_pair.ensures.before ∙ ap (λ n. take n l.buf) (sym here) in
    record {
      place = omega arith;
      start = l.invariant.start;
      zeros = fewer_zeros start l.at k l.buf after place before (l.invariant.zeros ∙ ap (λ n. hex_digits n 0 ++ drop l.at l.buf) left)
          ∙ ap (λ n. hex_digits k 0 ++ drop n after) here;
      digits = pair_written l._pair l.at l.rest l.buf _ _ c.loop-pair-test.true (omega arith) c.write_pair.ensures.written l.invariant.digits;
    }
