use Rattle.std.proofs.Common.{◌≡◌, ◌+◌, ◌*◌, sym, subst, ap, ◌∙◌, arith}
use Rattle.std.specs.Prelude.{min}
use Rattle.std.specs.Int.{div_ceil}
use Rattle.std.specs.Mem.Slots.{slots_items, slots_counts}
use Rattle.cet_words.specs.Layout.{word_count}
use Rattle.cet_shared.proofs.Copies.{Stored, stored_all, stored_none, stored_on}
use Rattle.cet_shared.proofs.tables.copy_words.Goals as goal

pub loop-part-init : goal.loop-part-init
loop-part-init c = record { stored = stored_none 0 (slots_items c.args.closed.now.words) c.args.into.now c.count-count.ensures.here }

pub loop-part-preserved : goal.loop-part-preserved
loop-part-preserved c =
    let l = c.loop-part in
    let words = slots_items c.args.closed.now.words in
    let into = c.args.into.now in
    let parts : c.div_ceil-part-end.result ≡ 3161 = c.div_ceil-part-end.ensures ∙ ap (λ n. div_ceil n 512) c.count-count.ensures.all in
    let test = c.loop-part-test.true in
    let high : c.min.result ≡ min (512 * l.part + 512) word_count = c.min.ensures ∙ ap (λ n. min (512 * l.part + 512) n) c.count-count.ensures.all in
    let at : min (512 * l.part) word_count ≡ 512 * l.part = omega arith in
    let next : c.min.result ≡ min (512 * (l.part + 1)) word_count = omega arith in
    record {
      stored = subst (λ n. Stored 0 n words into c.copy_part.new.into) next
          (stored_on (512 * l.part) c.min.result words into l.into c.copy_part.new.into (omega arith)
          (subst (λ n. Stored 0 n words into l.into) at l.invariant.stored) c.copy_part.ensures.count c.copy_part.ensures.words);
    }

pub returns : goal.returns
returns c =
    let l = c.loop-part in
    let words = slots_items c.args.closed.now.words in
    let counts = slots_counts c.args.closed.now.words in
    let parts : c.div_ceil-part-end.result ≡ 3161 = c.div_ceil-part-end.ensures ∙ ap (λ n. div_ceil n 512) c.count-count.ensures.all in
    let test = c.loop-part-test.false in
    let all : min (512 * l.part) word_count ≡ word_count = omega arith in
    stored_all words c.args.into.now l.into (sym counts.0 ∙ c.requires.count) (subst (λ n. Stored 0 n words c.args.into.now l.into) all l.invariant.stored)
