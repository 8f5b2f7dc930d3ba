use Rattle.std.proofs.Common.{◌≡◌, ℕ, List, length, ap, ◌∙◌, arith}
use Rattle.std.specs.Vec.{vec_len}
use Rattle.cet_words.specs.Layout.{word_count}
use Rattle.cet_words.specs.Held.{held_words}
use Rattle.cet_words.proofs.HeldLaws.{all_laid}
use Rattle.cet_words.proofs.memory.Plain.to_words.Goals as goal

pub returns : goal.returns
returns c =
    let image = c.deref.result.now in
    let stack = c.deref-2.result.now in
    let shadow = c.deref-3.result.now in
    let kernel = c.deref-4.result.now in
    let none = ap (λ (l : List ℕ). length l) c.in_ok-words.ensures.none in
    let empty : vec_len c.in_ok-words.words ≡ 0 = omega arith in
    let count = c.in_ok-append_held-4.ensures.count in
    let size : length c.append_held-4.new.all.items ≡ word_count = omega arith in
    let laid = all_laid image stack shadow kernel c.in_ok-words.words.items c.append_held.new.all.items c.append_held-2.new.all.items c.append_held-3.new.all.items c.append_held-4.new.all.items
    _ _ _ _ c.in_ok-words.ensures.none empty c.in_ok-append_held.ensures.count c.in_ok-append_held-2.ensures.count c.in_ok-append_held-3.ensures.count size
    c.in_ok-append_held.ensures.words c.in_ok-append_held-2.ensures.words c.in_ok-append_held-3.ensures.words c.in_ok-append_held-4.ensures.words in
    let one = c.deref.ensures.value in
    let two = c.deref-2.ensures.value in
    let three = c.deref-3.ensures.value in
    let view = c.self.view_is in
    let four = c.deref-4.ensures.value in
    let same : held_words image stack shadow kernel ≡ c.args.self.now = cc in
    laid ∙ same
