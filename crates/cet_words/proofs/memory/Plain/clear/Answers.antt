use Rattle.std.proofs.Common.{List, ℕ, subst}
use Rattle.cet_words.specs.Fill.{FilledFrom}
use Rattle.cet_words.specs.Held.{held_words}
use Rattle.cet_words.proofs.HeldLaws.{all_held, cleared}
use Rattle.cet_words.proofs.memory.Plain.clear.Goals as goal

pub returns-clause-words : goal.returns-clause-words
returns-clause-words c =
    let p = c.self.inside in
    let image = c.clear_range.new.words.items in
    let stack = c.clear_range-2.new.words.items in
    let shadow = c.clear_range-3.new.words.items in
    let kernel = c.clear_range-4.new.words.items in
    subst (λ (l : List ℕ). FilledFrom c.args.low c.args.high (λ w. 0) l (held_words image stack shadow kernel)) c.self.view_is
    (cleared p.image.items p.stack.items p.shadow.items p.kernel.items image stack shadow kernel c.args.low c.args.high c.requires
    c.clear_range.ensures.clear c.clear_range-2.ensures.clear c.clear_range-3.ensures.clear c.clear_range-4.ensures.clear)

pub returns-clause-count : goal.returns-clause-count
returns-clause-count c =
    all_held c.clear_range.new.words.items c.clear_range-2.new.words.items c.clear_range-3.new.words.items c.clear_range-4.new.words.items
