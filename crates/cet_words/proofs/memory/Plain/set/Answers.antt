use Rattle.std.proofs.Common.{ap, ◌∙◌}
use Rattle.std.specs.Prelude.{slice_set}
use Rattle.cet_words.proofs.HeldLaws.{image_set, stack_set, shadow_set, kernel_set}
use Rattle.cet_words.proofs.memory.Plain.set.Goals as goal

pub returns-then-word-lt-FIRST_STACK_WORD : goal.returns-then-word-lt-FIRST_STACK_WORD
returns-then-word-lt-FIRST_STACK_WORD c =
    image_set c.self.inside.image.items c.self.inside.stack.items c.self.inside.shadow.items c.self.inside.kernel.items c.set_held.new.words.items
    c.args.word c.args.value c.if-word-lt-FIRST_STACK_WORD.true c.set_held.ensures.set
    ∙ ap (λ l. slice_set l c.args.word c.args.value) c.self.view_is

pub returns-then-word-lt-FIRST_SHADOW_WORD : goal.returns-then-word-lt-FIRST_SHADOW_WORD
returns-then-word-lt-FIRST_SHADOW_WORD c =
    stack_set c.self.inside.image.items c.self.inside.stack.items c.self.inside.shadow.items c.self.inside.kernel.items c.set_held-then-word-lt-FIRST_SHADOW_WORD.new.words.items
    c.args.word c.args.value c.if-word-lt-FIRST_STACK_WORD.false c.if-word-lt-FIRST_SHADOW_WORD.true c.set_held-then-word-lt-FIRST_SHADOW_WORD.ensures.set
    ∙ ap (λ l. slice_set l c.args.word c.args.value) c.self.view_is

pub returns-then-word-lt-FIRST_KERNEL_WORD : goal.returns-then-word-lt-FIRST_KERNEL_WORD
returns-then-word-lt-FIRST_KERNEL_WORD c =
    shadow_set c.self.inside.image.items c.self.inside.stack.items c.self.inside.shadow.items c.self.inside.kernel.items c.set_held-then-word-lt-FIRST_KERNEL_WORD.new.words.items
    c.args.word c.args.value c.if-word-lt-FIRST_SHADOW_WORD.false c.if-word-lt-FIRST_KERNEL_WORD.true c.set_held-then-word-lt-FIRST_KERNEL_WORD.ensures.set
    ∙ ap (λ l. slice_set l c.args.word c.args.value) c.self.view_is

pub returns-else-word-lt-FIRST_KERNEL_WORD : goal.returns-else-word-lt-FIRST_KERNEL_WORD
returns-else-word-lt-FIRST_KERNEL_WORD c =
    kernel_set c.self.inside.image.items c.self.inside.stack.items c.self.inside.shadow.items c.self.inside.kernel.items c.set_held-else-word-lt-FIRST_KERNEL_WORD.new.words.items
    c.args.word c.args.value c.if-word-lt-FIRST_KERNEL_WORD.false c.requires c.set_held-else-word-lt-FIRST_KERNEL_WORD.ensures.set
    ∙ ap (λ l. slice_set l c.args.word c.args.value) c.self.view_is
