use Rattle.std.proofs.Common.{ap, sym, ◌∙◌}
use Rattle.std.specs.Option.{option_copied}
use Rattle.cet_words.proofs.ImageWords.{page_loaded, page_absent}
use Rattle.cet_words.proofs.start.load_page.Goals as goal

pub returns-in-Some-clause-filled : goal.returns-in-Some-clause-filled
returns-in-Some-clause-filled c =
    page_loaded c.args.image.now.segments c.args.page c.in-Some.segment.now c.args.words.now.items c.write_page.new.words.items
    (sym c.segment_at.ensures.found ∙ ap option_copied c.in-Some.is) c.write_page.ensures.filled

pub returns-in_default-clause-filled : goal.returns-in_default-clause-filled
returns-in_default-clause-filled c =
    page_absent c.args.image.now.segments c.args.page c.args.words.now.items
    (sym c.segment_at.ensures.found ∙ ap option_copied c.in_default.is) c.requires.zero
