use Rattle.std.proofs.Common.{inl, inr, arith}
use Rattle.cet_book.proofs.pages.put_pages.Goals as goal

pub returns-clause-others : goal.returns-clause-others
returns-clause-others c = λ page none side. c.loop-page.invariant.others page none (elim side [
  | inl below ↦ inl below
  | inr past ↦ inr (let e = c.loop-page.auto.page-end in let o = c.requires.order in omega arith)
])
