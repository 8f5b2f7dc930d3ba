use Rattle.std.proofs.Common.{sym, ◌∙◌}
use Rattle.cet_page.proofs.WithinLaws.{taken_at}
use Rattle.cet_page.proofs.EnterLaws.{enters_of}
use Rattle.cet_cpu.proofs.threads.Cpu.accept.Goals as goal

pub await_access-requires-clause-state : goal.await_access-requires-clause-state
await_access-requires-clause-state c =
    taken_at c.args.job.now c.args.self.now.core c.accept_answer.new.self.core c.args.answer c.requires.state.state c.requires.going c.accept_answer.ensures.core

pub await_access-requires-in-None-clause-state : goal.await_access-requires-in-None-clause-state
await_access-requires-in-None-clause-state c =
    taken_at c.args.job.now c.args.self.now.core c.accept_answer.new.self.core c.args.answer c.requires.state.state c.requires.going c.accept_answer.ensures.core

-- the answer leaves the thread and the record that the definition has
pub returns-in-Some-clause-gate : goal.returns-in-Some-clause-gate
returns-in-Some-clause-gate c =
    enters_of c.args.job.now c.args.self.now.core c.await_access.new.self.core c.args.answer _ c.requires.going
    (c.await_access.ensures.core ∙ c.accept_answer.ensures.core) (sym c.in-Some.is ∙ c.accept_answer.ensures.noted)

pub returns-in-None-clause-gate : goal.returns-in-None-clause-gate
returns-in-None-clause-gate c =
    enters_of c.args.job.now c.args.self.now.core c.await_access-in-None.new.self.core c.args.answer _ c.requires.going
    (c.await_access-in-None.ensures.core ∙ c.accept_answer.ensures.core) (sym c.in-None.is ∙ c.accept_answer.ensures.noted)
