use Rattle.cet_book.specs.declared.events.Event.TheVariants as ev
use Rattle.cet_book.proofs.Latest.{kept_back, kept_moved, kept_gates, kept_list}
use Rattle.cet_book.proofs.books.Book.apply.Goals as goal

pub invariant_of-self : goal.invariant_of-self
invariant_of-self c =
    kept_back c.called.result c.self.inside.stacks.len c.called.new.stacks c.deref_mut.result.now c.self.inside.stacks.items c.self.inside.gates c.self.inside.latest (ev.Called c.in-Called.thread c.in-Called.back) c.self.invariant tt
    c.deref_mut.ensures.value c.called.auto.stacks c.self.inside.stacks.ok.0 (c.called.ensures c.self.inside.gates)

pub invariant_of-self-in-Ended : goal.invariant_of-self-in-Ended
invariant_of-self-in-Ended c =
    kept_back c.ended.result c.self.inside.stacks.len c.ended.new.stacks c.deref_mut-in-Ended.result.now c.self.inside.stacks.items c.self.inside.gates c.self.inside.latest (ev.Ended c.in-Ended.thread) c.self.invariant tt
    c.deref_mut-in-Ended.ensures.value c.ended.auto.stacks c.self.inside.stacks.ok.0 (c.ended.ensures c.self.inside.gates)

pub invariant_of-self-in-Returned : goal.invariant_of-self-in-Returned
invariant_of-self-in-Returned c =
    kept_back c.returned.result c.self.inside.stacks.len c.returned.new.stacks c.deref_mut-in-Returned.result.now c.self.inside.stacks.items c.self.inside.gates c.self.inside.latest (ev.Returned c.in-Returned.thread) c.self.invariant tt
    c.deref_mut-in-Returned.ensures.value c.returned.auto.stacks c.self.inside.stacks.ok.0 (c.returned.ensures c.self.inside.gates)

pub invariant_of-self-in-Popped : goal.invariant_of-self-in-Popped
invariant_of-self-in-Popped c =
    kept_back c.popped.result c.self.inside.stacks.len c.popped.new.stacks c.deref_mut-in-Popped.result.now c.self.inside.stacks.items c.self.inside.gates c.self.inside.latest (ev.Popped c.in-Popped.thread) c.self.invariant tt
    c.deref_mut-in-Popped.ensures.value c.popped.auto.stacks c.self.inside.stacks.ok.0 (c.popped.ensures c.self.inside.gates)

pub invariant_of-self-in-Raised : goal.invariant_of-self-in-Raised
invariant_of-self-in-Raised c =
    kept_back c.raised.result c.self.inside.stacks.len c.raised.new.stacks c.deref_mut-in-Raised.result.now c.self.inside.stacks.items c.self.inside.gates c.self.inside.latest
    (ev.Raised c.in-Raised.thread c.in-Raised.count) c.self.invariant tt
    c.deref_mut-in-Raised.ensures.value c.raised.auto.stacks c.self.inside.stacks.ok.0 (c.raised.ensures c.self.inside.gates)

pub invariant_of-self-in-Pushed : goal.invariant_of-self-in-Pushed
invariant_of-self-in-Pushed c =
    kept_back c.pushed.result c.self.inside.stacks.len c.pushed.new.stacks c.deref_mut-in-Pushed.result.now c.self.inside.stacks.items c.self.inside.gates c.self.inside.latest
    (ev.Pushed c.in-Pushed.thread c.in-Pushed.restorer) c.self.invariant tt
    c.deref_mut-in-Pushed.ensures.value c.pushed.auto.stacks c.self.inside.stacks.ok.0 (c.pushed.ensures c.self.inside.gates)

pub invariant_of-self-in-Released : goal.invariant_of-self-in-Released
invariant_of-self-in-Released c =
    kept_back c.released.result c.self.inside.stacks.len c.released.new.stacks c.deref_mut-in-Released.result.now c.self.inside.stacks.items c.self.inside.gates c.self.inside.latest (ev.Released c.in-Released.thread) c.self.invariant tt
    c.deref_mut-in-Released.ensures.value c.released.auto.stacks c.self.inside.stacks.ok.0 (c.released.ensures c.self.inside.gates)

pub invariant_of-self-in-Born : goal.invariant_of-self-in-Born
invariant_of-self-in-Born c =
    kept_moved c.born.result c.self.inside.stacks.len c.born.new.stacks c.deref_mut-in-Born.result.now c.self.inside.stacks.items c.self.inside.gates c.self.inside.latest c.born.new.latest
    (ev.Born c.in-Born.parent c.in-Born.child c.in-Born.region) c.self.invariant
    c.deref_mut-in-Born.ensures.value c.born.auto.stacks c.self.inside.stacks.ok.0 (c.born.ensures.applied c.self.inside.gates) c.born.ensures.latest

pub invariant_of-self-in-Busied : goal.invariant_of-self-in-Busied
invariant_of-self-in-Busied c =
    kept_gates c.busied.result c.self.inside.gates c.busied.new.gates c.self.inside.stacks.items c.self.inside.latest (ev.Busied c.in-Busied.thread c.in-Busied.stack) c.self.invariant (c.busied.ensures c.self.inside.stacks.items)

pub invariant_of-self-in-Freed : goal.invariant_of-self-in-Freed
invariant_of-self-in-Freed c =
    kept_gates c.freed.result c.self.inside.gates c.freed.new.gates c.self.inside.stacks.items c.self.inside.latest (ev.Freed c.in-Freed.thread c.in-Freed.stack) c.self.invariant (c.freed.ensures c.self.inside.stacks.items)

pub invariant_of-self-in-Seeded : goal.invariant_of-self-in-Seeded
invariant_of-self-in-Seeded c =
    kept_back c.seeded.result c.self.inside.stacks.len c.seeded.new.stacks c.deref_mut-in-Seeded.result.now c.self.inside.stacks.items c.self.inside.gates c.self.inside.latest
    (ev.Seeded c.in-Seeded.thread c.in-Seeded.region c.in-Seeded.blanks) c.self.invariant tt
    c.deref_mut-in-Seeded.ensures.value c.seeded.auto.stacks c.self.inside.stacks.ok.0 (c.seeded.ensures c.self.inside.gates)

pub invariant_of-self-in-Claimed : goal.invariant_of-self-in-Claimed
invariant_of-self-in-Claimed c =
    kept_list c.claimed.result c.self.inside.stacks.items c.claimed.new.stacks.items c.self.inside.gates c.self.inside.latest
    (ev.Claimed c.in-Claimed.thread c.in-Claimed.start c.in-Claimed.pages c.in-Claimed.maker) c.self.invariant tt (c.claimed.ensures c.self.inside.gates)

pub invariant_of-self-in-Acquired : goal.invariant_of-self-in-Acquired
invariant_of-self-in-Acquired c =
    kept_moved c.acquired.result c.self.inside.stacks.len c.acquired.new.stacks c.deref_mut-in-Acquired.result.now c.self.inside.stacks.items c.self.inside.gates c.self.inside.latest
    c.acquired.new.latest (ev.Acquired c.in-Acquired.thread c.in-Acquired.at) c.self.invariant
    c.deref_mut-in-Acquired.ensures.value c.acquired.auto.stacks c.self.inside.stacks.ok.0 (c.acquired.ensures.applied c.self.inside.gates) c.acquired.ensures.latest
