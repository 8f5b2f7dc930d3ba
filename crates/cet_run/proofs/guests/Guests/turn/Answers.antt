use Rattle.std.proofs.Common.{List, subst}
use Rattle.std.proofs.lemmas.Result.{on_ok_weaker}
use Rattle.cet_run.specs.TracedThreads.{AskedAt, TracedThreadData}
use Rattle.cet_run.proofs.Steps.{TurnIs, going_with, turn_is, within_with}
use Rattle.cet_run.proofs.guests.Guests.turn.Goals as goal

-- the thread is there and goes on, where another one came last
pub take-requires-clause-range : goal.take-requires-clause-range
take-requires-clause-range g c = within_with c.args.job.now c.args.self.now.all.items c.bear_by.new.self.all.items c.args.at c.ask-value.result c.in_ok-bear_by.ensures.bore

pub take-requires-clause-going : goal.take-requires-clause-going
take-requires-clause-going g c =
    going_with c.args.job.now c.args.self.now.all.items c.bear_by.new.self.all.items c.args.at c.ask-value.result c.in_ok-bear_by.ensures.bore c.requires.going

turn : (g : _) (c : goal.After-keep_live g) →
    TurnIs c.args.job.now (g.P.Perform.words c.args.words.now) (g.P.Perform.words c.ask-value.new.words) c.args.self.now.all.items c.take.new.all_traced.items c.args.at
turn g c =
    let words = g.P.Perform.words c.args.words.now in
    let words' = g.P.Perform.words c.ask-value.new.words in
    let old = c.args.self.now.all.items in
    let asked = subst (λ (l : List TracedThreadData). AskedAt c.args.job.now l c.args.at words words' c.ask-value.result) c.deref.ensures.value c.ask-value.ensures in
    turn_is c.args.job.now words words' old c.bear_by.new.self.all.items c.take.new.all_traced.items c.args.at c.ask-value.result c.requires.reached c.requires.guests.cores
    c.requires.going asked c.in_ok-bear_by.ensures.bore c.in_ok-take.ensures.took

pub returns-clause-step : goal.returns-clause-step
returns-clause-step g c = let t = turn g c in on_ok_weaker c.keep_live.result (λ _. t.stepped) c.keep_live.ensures

pub returns-clause-falls : goal.returns-clause-falls
returns-clause-falls g c = let t = turn g c in on_ok_weaker c.keep_live.result (λ _. t.falls) c.keep_live.ensures

pub returns-clause-turned : goal.returns-clause-turned
returns-clause-turned g c = let t = turn g c in on_ok_weaker c.keep_live.result (λ _. t.turned) c.keep_live.ensures
