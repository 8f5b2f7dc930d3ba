-- Turns that go on to a whole run by a schedule.
use Rattle.std.proofs.Common.{◌≡◌, ℕ, ◌/◌, ◌%◌, ◌^◌, List, [], ◌∷◌, ◌++◌, length, drop, Option, Some, None, refl, ap, sym, ◌∙◌, subst, append_assoc, append-nil}
use Rattle.std.specs.Prelude.{slice_get}
use Rattle.std.specs.Option.{option_or}
use Rattle.cet_words.specs.Job.{JobData}
use Rattle.cet_page.specs.Machine.{Machine, run, step}
use Rattle.cet_run.specs.Schedule.{IsMix, IsRobin, after_last, live_from, mixed, next_turn}
use Rattle.cet_run.specs.Turns.{Mixed, Robined, TurnedAt}
use Rattle.cet_run.proofs.LiveThreads.{mix_is, none_next, robin_is}
use Rattle.cet_run.proofs.Steps.{run_append}

-- These turns lead from one machine to another, and with more turns that end by the schedule they are a run by it. The
-- schedule has a state: that of its start, and that of now.
pub record Leads {A : Type 0} (Schedule : Machine → A → List ℕ → Type 0) (job : JobData) (start now : Machine) (first state : A) (turns : List ℕ) : Type 0 where
  pub ran : run job start turns ≡ now
  pub more : (rest : List ℕ) → Schedule now state rest → Schedule start first (turns ++ rest)

leads_none : {A : Type 0} (Schedule : Machine → A → List ℕ → Type 0) (job : JobData) (start : Machine) (first : A) → Leads Schedule job start start first first []
leads_none Schedule job start first = record { ran = refl; more = λ rest r. r }

-- one turn more
leads_more : {A : Type 0} (Schedule : Machine → A → List ℕ → Type 0) (job : JobData) (start now next : Machine) (first state after : A) (turns : List ℕ) (t : ℕ) →
    Leads Schedule job start now first state turns → next ≡ step job now t → ((rest : List ℕ) → Schedule (step job now t) after rest → Schedule now state (t ∷ rest)) →
    Leads Schedule job start next first after (turns ++ t ∷ [])
leads_more Schedule job start now next first state after turns t h e by = record {
  ran = run_append job start turns (t ∷ []) ∙ ap (λ m. step job m t) h.ran ∙ sym e;
  more = λ rest r. subst (Schedule start first) (sym (append_assoc turns (t ∷ []) rest)) (h.more (t ∷ rest) (by rest (subst (λ m. Schedule m after rest) e r)));
}

-- ---- Robin

-- so far by Robin, with the live threads after the last turn from this place on
pub record Rounds (job : JobData) (start now : Machine) (place : ℕ) : Type 0 where
  pub turns : List ℕ
  pub last : Option ℕ
  pub leads : Leads (IsRobin job) job start now None last turns
  pub places : drop place (live_from now.threads 0) ≡ live_from (drop (after_last last) now.threads) (after_last last)

pub rounds_start : (job : JobData) (start : Machine) → Rounds job start start 0
rounds_start job start = record { turns = []; last = None; leads = leads_none (IsRobin job) job start None; places = refl }

pub rounds_more : (job : JobData) (start now next : Machine) (from place to : ℕ) → Rounds job start now from →
    option_or (slice_get (live_from now.threads 0) from) (slice_get (live_from now.threads 0) 0) ≡ slice_get (live_from now.threads 0) place → TurnedAt job now next place to → Rounds job start next to
rounds_more job start now next from place to r is turned =
    let turn : next_turn now.threads r.last ≡ Some turned.thread = robin_is now.threads r.last from r.places ∙ is ∙ turned.at in
    record {
      turns = r.turns ++ turned.thread ∷ [];
      last = Some turned.thread;
      leads = leads_more (IsRobin job) job start now next None r.last (Some turned.thread) r.turns turned.thread r.leads turned.step (λ rest h. (turn, h));
      places = turned.later;
    }

pub rounds_end : (job : JobData) (start now : Machine) (from : ℕ) → Rounds job start now from → live_from now.threads 0 ≡ [] → Robined job start now
rounds_end job start now from r none =
    let turn : next_turn now.threads r.last ≡ None = robin_is now.threads r.last from r.places ∙ none_next (live_from now.threads 0) from none in
    record {
      turns = r.turns;
      robin = subst (IsRobin job start None) (append-nil r.turns) (r.leads.more [] turn);
      ran = r.leads.ran;
    }

-- ---- Mix

pub record Mixes (job : JobData) (start now : Machine) (seed number : ℕ) : Type 0 where
  pub turns : List ℕ
  pub leads : Leads (IsMix job) job start now seed number turns

pub mixes_start : (job : JobData) (start : Machine) (seed : ℕ) → Mixes job start start seed seed
mixes_start job start seed = record { turns = []; leads = leads_none (IsMix job) job start seed }

pub mixes_more : (job : JobData) (start now next : Machine) (seed number place to : ℕ) → Mixes job start now seed number → place ≡ mixed number / 2 ^ 33 % length (live_from now.threads 0) →
    TurnedAt job now next place to → Mixes job start next seed (mixed number)
mixes_more job start now next seed number place to r is turned =
    let turn = mix_is (live_from now.threads 0) (mixed number) place turned.thread is turned.at in
    record {
      turns = r.turns ++ turned.thread ∷ [];
      leads = leads_more (IsMix job) job start now next seed number (mixed number) r.turns turned.thread r.leads turned.step (λ rest h. (turn, h));
    }

pub mixes_end : (job : JobData) (start now : Machine) (seed number : ℕ) → Mixes job start now seed number → live_from now.threads 0 ≡ [] → Mixed job seed start now
mixes_end job start now seed number r none = record {
  turns = r.turns;
  mix = subst (IsMix job start seed) (append-nil r.turns) (r.leads.more [] none);
  ran = r.leads.ran;
}

-- the same with Mix's next number by another name
pub mixes_on : (job : JobData) (start now next : Machine) (seed number after place to : ℕ) → Mixes job start now seed number → after ≡ mixed number →
    place ≡ after / 2 ^ 33 % length (live_from now.threads 0) → TurnedAt job now next place to → Mixes job start next seed after
mixes_on job start now next seed number after place to r e is turned =
    subst (Mixes job start next seed) (sym e) (mixes_more job start now next seed number place to r (is ∙ ap (λ x. x / 2 ^ 33 % length (live_from now.threads 0)) e) turned)
