-- Each thread but the first is told of by one with a lower number, along every run. Source: own.
use Rattle.std.proofs.Common.{◌≡◌, ◌≢◌, ◌⊎◌, ℕ, zero, suc, ◌+◌, ◌<◌, ◌≤◌, inl, inr, Bool, true, false, List, [], ◌∷◌, ◌++◌, Option}
use Rattle.std.proofs.Common.{Some, None, refl, sym, ◌∙◌, ap, subst, arith, length, length-append, length-set}
use Rattle.std.specs.Prelude.{slice_get, slice_set}
use Rattle.std.proofs.lemmas.Bool.{cases_lt}
use Rattle.std.proofs.lemmas.Bool.Decides.{eqb_tells}
use Rattle.std.proofs.lemmas.Option.{slice_get_within}
use Rattle.cet_words.specs.Access.{answer}
use Rattle.cet_words.specs.Change.{Change, Born, Seeded}
use Rattle.cet_words.specs.Job.{JobData, IsJob}
use Rattle.cet_words.specs.declared.accesses.Access.{Access}
use Rattle.cet_words.specs.declared.accesses.Access.TheVariants as access
use Rattle.cet_isa.specs.declared.threads.End.{End}
use Rattle.cet_isa.specs.declared.threads.Record.{Record}
use Rattle.cet_book.specs.Book.{first_book}
use Rattle.cet_page.specs.Core.{Core, access_of, answered, born, changes_of, child_core, child_of, first_core, fault_record, next_access, next_changes, row_played, taken, unheld}
use Rattle.cet_page.specs.Machine.{Machine, Starts, Thread, act, run, step, step_by, thread_after, with_child}
use Rattle.cet_page.specs.Numbered.{AreClosed, BirthsAreTold, ClosedAreAll, Draws, bears, bears_nobody, leaves, DrawsRight, IsNamed, Named, Names, Numbered, TellsOf, TellsOn, borne_by, borne_in, named}
use Rattle.cet_page.specs.Row.{row}
use Rattle.cet_page.specs.Script.{Script, done, fault, ask, tell, Played, Completed, Faulted, Wants, birth, held_after, play}
use Rattle.cet_page.specs.Trail.{Visit, row_trail, trail, trail_of, visit}
use Rattle.cet_page.specs.ValsData.{ValsData, no_vals, vals_after}
use Rattle.cet_page.specs.Within.{Waits}
use Rattle.cet_page.specs.declared.finishes.Finish.{Finish}
use Rattle.cet_page.specs.declared.finishes.Finish.TheVariants.{Noted, Posted, Exited, Stopped}
use Rattle.cet_page.proofs.ChildLaws.{child_taken}
use Rattle.cet_page.proofs.NumberLaws.{get_last, get_low, get_other, get_same}
use Rattle.cet_page.proofs.Walk.{BirthFits, births}
use Rattle.cet_page.proofs.WalkRows.{Ends, walk_row}
use Rattle.cet_page.proofs.WithinLaws.{row_grown, waiting}
use Rattle.cet_own.specs.Told.{told}
use Rattle.cet_book.specs.View.{Span}
use Rattle.cet_own.proofs.Drawn.{Drawn, draw, draws, drawn, TellsOf as StackTells, tells_nothing, tells_stack, EndTells, CameTells, Telling, came_tells}
use Rattle.cet_own.proofs.Numbers.{draws_right, numbered_at}
use Rattle.cet_own.specs.Owed.{State}
use Rattle.cet_own.proofs.Run.{first_stands, turn}
use Rattle.cet_own.proofs.TellingRows.{row_tells}
use Rattle.cet_own.proofs.Threads.{left_by}
use Rattle.cet_own.proofs.Turns.{Invariant}

-- ---- whom a row has borne

borne_drawn : (cs : List Change) (d : Drawn) → (draws cs d).born ≡ borne_by cs d.born
borne_drawn [] d = refl
borne_drawn (c ∷ cs) d = borne_one c cs d (borne_drawn cs (draw c d))
  where
    borne_one : (c : Change) (cs : List Change) (d : Drawn) → (draws cs (draw c d)).born ≡ borne_by cs (draw c d).born → (draws (c ∷ cs) d).born ≡ borne_by (c ∷ cs) d.born
    borne_one (Born child start) cs d e = e
    borne_one c cs d e = e

borne_is : (past : List Visit) → (drawn past).born ≡ borne_in past
borne_is [] = refl
borne_is (x ∷ past) = borne_drawn x.changes (drawn past) ∙ ap (borne_by x.changes) (borne_is past)

-- a row that has kept no stack has borne nobody
none_kept : (cs : List Change) (d : Drawn) → (d.kept ≡ [] → d.born ≡ None) → (draws cs d).kept ≡ [] → (draws cs d).born ≡ None
none_kept [] d h = h
none_kept (Born child start ∷ cs) d h = none_kept cs (draw (Born child start) d) (λ e. cc)
none_kept (Seeded start blanks ∷ cs) d h = none_kept cs (draw (Seeded start blanks) d) (λ e. cc)
none_kept (c ∷ cs) d h = none_kept cs (draw c d) h

none_drawn : (past : List Visit) → (drawn past).kept ≡ [] → (drawn past).born ≡ None
none_drawn [] e = refl
none_drawn (x ∷ past) e = none_kept x.changes (drawn past) (none_drawn past) e

none_borne : (past : List Visit) → (drawn past).kept ≡ [] → borne_in past ≡ None
none_borne past e = sym (borne_is past) ∙ none_drawn past e

-- changes without a birth bear nobody more
borne_still : (cs : List Change) (o : Option ℕ) → birth cs ≡ None → borne_by cs o ≡ o
borne_still [] o e = refl
borne_still (Born child start ∷ cs) o e = cc
borne_still (c ∷ cs) o e = borne_still cs o e

-- ---- a row bears one thread at most

kept_one : (c : Change) (d : Drawn) → length d.kept ≤ length (draw c d).kept
kept_one (Born child start) d = omega arith
kept_one (Seeded start blanks) d = omega arith
kept_one c d = omega arith

kept_grows : (cs : List Change) (d : Drawn) → length d.kept ≤ length (draws cs d).kept
kept_grows [] d = omega arith
kept_grows (c ∷ cs) d =
    let one = kept_one c d in
    let more = kept_grows cs (draw c d) in
    omega arith

few_none : (l : List ℕ) → l ≡ [] → length l ≤ 1
few_none l e = let n : length l ≡ 0 = ap length e in omega arith

few_told : (d : Drawn) (spans : List Span) → StackTells d spans → length d.kept ≤ 1
few_told d spans (tells_nothing e k) = few_none d.kept k
few_told d spans (tells_stack s e c (inl k)) = few_none d.kept k
few_told d spans (tells_stack s e c (inr k)) = let n : length d.kept ≡ 1 = ap length k in omega arith

few_kept : (d : Drawn) (s : Script Finish) → Telling EndTells d s → length d.kept ≤ 1
few_kept d (done (Noted next r)) h = few_told d (told r r.what) h.stack
few_kept d (done (Posted next)) h = few_none d.kept h
few_kept d (done (Exited next r status)) h = few_told d (told r r.what) h.stack
few_kept d (done Stopped) h = few_none d.kept h
few_kept d (fault e) h = few_none d.kept h
few_kept d (ask a changes f) h =
    let grows = kept_grows (changes 0) d in
    let few = few_kept (draws (changes 0) d) (f 0) (h 0) in
    omega arith
few_kept d (tell word value changes s) h =
    let grows = kept_grows changes d in
    let few = few_kept (draws changes d) s h in
    omega arith

-- so also after its next access
few_next : (past : List Visit) (s : Script Finish) (n : ℕ) (vs : List ℕ) (a : Access) (own : ℕ → List Change) (v : ℕ) → Telling EndTells (drawn past) s → play s n vs ≡ Wants a own →
    length (draws (own v) (drawn (trail n s vs past))).kept ≤ 1
few_next past (done x) n vs a own v h w = cc
few_next past (fault e) n vs a own v h w = cc
few_next past (ask b changes f) zero vs a own v h w =
    let same : changes ≡ own = cc in
    subst (λ (l : ℕ → List Change). length (draws (l v) (drawn past)).kept ≤ 1) same (few_kept (draws (changes v) (drawn past)) (f v) (h v))
few_next past (ask b changes f) (suc n) [] a own v h w =
    let same : changes ≡ own = cc in
    subst (λ (l : ℕ → List Change). length (draws (l v) (drawn past)).kept ≤ 1) same (few_kept (draws (changes v) (drawn past)) (f v) (h v))
few_next past (ask b changes f) (suc n) (x ∷ vs) a own v h w = few_next (visit b x (changes x) ∷ past) (f x) n vs a own v (h x) w
few_next past (tell word value changes s) zero vs a own v h w =
    let same : (λ (u : ℕ). changes) ≡ own = cc in
    subst (λ (l : ℕ → List Change). length (draws (l v) (drawn past)).kept ≤ 1) same (few_kept (draws changes (drawn past)) s h)
few_next past (tell word value changes s) (suc n) vs a own v h w = few_next (visit (access.Store word value) 0 changes ∷ past) s n vs a own v h w

some_kept : (past : List Visit) (n : ℕ) (l : List ℕ) → (drawn past).kept ≡ l → borne_in past ≡ Some n → 1 ≤ length l
some_kept past n [] e b = (let none : None ≡ Some n = sym (none_borne past e) ∙ b in cc)
some_kept past n (x ∷ l) e b = omega arith

-- a row that bears a thread has borne none before
once : (job : JobData) (core : Core) (a : Access) (own : ℕ → List Change) (v : ℕ) → row_played job core.arch core.vals ≡ Wants a own → (n child start : ℕ) → own v ≡ Born child start ∷ [] →
    borne_in (trail_of job core) ≡ Some n → ⊥
once job core a own v w n child start e b =
    let past = trail_of job core in
    let few = few_next [] (row job (unheld core.arch)) core.vals.accesses core.vals.values a own v (row_tells job (unheld core.arch)) w in
    let two : length (draws (own v) (drawn past)).kept ≡ length (drawn past).kept + 1 = ap (λ cs. length (draws cs (drawn past)).kept) e ∙ omega arith in
    let some = some_kept past n (drawn past).kept refl b in
    omega arith

-- ---- one thread

-- Its row goes on, having borne this; or it is over, and its record names that thread; or it is over without a record, and
-- bore nobody.
data Onward (job : JobData) (o : Option ℕ) (thread next : Thread) : Type 0 where
  goes_on : next.trace ≡ thread.trace → borne_in (trail_of job next.core) ≡ o → next.core.over ≡ None → Onward job o thread next
  ends : (r : Record) → next.trace ≡ thread.trace ++ r ∷ [] → o ≡ named r.what r.a → borne_in (trail_of job next.core) ≡ None → Onward job o thread next
  stops : next.trace ≡ thread.trace → o ≡ None → borne_in (trail_of job next.core) ≡ None → Onward job o thread next

onward_came : (job : JobData) (thread : Thread) (held : Option ℕ) (seen : ValsData) (child : Option Core) (c : Played Finish) → CameTells EndTells (drawn (row_trail job thread.core.arch seen)) c →
    Onward job (borne_in (row_trail job thread.core.arch seen)) thread (thread_after thread (left_by job thread.core.arch held seen c child))
onward_came job thread held seen child (Wants a changes) k = goes_on refl refl refl
onward_came job thread held seen child (Faulted e) k = ends (fault_record thread.core.arch e) refl (none_borne (row_trail job thread.core.arch seen) k) refl
onward_came job thread held seen child (Completed (Noted next r) left values) k = ends r refl (sym (borne_is (row_trail job thread.core.arch seen)) ∙ k.thread) refl
onward_came job thread held seen child (Completed (Posted next) left values) k = stops refl (none_borne (row_trail job thread.core.arch seen) k) refl
onward_came job thread held seen child (Completed (Exited next r status) left values) k = ends r refl (sym (borne_is (row_trail job thread.core.arch seen)) ∙ k.thread) refl
onward_came job thread held seen child (Completed Stopped left values) k = stops refl (none_borne (row_trail job thread.core.arch seen) k) refl

onward : (job : JobData) (thread : Thread) (a : Access) (own : ℕ → List Change) (v : ℕ) → Waits job thread.core → row_played job thread.core.arch thread.core.vals ≡ Wants a own →
    Onward job (borne_by (next_changes job thread.core v) (borne_in (trail_of job thread.core))) thread (thread_after thread (taken job thread.core v))
unfolding taken
onward job thread a own v h w =
    let core = thread.core in
    let seen = vals_after core.vals a v in
    let grown = row_grown job core a own v h w in
    let came = came_tells EndTells [] (row job (unheld core.arch)) seen.accesses seen.values (row_tells job (unheld core.arch)) in
    let all = onward_came job thread (held_after (own v) core.arch.held) seen (child_of core.arch (own v)) (row_played job core.arch seen) came in
    let some : Onward job (borne_by (own v) (borne_in (trail_of job core))) thread (thread_after thread (answered job core v (Wants a own))) =
    subst (λ (l : List Visit). Onward job (borne_in l) thread (thread_after thread (answered job core v (Wants a own)))) grown.1 all in
    subst (λ c. Onward job (borne_by (changes_of c v) (borne_in (trail_of job core))) thread (thread_after thread (answered job core v c))) (sym w) some

-- ---- records

names_more : (n : ℕ) (trace : List Record) (r : Record) → Names n trace → Names n (trace ++ r ∷ [])
names_more n [] r h = absurd h
names_more n (x ∷ trace) r (inl e) = inl e
names_more n (x ∷ trace) r (inr h) = inr (names_more n trace r h)

names_last : (n : ℕ) (trace : List Record) (r : Record) → named r.what r.a ≡ Some n → Names n (trace ++ r ∷ [])
names_last n [] r e = inl e
names_last n (x ∷ trace) r e = inr (names_last n trace r e)

names_back : (n : ℕ) (trace : List Record) (r : Record) → Names n (trace ++ r ∷ []) → Names n trace ⊎ (named r.what r.a ≡ Some n)
names_back n [] r (inl e) = inr e
names_back n [] r (inr h) = absurd h
names_back n (x ∷ trace) r (inl e) = inl (inl e)
names_back n (x ∷ trace) r (inr h) = elim (names_back n trace r h) [ inl k ↦ inl (inr k) | inr e ↦ inr e ]

module _ {job : JobData} {o : Option ℕ} {thread next : Thread} (n : ℕ) where
  -- what it has told of, or its row has borne, it tells of afterwards
  tells_on : Onward job o thread next → Names n thread.trace ⊎ (o ≡ Some n) → TellsOf job next n
  tells_on (goes_on t b g) (inl h) = inl (subst (Names n) (sym t) h)
  tells_on (goes_on t b g) (inr e) = inr (record { borne = b ∙ e; goes = g })
  tells_on (ends r t e b) (inl h) = inl (subst (Names n) (sym t) (names_more n thread.trace r h))
  tells_on (ends r t e b) (inr is) = inl (subst (Names n) (sym t) (names_last n thread.trace r (sym e ∙ is)))
  tells_on (stops t e b) (inl h) = inl (subst (Names n) (sym t) h)
  tells_on (stops t e b) (inr is) = (let none : None ≡ Some n = sym e ∙ is in cc)

  -- and of nothing else
  tells_back : Onward job o thread next → TellsOf job next n → Names n thread.trace ⊎ (o ≡ Some n)
  tells_back (goes_on t b g) (inl h) = inl (subst (Names n) t h)
  tells_back (goes_on t b g) (inr k) = inr (sym b ∙ k.borne)
  tells_back (ends r t e b) (inl h) = elim (names_back n thread.trace r (subst (Names n) t h)) [ inl k ↦ inl k | inr is ↦ inr (e ∙ is) ]
  tells_back (ends r t e b) (inr k) = (let none : None ≡ Some n = sym b ∙ k.borne in cc)
  tells_back (stops t e b) (inl h) = inl (subst (Names n) t h)
  tells_back (stops t e b) (inr k) = (let none : None ≡ Some n = sym b ∙ k.borne in cc)

-- ---- one access

module _ (job : JobData) (thread : Thread) (live : thread.core.over ≡ None) (next : Thread) where
  -- nobody is born
  told_none : (o : Option ℕ) → o ≡ borne_in (trail_of job thread.core) → Onward job o thread next → TellsOn job thread next None
  told_none o same way = record {
    kept = λ n tells. elim tells [ inl a ↦ tells_on n way (inl a) | inr b ↦ tells_on n way (inr (same ∙ b.borne)) ];
    born = λ core e. cc;
    only = λ n tells. elim (tells_back n way tells) [ inl a ↦ inl (inl a) | inr b ↦ inl (inr (record { borne = sym same ∙ b; goes = live })) ];
  }

  -- one thread is born, and none was before
  told_one : (core : Core) → ((n : ℕ) → borne_in (trail_of job thread.core) ≡ Some n → ⊥) → Onward job (Some core.arch.number) thread next → TellsOn job thread next (Some core)
  told_one core none way = record {
    kept = λ n tells. elim tells [ inl a ↦ tells_on n way (inl a) | inr b ↦ absurd (none n b.borne) ];
    born = λ c e. (let same : core.arch.number ≡ c.arch.number = cc in subst (TellsOf job next) same (tells_on core.arch.number way (inr refl)));
    only = λ n tells. elim (tells_back n way tells) [ inl a ↦ inl (inl a) | inr b ↦ inr (core, refl, (let same : core.arch.number ≡ n = cc in same)) ];
  }

  told_by : (changes : List Change) (b : Option (ℕ × ℕ)) → birth changes ≡ b → BirthFits changes →
      ((n child start : ℕ) → changes ≡ Born child start ∷ [] → borne_in (trail_of job thread.core) ≡ Some n → ⊥) → Onward job (borne_by changes (borne_in (trail_of job thread.core))) thread next →
      TellsOn job thread next (child_of thread.core.arch changes)
  told_by changes None e fits none way =
      subst (TellsOn job thread next) (sym (ap (born thread.core.arch) e)) (told_none (borne_by changes (borne_in (trail_of job thread.core))) (borne_still changes (borne_in (trail_of job thread.core)) e) way)
  told_by changes (Some c) e fits none way =
      let alone = fits.alone c e in
      let child = child_core thread.core.arch c.0 c.1 in
      let now = subst (λ cs. Onward job (borne_by cs (borne_in (trail_of job thread.core))) thread next) alone way in
      subst (TellsOn job thread next) (sym (ap (born thread.core.arch) e)) (told_one child (λ n b. none n c.0 c.1 alone b) now)

pub births_told : BirthsAreTold
births_told job thread v is live =
    let h = waiting job thread.core is live in
    let w = h.waits in
    let arch = unheld thread.core.arch in
    let left = taken job thread.core v in
    let changes = next_changes job thread.core v in
    let same : w.1 v ≡ changes = sym (ap (λ c. changes_of c v) w.2) in
    let fits = births (Ends job arch) false (row job arch) 0 0 thread.core.vals.accesses thread.core.vals.values w.0 w.1 v (walk_row job arch).walks w.2 in
    subst (TellsOn job thread (thread_after thread left)) (sym (child_taken job thread.core v w.0 w.1 w.2))
    (told_by job thread live (thread_after thread left) changes (birth changes) refl (subst BirthFits same fits) (λ n child start e b. once job thread.core w.0 w.1 v w.2 n child start (same ∙ e) b) (onward job thread w.0 w.1 v h w.2))

-- ---- all threads

-- which thread of the list after an access this is
data Place (threads : List Thread) (t : ℕ) (x : Thread) (child : Option Core) (k : ℕ) (y : Thread) : Type 0 where
  actor : k ≡ t → x ≡ y → Place threads t x child k y
  other : k ≢ t → slice_get threads k ≡ Some y → Place threads t x child k y
  newborn : (core : Core) → child ≡ Some core → record { core = core; trace = [] } ≡ y → Place threads t x child k y

set_place : (threads : List Thread) (t k : ℕ) (x y : Thread) (child : Option Core) → t < length threads → slice_get (slice_set threads t x) k ≡ Some y → Place threads t x child k y
set_place threads t k x y child l e = elim (eqb_tells k t) [
  | inl u ↦ actor u.1 (let here = get_same threads t x l in let found : slice_get (slice_set threads t x) t ≡ Some y = subst (λ n. slice_get (slice_set threads t x) n ≡ Some y) u.1 e in cc)
  | inr u ↦ other u.1 (sym (get_other threads t k x u.1) ∙ e)
]

place : (threads : List Thread) (t k : ℕ) (x y : Thread) (child : Option Core) → t < length threads → slice_get (with_child (slice_set threads t x) child) k ≡ Some y → Place threads t x child k y
place threads t k x y None l e = set_place threads t k x y None l e
place threads t k x y (Some core) l e =
    let new : Thread = record { core = core; trace = [] } in
    let set = slice_set threads t x in
    elim (cases_lt k (length set)) [
      | inl low ↦ set_place threads t k x y (Some core) l (sym (get_low set new k low) ∙ e)
      | inr high ↦
          let within = slice_get_within (set ++ new ∷ []) k y e in
          let more = length-append set (new ∷ []) in
          let last : k ≡ length set = omega arith in
          newborn core refl (let at = get_last set new in let found : slice_get (set ++ new ∷ []) (length set) ≡ Some y = subst (λ n. slice_get (set ++ new ∷ []) n ≡ Some y) last e in cc)
    ]

-- a thread with a next access hasn't ended
still_by : (job : JobData) (core : Core) (a : Access) (over : Option End) → access_of job core over ≡ Some a → over ≡ None
still_by job core a (Some end) e = cc
still_by job core a None e = refl

still_on : (job : JobData) (core : Core) (a : Access) → next_access job core ≡ Some a → core.over ≡ None
unfolding next_access
still_on job core a e = still_by job core a core.over e

module _ (job : JobData) (threads : List Thread) (t : ℕ) (thread moved : Thread) (h : Named job threads) (found : slice_get threads t ≡ Some thread) where
  inside : t < length threads
  inside = slice_get_within threads t thread found

  -- a thread that was told of is told of in a list with all these threads, and with that which moved on
  kept_named : (new : List Thread) (n : ℕ) → slice_get new t ≡ Some moved → ((k : ℕ) (y : Thread) → k ≢ t → slice_get threads k ≡ Some y → slice_get new k ≡ Some y) →
      (TellsOf job thread n → TellsOf job moved n) → IsNamed job threads n → IsNamed job new n
  kept_named new n here others keeps d = elim (eqb_tells d.parent t) [
    | inl u ↦
        let old : slice_get threads t ≡ Some d.thread = subst (λ k. slice_get threads k ≡ Some d.thread) u.1 d.found in
        let is : d.thread ≡ thread = cc in
        let lower = d.lower in
        let same = u.1 in
        record { parent = t; thread = moved; found = here; lower = omega arith; tells = keeps (subst (λ y. TellsOf job y n) is d.tells) }
    | inr u ↦ record { parent = d.parent; thread = d.thread; found = others d.parent d.thread u.1 d.found; lower = d.lower; tells = d.tells }
  ]

  -- Who tells of a thread afterwards: one that did so before, or the one that acted, of a new one.
  data Teller (New : ℕ → Type 0) (k n : ℕ) : Type 0 where
    before : (y : Thread) → slice_get threads k ≡ Some y → TellsOf job y n → Teller New k n
    now : k ≡ t → New n → Teller New k n

  -- it is enough to know of the one that acted, and that a new one tells of nobody
  module _ (New : ℕ → Type 0) (child : Option Core) (more : (n : ℕ) → TellsOf job moved n → TellsOf job thread n ⊎ New n) (silent : (core : Core) (n : ℕ) → child ≡ Some core →
      TellsOf job (record { core = core; trace = [] }) n → ⊥) where
    teller_at : (k n : ℕ) (y : Thread) → Place threads t moved child k y → TellsOf job y n → Teller New k n
    teller_at k n y (actor u is) tells = elim (more n (subst (λ z. TellsOf job z n) (sym is) tells)) [
      | inl a ↦ before thread (subst (λ i. slice_get threads i ≡ Some thread) (sym u) found) a
      | inr new ↦ now u new
    ]
    teller_at k n y (other d e) tells = before y e tells
    teller_at k n y (newborn core some is) tells = absurd (silent core n some (subst (λ z. TellsOf job z n) (sym is) tells))

    teller : (k n : ℕ) (y : Thread) → slice_get (with_child (slice_set threads t moved) child) k ≡ Some y → TellsOf job y n → Teller New k n
    teller k n y e tells = teller_at k n y (place threads t k moved y child inside e) tells

  -- a new one is the next thread, which was told of by nobody
  alone_now : (New : ℕ → Type 0) (next : (n : ℕ) → New n → n ≡ length threads) (k i n : ℕ) → Teller New k n → Teller New i n → k ≡ i
  alone_now New next k i n (before x e p) (before y f q) = h.alone k i n x y e f p q
  alone_now New next k i n (before x e p) (now u new) = (let last = next n new in let old = h.told k n x e p in let high = old.1 in absurd (omega arith))
  alone_now New next k i n (now u new) (before y f q) = (let last = next n new in let old = h.told i n y f q in let high = old.1 in absurd (omega arith))
  alone_now New next k i n (now u new) (now v end) = u ∙ sym v

  -- nobody is born
  named_none : TellsOn job thread moved None → Named job (slice_set threads t moved)
  named_none way =
      let len = length-set threads t moved in
      record {
        each = λ n l m. kept_named (slice_set threads t moved) n (get_same threads t moved inside) (λ k y d e. get_other threads t k moved d ∙ e) (way.kept n) (h.each n l (omega arith));
        told = λ k n y e tells. (let r = told_before k n (who k n y e tells) in let low = r.0 in let high = r.1 in (low, omega arith));
        alone = λ k i n x y e f p q. alone_now (λ n. ⊥) (λ n z. absurd z) k i n (who k n x e p) (who i n y f q);
      }
    where
      more : (n : ℕ) → TellsOf job moved n → TellsOf job thread n ⊎ ⊥
      more n tells = elim (way.only n tells) [ inl a ↦ inl a | inr c ↦ (let none = c.1 in cc) ]

      who : (k n : ℕ) (y : Thread) → slice_get (slice_set threads t moved) k ≡ Some y → TellsOf job y n → Teller (λ n. ⊥) k n
      who k n y e tells = teller (λ n. ⊥) None more (λ core n e. cc) k n y e tells

      told_before : (k n : ℕ) → Teller (λ n. ⊥) k n → (k < n) × (n < length threads)
      told_before k n (before y e tells) = h.told k n y e tells
      told_before k n (now u none) = absurd none

  -- the next thread is born
  named_next : (core : Core) → core.arch.number ≡ length threads → core.vals ≡ no_vals → TellsOn job thread moved (Some core) → Named job (slice_set threads t moved ++ record { core = core; trace = [] } ∷ [])
  named_next core number vals way =
      let new : Thread = record { core = core; trace = [] } in
      let set = slice_set threads t moved in
      let len = length-set threads t moved in
      let all = length-append set (new ∷ []) in
      let here = get_low set new t (omega (arith, inside)) ∙ get_same threads t moved inside in
      record {
        each = λ n l m. elim (cases_lt n (length threads)) [
          | inl low ↦
              kept_named (set ++ new ∷ []) n here
              (λ k y d e. get_low set new k (let w = slice_get_within threads k y e in omega arith) ∙ get_other threads t k moved d ∙ e)
              (way.kept n) (h.each n l low)
          | inr high ↦
              let last : core.arch.number ≡ n = omega arith in
              let within = inside in
              record { parent = t; thread = moved; found = here; lower = omega arith; tells = subst (TellsOf job moved) last (way.born core refl) }
        ];
        told = λ k n y e tells. (let r = told_now k n (who k n y e tells) in let low = r.0 in let high = r.1 in (low, omega arith));
        alone = λ k i n x y e f p q. alone_now (λ n. n ≡ length threads) (λ n last. last) k i n (who k n x e p) (who i n y f q);
      }
    where
      more : (n : ℕ) → TellsOf job moved n → TellsOf job thread n ⊎ (n ≡ length threads)
      more n tells = elim (way.only n tells) [
        | inl a ↦ inl a
        | inr c ↦
            let some = c.1 in
            let same : core ≡ c.0 = cc in
            inr (sym c.2 ∙ sym (ap (λ (x : Core). x.arch.number) same) ∙ number)
      ]

      silent : (n : ℕ) → TellsOf job (record { core = core; trace = [] }) n → ⊥
      silent n (inl a) = a
      silent n (inr b) =
          let none : borne_in (trail_of job core) ≡ None = ap (λ seen. borne_in (row_trail job core.arch seen)) vals in
          let both : None ≡ Some n = sym none ∙ b.borne in
          cc

      who : (k n : ℕ) (y : Thread) → slice_get (slice_set threads t moved ++ record { core = core; trace = [] } ∷ []) k ≡ Some y → TellsOf job y n → Teller (λ n. n ≡ length threads) k n
      who k n y e tells =
          teller (λ n. n ≡ length threads) (Some core) more (λ c i some mute. (let same : c ≡ core = cc in silent i (subst (λ (x : Core). TellsOf job (record { core = x; trace = [] }) i) same mute))) k n y e tells

      told_now : (k n : ℕ) → Teller (λ n. n ≡ length threads) k n → (k < n) × (n < length threads + 1)
      told_now k n (before y e tells) =
          let old = h.told k n y e tells in
          let low = old.0 in
          let high = old.1 in
          (omega arith, omega arith)
      told_now k n (now u last) = let within = inside in (omega arith, omega arith)

  named_by : (m : Machine) (a : Access) (child : Option Core) → m.threads ≡ threads → Draws m a child → TellsOn job thread moved child → Named job (with_child (slice_set threads t moved) child)
  named_by m a child same (bears core e few last some new) way =
      let at : core.arch.number ≡ length threads = new.number ∙ last ∙ ap length same in
      subst (λ c. Named job (with_child (slice_set threads t moved) c)) (sym some) (named_next core at new.vals (subst (TellsOn job thread moved) some way))
  named_by m a child same (bears_nobody e many none) way = subst (λ c. Named job (with_child (slice_set threads t moved) c)) (sym none) (named_none (subst (TellsOn job thread moved) none way))
  named_by m a child same (leaves e none) way = subst (λ c. Named job (with_child (slice_set threads t moved) c)) (sym none) (named_none (subst (TellsOn job thread moved) none way))

-- ---- a turn

module _ (job : JobData) (m : Machine) (t : ℕ) (numbers : Numbered job m) (draw : DrawsRight job m) (h : Named job m.threads) where
  named_access : (thread : Thread) (a : Option Access) → slice_get m.threads t ≡ Some thread → next_access job thread.core ≡ a → Named job (act job m t thread a).threads
  named_access thread None found next = h
  named_access thread (Some a) found next =
      let left = taken job thread.core (answer m.words a) in
      named_by job m.threads t thread (thread_after thread left) h found m a left.child refl (draw t thread a found next) (births_told job thread (answer m.words a) (numbers.core t thread found) (still_on job thread.core a next))

  named_thread : (o : Option Thread) → slice_get m.threads t ≡ o → Named job (step_by job m t o).threads
  named_thread None found = h
  named_thread (Some thread) found = named_access thread (next_access job thread.core) found refl

  named_turn : Named job (step job m t).threads
  unfolding step
  named_turn = named_thread (slice_get m.threads t) refl

-- ---- a run

named_from : (job : JobData) (j : IsJob job) (turns : List ℕ) (m : Machine) (s : State) → Invariant job m s → Named job m.threads → Named job (run job m turns).threads
named_from job j [] m s st h = h
named_from job j (t ∷ ts) m s st h =
    let d = turn job j m t s st in
    named_from job j ts (step job m t) d.next d.stands (named_turn job m t (numbered_at job j m s st) (draws_right job j m s st) h)

-- thread 0 alone has told of nobody
first_named : (job : JobData) → Named job (record { core = first_core job; trace = [] } ∷ [])
first_named job = record { each = λ n l m. absurd (omega arith); told = λ t n thread e tells. absurd (mute t n thread e tells); alone = λ t u n x y e f p q. absurd (mute t n x e p) }
  where
    first : Thread
    first = record { core = first_core job; trace = [] }

    silent : (n : ℕ) → TellsOf job first n → ⊥
    silent n (inl a) = a
    silent n (inr b) = (let none : None ≡ Some n = b.borne in cc)

    only : (t : ℕ) (thread : Thread) → slice_get (first ∷ []) t ≡ Some thread → first ≡ thread
    only zero thread e = cc
    only (suc t) thread e = cc

    mute : (t n : ℕ) (thread : Thread) → slice_get (first ∷ []) t ≡ Some thread → TellsOf job thread n → ⊥
    mute t n thread e tells = silent n (subst (λ y. TellsOf job y n) (sym (only t thread e)) tells)

pub named_run : (job : JobData) (start : Machine) (turns : List ℕ) → IsJob job → Starts job start → Named job (run job start turns).threads
named_run job start turns j s =
    named_from job j turns start (record { book = first_book }) (first_stands job start j s) (subst (Named job) (sym s.threads) (first_named job))

-- ---- all threads are told of

module _ (job : JobData) (threads : List Thread) (h : Named job threads) (has : ℕ → Bool) (c : AreClosed threads has) where
  reached_by : (n parent : ℕ) (thread : Thread) → slice_get threads parent ≡ Some thread → has parent ≡ true → TellsOf job thread n → has n ≡ true
  reached_by n parent thread found there (inl names) = c.named parent n thread found there names
  reached_by n parent thread found there (inr b) = absurd (c.ended parent thread found there b.goes)

  -- those below a bound
  reached_below : (bound n : ℕ) → n < bound → n < length threads → has n ≡ true
  reached_below zero n l m = absurd (omega arith)
  reached_below (suc bound) zero l m = c.first
  reached_below (suc bound) (suc n) l m =
      let d = h.each (suc n) (omega arith) m in
      let lower = d.lower in
      reached_by (suc n) d.parent d.thread d.found (reached_below bound d.parent (omega arith) (omega arith)) d.tells

pub reached_run : (job : JobData) (start : Machine) (turns : List ℕ) → IsJob job → Starts job start → ClosedAreAll (run job start turns).threads
reached_run job start turns j s has c n l = reached_below job (run job start turns).threads (named_run job start turns j s) has c (suc n) n (omega arith) l
