-- One access of a thread keeps where all threads stand. Source: own.
use Rattle.std.proofs.Common.{inl, inr, [], ◌∷◌, add-one, ◌≡◌, ◌≢◌, ℕ, ◌+◌, ◌*◌, ◌≤◌, ap, arith, false, List, Option, Some, refl, sym, subst, ◌∙◌}
use Rattle.cet_words.specs.Access.{answer, after}
use Rattle.cet_words.specs.Job.{JobData, IsJob}
use Rattle.cet_words.specs.declared.accesses.Access.{Access}
use Rattle.cet_book.specs.Book.{Book, books_after}
use Rattle.cet_book.proofs.Kept.{NoneBorn, others_rely}
use Rattle.cet_isa.specs.declared.threads.Arch.{Arch}
use Rattle.cet_page.specs.Script.{Played, Completed, Faulted, Wants, held_after}
use Rattle.cet_page.specs.declared.finishes.Finish.{Finish}
use Rattle.cet_page.specs.declared.finishes.Finish.TheVariants.{Noted, Posted, Exited, Stopped}
use Rattle.cet_page.specs.ValsData.{ValsData, vals_after}
use Rattle.cet_page.specs.Row.{row}
use Rattle.cet_page.specs.Core.{Core, After, unheld, row_played, changes_of, next_changes, core_by, answered, taken, child_of}
use Rattle.cet_page.proofs.WalkRows.{Ends, walk_row}
use Rattle.std.specs.Prelude.{slice_index, ◌||◌}
use Rattle.cet_book.specs.Facts.{one}
use Rattle.cet_own.specs.Facts.{AllTold, paid_draws, paid_births}
use Rattle.cet_own.proofs.Told.{all_last, known_told}
use Rattle.cet_own.proofs.Paid.{counted, came_pays}
use Rattle.cet_own.proofs.Counters.{none_born, CountersTell}
use Rattle.cet_own.specs.Claims.{CountsBy, no_count, draws_pages, bears_child, bears_nobody, Stacked, Still}
use Rattle.cet_words.specs.Change.{Change}
use Rattle.cet_page.proofs.Walk.{over_play}
use Rattle.cet_page.specs.Within.{IsCore}
use Rattle.cet_page.proofs.WithinLaws.{taken_is}
use Rattle.cet_own.specs.Safe.{NotedReturns}
use Rattle.cet_own.specs.ToldTokens.{NotedTokens}
use Rattle.cet_page.specs.Trail.{Visit, visit, row_trail, trail_of}
use Rattle.cet_own.specs.Past.{below_frame, frame_pushed, held_by as note_by, held_in, claimed_in, draw_word, next_word, drew, is_draw, numbered, is_number}
use Rattle.cet_own.proofs.ClaimStays.{claim_stays}
use Rattle.cet_book.proofs.Comes.{changes_come, changes_last, other_apart}
use Rattle.cet_own.proofs.Still.{still_own, still_kept}
use Rattle.cet_own.proofs.Switches.{goes_calm, switches}
use Rattle.cet_own.proofs.Frame.{during_at, goes, on_came, OnCame}
use Rattle.cet_own.specs.Holds.{Holds}
use Rattle.cet_book.specs.Relied.{Relies, Held}
use Rattle.cet_own.proofs.HeldAfter.{changes_held}
use Rattle.cet_own.specs.Owed.{State, Owed, own_stack, rules}
use Rattle.cet_own.proofs.ClassLaws.{known}
use Rattle.cet_own.specs.Threads.{During, Fails, entries_of, Left, InRow, CoreStands}
use Rattle.cet_own.specs.Threads as calls
use Rattle.cet_own.proofs.Threads.{came_still, came_stands, after_book}

-- what an access of thread t leads to
pub record Led (job : JobData) (words : List ℕ) (t : ℕ) (s : State) (core : Core) (a : Access) : Type 0 where
  pub next : State
  pub owed : Owed job.image t (own_stack job t) (trail_of job core) s.book a (answer words a) (next_changes job core (answer words a))
  pub is : books_after t s.book (next_changes job core (answer words a)) ≡ Some next.book
  pub holds : Holds job.image (after words a) next.book
  pub others : (y : ℕ) → t ≢ y → NoneBorn (next_changes job core (answer words a)) y → Relies y s.book next.book
  pub still : Still (after words a) t next.book (trail_of job (taken job core (answer words a)).core)
  pub spared : (y : ℕ) → t ≢ y → NoneBorn (next_changes job core (answer words a)) y → (past : List Visit) → Still words y s.book past → Still (after words a) y next.book past
  pub held : Held t next.book (taken job core (answer words a)).core.arch.held
  pub draws : slice_index (after words a) draw_word + 1023 * paid_draws job core ≤ slice_index words draw_word + 1023 * paid_draws job (taken job core (answer words a)).core
  pub nexts : slice_index (after words a) next_word + paid_births job core ≤ slice_index words next_word + paid_births job (taken job core (answer words a)).core
  pub made : (taken job core (answer words a)).core.arch.made ≡ core.arch.made
  pub count : (taken job core (answer words a)).core.arch.count ≤ core.arch.count + 1
  pub stands : CoreStands job t next (taken job core (answer words a)).core (taken job core (answer words a)).core.over
  pub returns : NotedReturns job (entries_of t s.book) core (taken job core (answer words a)) (taken job core (answer words a)).noted
  pub restores : NotedTokens s.book next.book (taken job core (answer words a)).noted

-- the same where the thread's next access and its changes are known
pub record LedBy (job : JobData) (words : List ℕ) (s : State) (core : Core) (a : Access) (changes : List Change) (left : After) : Type 0 where
  pub next : State
  pub owed : Owed job.image core.arch.number (own_stack job core.arch.number) (trail_of job core) s.book a (answer words a) changes
  pub is : books_after core.arch.number s.book changes ≡ Some next.book
  pub holds : Holds job.image (after words a) next.book
  pub others : (y : ℕ) → core.arch.number ≢ y → NoneBorn changes y → Relies y s.book next.book
  pub still : Still (after words a) core.arch.number next.book (trail_of job left.core)
  pub spared : (y : ℕ) → core.arch.number ≢ y → NoneBorn changes y → (past : List Visit) → Still words y s.book past → Still (after words a) y next.book past
  pub held : Held core.arch.number next.book left.core.arch.held
  pub draws : slice_index (after words a) draw_word + 1023 * paid_draws job core ≤ slice_index words draw_word + 1023 * paid_draws job left.core
  pub nexts : slice_index (after words a) next_word + paid_births job core ≤ slice_index words next_word + paid_births job left.core
  pub made : left.core.arch.made ≡ core.arch.made
  pub count : left.core.arch.count ≤ core.arch.count + 1
  pub stands : CoreStands job core.arch.number next left.core left.core.over
  pub returns : NotedReturns job (entries_of core.arch.number s.book) core left left.noted
  pub restores : NotedTokens s.book next.book left.noted

-- a thread holds what its access left it
held_by : (job : JobData) (arch : Arch) (held : Option ℕ) (seen : ValsData) (c : Played Finish) → (core_by job arch held seen c).arch.held ≡ held
held_by job arch held seen (Wants a changes) = refl
held_by job arch held seen (Faulted e) = refl
held_by job arch held seen (Completed (Noted next r) left values) = refl
held_by job arch held seen (Completed (Posted next) left values) = refl
held_by job arch held seen (Completed (Exited next r status) left values) = refl
held_by job arch held seen (Completed Stopped left values) = refl

-- what a thread has seen after an access, and what its row has come to
abbrev pub vals_by : Core → List ℕ → Access → ValsData
vals_by core words a = vals_after core.vals a (answer words a)

abbrev pub come_to : JobData → Core → List ℕ → Access → Played Finish
come_to job core words a = row_played job core.arch (vals_by core words a)

-- the thread that makes the access isn't born by it
own_unborn : {t v : ℕ} {past : List Visit} {b : Book} {a : Access} {changes : List Change} (words : List ℕ) → v ≡ answer words a → CountersTell words t b → CountsBy t past b a v changes → NoneBorn changes t
own_unborn {t = t} {changes = changes} words is counters_tell (no_count d n none) = none_born changes t none
own_unborn {t = t} {changes = changes} words is counters_tell (draws_pages n most e once none) = none_born changes t none
own_unborn {t = t} {v = v} {a = a} words is counters_tell (bears_child s start e few h once ev) =
    let w : v ≡ slice_index words next_word = is ∙ ap (answer words) e in
    subst (λ cs. NoneBorn cs t) (sym ev) (λ z. counters_tell.other (omega arith) (sym z ∙ w), tt)
own_unborn {t = t} {changes = changes} words is counters_tell (bears_nobody e many once none) = none_born changes t none

led_wants : (job : JobData) (j : IsJob job) (words : List ℕ) (s : State) (core : Core) (a : Access) (own : ℕ → List Change) → CountersTell words core.arch.number s.book →
    Holds job.image words s.book → Still words core.arch.number s.book (trail_of job core) → Held core.arch.number s.book core.arch.held → InRow job core.arch.number s core →
    row_played job core.arch core.vals ≡ Wants a own → IsCore job (answered job core (answer words a) (Wants a own)).core →
    LedBy job words s core a (own (answer words a)) (answered job core (answer words a) (Wants a own))
led_wants job j words s core a own few h still held r w is_core =
    let changes = own (answer words a) in
    let holding = held_after changes core.arch.held in
    let shown = row_trail job core.arch (vals_by core words a) in
    let walks = (walk_row job (unheld core.arch)).walks in
    let g = goes (rules job core.arch.number) (During (unheld core.arch)) (calls.Ends job (unheld core.arch)) (λ p. Fails job (unheld core.arch)) (Ends job (unheld core.arch)) false 0 0 words [] r.before s
    (row job (unheld core.arch)) core.vals.accesses core.vals.values a own walks r.left w (known job.image core.arch.number words (trail_of job core) s.book a few h still) in
    let is = after_book core.arch.number s g.next (books_after core.arch.number s.book changes) g.is in
    let grown : shown ≡ visit a (answer words a) changes ∷ trail_of job core = rw add-one g.grown in
    let left : Left job (unheld core.arch) s g.next (vals_by core words a) = rw add-one g.left in
    let came = on_came (rules job core.arch.number) (During (unheld core.arch)) (calls.Ends job (unheld core.arch)) (λ p. Fails job (unheld core.arch)) [] s g.next
    (row job (unheld core.arch)) (core.vals.accesses + 1) (vals_by core words a).values left in
    let over = over_play (Ends job (unheld core.arch)) false (row job (unheld core.arch)) 0 0 (vals_by core words a).accesses (vals_by core words a).values walks in
    let came' : OnCame (rules job core.arch.number) (During (unheld core.arch)) (calls.Ends job (unheld core.arch)) (λ p. Fails job (unheld core.arch)) shown s g.next (come_to job core words a) = came in
    let pays = came_pays job core.arch holding (vals_by core words a) s g.next (come_to job core words a) came' over in
    let now : drew shown ≡ (is_draw a || drew (trail_of job core)) = ap drew grown in
    let now' : numbered shown ≡ (is_number a || numbered (trail_of job core)) = ap numbered grown in
    let counts = g.owed.counts words refl h in
    let step = counted words a (trail_of job core) h.size counts in
    let draws_now = step.draws in
    let nexts_now = step.nexts in
    let note = changes_held core.arch.number changes s.book g.next.book core.arch.held h.sound.book is held in
    let notes = g.owed.notes words refl h in
    let own_now : (i : ℕ) → holding ≡ Some i → i ≡ own_stack job core.arch.number = λ i e. elim (notes.own core.arch.held i e) [ inl old ↦ r.own i old | inr new ↦ new ] in
    let holds_now : holding ≡ held_in shown = notes.says core.arch.held ∙ ap (note_by a (answer words a)) r.holding ∙ sym (ap held_in grown) in
    let lasts = changes_last core.arch.number changes s.book g.next.book h.sound.book is in
    let told : AllTold job.image g.next.book shown = subst (AllTold job.image g.next.book) (sym grown)
    (all_last job.image lasts (visit a (answer words a) changes ∷ trail_of job core) (known_told a (known job.image core.arch.number words (trail_of job core) s.book a few h still), r.told)) in
    let all = pays.draws in
    let all' = pays.nexts in
    let one_now = ap one now in
    let one_now' = ap one now' in
    let k = came_stands job core holding (vals_by core words a) shown s g.next
    (child_of core.arch changes) (come_to job core words a) note holds_now own_now told j left came is_core in
    -- where the row goes on, no shadow stack has come by the access
    let was = during_at (rules job core.arch.number) (During (unheld core.arch)) (calls.Ends job (unheld core.arch)) (λ p. Fails job (unheld core.arch)) [] r.before s
    (row job (unheld core.arch)) core.vals.accesses core.vals.values a own r.left w in
    let calm : (a' : Access) (l : ℕ → List Change) → come_to job core words a ≡ Wants a' l → switches changes ≡ false = λ a' l w'.
    (let on_top = during_at (rules job core.arch.number) (During (unheld core.arch)) (calls.Ends job (unheld core.arch)) (λ p. Fails job (unheld core.arch)) [] s g.next
    (row job (unheld core.arch)) (core.vals.accesses + 1) (vals_by core words a).values a' l left w' in
    goes_calm core.arch.number core.arch.ssp (answer words a) core.arch.held (trail_of job core) a changes s.book g.next.book h.sound.book is (g.owed.fits words refl h) held was
    (subst (λ c. Stacked core.arch.number g.next.book (below_frame c core.arch.ssp)) (ap frame_pushed grown) on_top)) in
    record {
      next = g.next;
      owed = g.owed;
      is = is;
      holds = g.owed.keeps words g.next.book refl h still is;
      others = λ y n none. others_rely core.arch.number y changes s.book g.next.book h.sound.book is n none;
      still = came_still job core.arch holding (vals_by core words a) (come_to job core words a) (after words a) core.arch.number g.next.book
          (λ a' l w'. subst (Still (after words a) core.arch.number g.next.book) (sym grown)
          (still_own words core.arch.number s.book g.next.book (trail_of job core) a changes h.size h.restorers (g.owed.restorers words refl h) (g.owed.below words refl h) h.sound.book (own_unborn words refl few counts) is (calm a' l w') still));
      spared = λ y n none past old.
          still_kept words y s.book g.next.book past a
          (changes_come core.arch.number y changes s.book g.next.book h.sound.book is none (other_apart core.arch.number y changes n))
          (λ w own. g.owed.spares words refl h y n w own) (g.owed.restorers words refl h) (claim_stays core.arch.number y changes s.book g.next.book (claimed_in past) h.sound.book n is) old;
      held = subst (Held core.arch.number g.next.book)
          (sym (held_by job core.arch holding (vals_by core words a) (come_to job core words a)))
          note;
      draws = omega (arith, draws_now, all, one_now);
      nexts = omega (arith, nexts_now, all', one_now');
      made = pays.made;
      count = pays.count;
      stands = k.0;
      returns = k.1;
      restores = k.2;
    }

led_come : (job : JobData) (j : IsJob job) (words : List ℕ) (s : State) (core : Core) (a : Access) (own : ℕ → List Change) → CountersTell words core.arch.number s.book → Holds job.image words s.book →
    Still words core.arch.number s.book (trail_of job core) → Held core.arch.number s.book core.arch.held → InRow job core.arch.number s core → row_played job core.arch core.vals ≡ Wants a own →
    LedBy job words s core a (own (answer words a)) (taken job core (answer words a))
unfolding taken
led_come job j words s core a own few h still held r w =
    let is_core : IsCore job (answered job core (answer words a) (Wants a own)).core = subst (λ c. IsCore job (answered job core (answer words a) c).core) w (taken_is job core (answer words a) r.waits) in
    subst (λ c. LedBy job words s core a (own (answer words a)) (answered job core (answer words a) c)) (sym w) (led_wants job j words s core a own few h still held r w is_core)

-- an access of a thread that waits for it
pub led : (job : JobData) (j : IsJob job) (words : List ℕ) (t : ℕ) (s : State) (core : Core) (a : Access) (own : ℕ → List Change) → CountersTell words t s.book → Holds job.image words s.book →
    Still words t s.book (trail_of job core) → Held t s.book core.arch.held → InRow job t s core → row_played job core.arch core.vals ≡ Wants a own → Led job words t s core a
led job j words t s core a own few h still held r w =
    let same : own (answer words a) ≡ next_changes job core (answer words a) = sym (ap (λ c. changes_of c (answer words a)) w) in
    subst (λ n. Led job words n s core a) r.number
    (let d = subst (λ l. LedBy job words s core a l (taken job core (answer words a))) same
    (led_come job j words s core a own (subst (λ n. CountersTell words n s.book) (sym r.number) few) h (subst (λ n. Still words n s.book (trail_of job core)) (sym r.number) still)
    (subst (λ n. Held n s.book core.arch.held) (sym r.number) held) (subst (λ n. InRow job n s core) (sym r.number) r) w) in
    record {
      next = d.next;
      owed = d.owed;
      is = d.is;
      holds = d.holds;
      others = d.others;
      still = d.still;
      spared = d.spared;
      held = d.held;
      draws = d.draws;
      nexts = d.nexts;
      made = d.made;
      count = d.count;
      stands = d.stands;
      returns = d.returns;
      restores = d.restores;
    })
