-- What a thread of a job keeps from access to access. Source: own.
use Rattle.std.proofs.lemmas.Bool.Decides.{nat_tests}
use Rattle.std.proofs.lemmas.Bool.{lt-ltb}
use Rattle.std.proofs.Common.{add-one, true, false, arith, ◌∙◌, ap, sym, subst}
use Rattle.std.specs.Prelude.{◌≡◌, ℕ, ◌+◌, ◌<◌, ◌≤◌, Bool, List, [], ◌∷◌, Option, Some, None, refl, ◌==◌, length, nat_lt, if◌then◌else◌}
use Rattle.cet_words.specs.Layout.{first_region_start}
use Rattle.cet_words.specs.declared.accesses.Access.{Access}
use Rattle.cet_words.specs.Job.{JobData, IsJob}
use Rattle.cet_words.specs.Change.{Change}
use Rattle.cet_isa.specs.declared.threads.Arch.{Arch}
use Rattle.cet_isa.specs.declared.threads.End.{End}
use Rattle.cet_isa.specs.declared.threads.End.TheVariants as ending
use Rattle.cet_page.specs.Script.{Played, Completed, Faulted, Wants, birth}
use Rattle.cet_page.specs.ValsData.{ValsData, no_vals, vals_after, most_values, most_accesses}
use Rattle.cet_page.specs.Finish.{IsMade}
use Rattle.cet_page.specs.Trail.{visit, vals_of, row_trail, trail_of}
use Rattle.cet_page.specs.Within.{IsState, Waits, CoreAt, IsCore}
use Rattle.cet_page.specs.Row.{row}
use Rattle.cet_page.specs.Core.{Core, first_core, unheld, row_played, wanted, access_of, next_access, kept_by, recorded, faulted, core_by, answered, taken, born, child_arch, child_core}
use Rattle.cet_page.proofs.Walk.{Spent, OnOver, spent_more, spent_fits, over_play, births, BornFits, MayBear}
use Rattle.cet_page.proofs.TrailLaws.{trail_more, trail_shows, trail_spent}
use Rattle.cet_page.proofs.WalkRows.{Ends, walk_row, row_begins}
use Rattle.cet_page.specs.Plays.{Wanted, birth_by}
use Rattle.cet_page.specs.declared.cursors.Mark.TheVariants as marks
use Rattle.cet_page.specs.declared.finishes.Finish.{Finish}
use Rattle.cet_page.specs.declared.finishes.Finish.TheVariants.{Noted, Posted, Exited, Stopped}

first_made : IsMade first_region_start
first_made = record { low = omega arith; high = omega arith; whole = refl }

fresh_core : (job : JobData) (next : Arch) → job.limit ≤ 100000 → IsState next → next.count < job.limit → Waits job (record { arch = next; vals = no_vals; over = None })
fresh_core job next l s c = record { state = s; count = c; limit = l; vals = refl; waits = row_begins job (unheld next) }

-- thread 0
pub first_waits : (job : JobData) → IsJob job → IsCore job (first_core job)
first_waits job j = fresh_core job _ j.limit_high (record { number = omega arith; made = first_made }) (let l = j.limit_low in omega arith)

recorded_at : (job : JobData) (next : Arch) (b : Bool) → (next.count == job.limit) ≡ b → job.limit ≤ 100000 → IsState next → next.count ≤ job.limit →
    CoreAt job (record { arch = next; vals = no_vals; over = if b then Some ending.Limit else None }) (if b then Some ending.Limit else None)
recorded_at job next true e l s c = record { state = s; count = c; vals = refl }
recorded_at job next false e l s c = let lt : next.count < job.limit = grind (arith, nat_tests, e, c) in fresh_core job next l s lt

recorded_is : (job : JobData) (next : Arch) → job.limit ≤ 100000 → IsState next → next.count ≤ job.limit → IsCore job (recorded job next)
recorded_is job next l s c = recorded_at job next (next.count == job.limit) refl l s c

state_kept : (arch next : Arch) (held : Option ℕ) → next.made ≡ arch.made → IsState arch → IsState (kept_by arch held next)
state_kept arch next held e s = record { number = s.number; made = subst IsMade (sym e) s.made }

core_kept : (job : JobData) (arch : Arch) (held : Option ℕ) (seen : ValsData) → job.limit ≤ 100000 → IsState arch → arch.count < job.limit → vals_of (row_trail job arch seen) ≡ seen →
    (r : Played Finish) → row_played job arch seen ≡ r → OnOver (Ends job (unheld arch)) r → IsCore job (core_by job arch held seen r)
core_kept job arch held seen l s c p (Wants a changes) e k = record { state = record { number = s.number; made = s.made }; count = c; limit = l; vals = p; waits = (a, changes, e) }
core_kept job arch held seen l s c p (Faulted f) e k = recorded_is job (kept_by arch held (faulted arch f)) l (record { number = s.number; made = s.made }) (omega arith)
core_kept job arch held seen l s c p (Completed (Noted next noted) left values) e k =
    let same : next.count ≡ arch.count + 1 = k.count in
    recorded_is job (kept_by arch held next) l (state_kept arch next held k.made s) (omega arith)
core_kept job arch held seen l s c p (Completed (Posted next) left values) e k =
    let same : next.count ≡ arch.count = k.count in
    fresh_core job (kept_by arch held next) l (state_kept arch next held k.made s) (omega arith)
core_kept job arch held seen l s c p (Completed (Exited next noted status) left values) e k =
    let same : next.count ≡ arch.count + 1 = k.count in
    record { state = state_kept arch next held k.made s; count = omega arith; vals = refl }
core_kept job arch held seen l s c p (Completed Stopped left values) e k = record { state = state_kept arch arch held refl s; count = omega arith; vals = refl }

-- the accesses so far are the first ones of the row
pub spent : (job : JobData) (core : Core) → Waits job core → Spent (row job (unheld core.arch)) core.vals.accesses core.vals.values
spent job core h = let arch = unheld core.arch in trail_spent (Ends job arch) (row job arch) 0 0 core.vals (walk_row job arch).walks h.vals

-- one access more stands first in the trail of the row
pub row_grown : (job : JobData) (core : Core) (a : Access) (own : ℕ → List Change) (v : ℕ) → Waits job core → row_played job core.arch core.vals ≡ Wants a own →
    (w : ℕ) × (row_trail job core.arch (vals_after core.vals a v) ≡ visit a w (own v) ∷ trail_of job core)
row_grown job core a own v h w =
    let arch = unheld core.arch in
    let r = trail_more (Ends job arch) false (row job arch) 0 0 core.vals.accesses core.vals.values [] a own v (walk_row job arch).walks (spent job core h) w in
    (r.0, rw add-one r.1)

-- the same of one access more
pub shows_next : (job : JobData) (core : Core) (a : Access) (own : ℕ → List Change) (answer : ℕ) → Waits job core → row_played job core.arch core.vals ≡ Wants a own →
    vals_of (row_trail job core.arch (vals_after core.vals a answer)) ≡ vals_after core.vals a answer
shows_next job core a own answer h e =
    let seen = vals_after core.vals a answer in
    let arch = unheld core.arch in
    let o = (walk_row job arch).walks in
    let more : Spent (row job arch) seen.accesses seen.values = rw add-one (spent_more (Ends job arch) false (row job arch) 0 0 core.vals.accesses core.vals.values a own answer o (spent job core h) e) in
    trail_shows (Ends job arch) (row job arch) 0 0 seen.accesses seen.values o more

answered_is : (job : JobData) (core : Core) (answer : ℕ) → Waits job core → (r : Played Finish) → row_played job core.arch core.vals ≡ r → (a : Access) (changes : ℕ → List Change) →
    r ≡ Wants a changes → IsCore job (answered job core answer r).core
answered_is job core answer h (Wants b own) e a changes w =
    let seen = vals_after core.vals b answer in
    let arch = unheld core.arch in
    let o = (walk_row job arch).walks in
    core_kept job core.arch _ seen h.limit h.state h.count (shows_next job core b own answer h e) (row_played job core.arch seen) refl (over_play (Ends job arch) false (row job arch) 0 0 seen.accesses seen.values o)
answered_is job core answer h (Faulted f) e a changes w = cc
answered_is job core answer h (Completed x left values) e a changes w = cc

-- a thread that waited has ended, or waits again
pub taken_is : (job : JobData) (core : Core) (answer : ℕ) → Waits job core → IsCore job (taken job core answer).core
unfolding taken
taken_is job core answer h = answered_is job core answer h (row_played job core.arch core.vals) refl h.waits.0 h.waits.1 h.waits.2

-- there is room for one more value and one more access
pub room : (job : JobData) (core : Core) → Waits job core → (length core.vals.values < most_values) × (core.vals.accesses < most_accesses)
room job core h =
    let arch = unheld core.arch in
    let r = spent_fits (Ends job arch) false (row job arch) 0 0 core.vals.accesses core.vals.values h.waits.0 h.waits.1 (walk_row job arch).walks (spent job core h) h.waits.2 in
    (omega arith, omega arith)

-- a thread that hasn't ended waits
pub waiting : (job : JobData) (core : Core) → IsCore job core → core.over ≡ None → Waits job core
waiting job core h e = subst (CoreAt job core) e h

-- a thread that is born waits for its first access
born_is : (job : JobData) (arch : Arch) (child : Option (ℕ × ℕ)) (b : Core) → job.limit ≤ 100000 → 0 < job.limit → BornFits child → born arch child ≡ Some b → IsCore job b
born_is job arch None b l m f e = cc
born_is job arch (Some child) b l m f e =
    let is : child_core arch child.0 child.1 ≡ b = cc in
    subst (IsCore job) is (fresh_core job (child_arch arch child.0 child.1) l (record { number = f.number; made = f.made }) m)

child_by : (job : JobData) (core : Core) (answer : ℕ) → Waits job core → (r : Played Finish) → row_played job core.arch core.vals ≡ r → (b : Core) → (answered job core answer r).child ≡ Some b → IsCore job b
child_by job core answer h (Wants a changes) e b c =
    let arch = unheld core.arch in
    let fits = births (Ends job arch) false (row job arch) 0 0 core.vals.accesses core.vals.values a changes answer (walk_row job arch).walks e in
    let room = h.count in
    born_is job core.arch (birth (changes answer)) b h.limit (omega arith) fits.fits c
child_by job core answer h (Faulted f) e b c = cc
child_by job core answer h (Completed x left values) e b c = cc

-- the same of the thread that an access bears
pub child_waits : (job : JobData) (core : Core) (answer : ℕ) → Waits job core → (b : Core) → (taken job core answer).child ≡ Some b → IsCore job b
unfolding taken
child_waits job core answer h b e = child_by job core answer h (row_played job core.arch core.vals) refl b e

pub child_is : (job : JobData) (core b : Core) (answer : ℕ) → IsCore job core → core.over ≡ None → (taken job core answer).child ≡ Some b → IsCore job b
child_is job core b answer h n e = child_waits job core answer (waiting job core h n) b e

-- ---- a birth

-- where the next access bears a thread, its shadow stack is in range
bears_by : (start answer : ℕ) → answer < 32 → BornFits (birth_by (marks.Bears start) answer) → IsMade start
bears_by start answer l f =
    let t : nat_lt answer 32 ≡ true = lt-ltb answer 32 l in
    let g : MayBear (answer, start) = rw t at f in
    g.made

bears_at : (job : JobData) (core : Core) (a : Access) (start answer : ℕ) → Waits job core → answer < 32 → (c : Played Finish) → row_played job core.arch core.vals ≡ c → Wanted c a (marks.Bears start) → IsMade start
bears_at job core a start answer h l (Wants b changes) e w =
    let arch = unheld core.arch in
    let fits = births (Ends job arch) false (row job arch) 0 0 core.vals.accesses core.vals.values b changes answer (walk_row job arch).walks e in
    bears_by start answer l (subst BornFits (w.1.1 answer) fits.fits)
bears_at job core a start answer h l (Faulted f) e w = absurd w
bears_at job core a start answer h l (Completed x left values) e w = absurd w

pub bears_made : (job : JobData) (core : Core) (a : Access) (start answer : ℕ) → IsCore job core → core.over ≡ None → answer < 32 → Wanted (row_played job core.arch core.vals) a (marks.Bears start) → IsMade start
bears_made job core a start answer h n l w = bears_at job core a start answer (waiting job core h n) l (row_played job core.arch core.vals) refl w

-- the thread after the answer, by another name
pub taken_at : (job : JobData) (core new : Core) (answer : ℕ) → IsCore job core → core.over ≡ None → new ≡ (taken job core answer).core → IsCore job new
taken_at job core new answer h g e = subst (IsCore job) (sym e) (taken_is job core answer (waiting job core h g))

pub first_at : (job : JobData) (core : Core) → IsJob job → core ≡ first_core job → IsCore job core
first_at job core j e = subst (IsCore job) (sym e) (first_waits job j)

-- a thread that hasn't ended has a next access
pub wants : (job : JobData) (core : Core) → IsCore job core → core.over ≡ None → (a : Access) × (next_access job core ≡ Some a)
unfolding next_access
wants job core h e =
    let w = waiting job core h e in
    (w.waits.0, ap (access_of job core) e ∙ ap wanted w.waits.2)

-- the same of an access by another name
pub goes : (job : JobData) (core : Core) (next : Option Access) → IsCore job core → next ≡ next_access job core → core.over ≡ None → (a : Access) × (next ≡ Some a)
goes job core next h n e = let w = wants job core h e in (w.0, n ∙ w.1)

-- a thread that has ended has none
pub stops : (job : JobData) (core : Core) (next : Option Access) (end : End) → next ≡ next_access job core → core.over ≡ Some end → next ≡ None
unfolding next_access
stops job core next end n e = n ∙ ap (access_of job core) e
