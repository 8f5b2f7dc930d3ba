-- Each access of a thread brings its end nearer. Source: own.
use Rattle.std.proofs.Common.{true, false, arith, sym, subst}
use Rattle.std.specs.Prelude.{◌≡◌, ℕ, ◌+◌, ◌-◌, ◌*◌, ◌<◌, Bool, List, Option, Some, None, refl, ◌==◌, if◌then◌else◌, length}
use Rattle.cet_words.specs.Job.{JobData}
use Rattle.cet_words.specs.Change.{Change}
use Rattle.cet_words.specs.declared.accesses.Access.{Access}
use Rattle.cet_isa.specs.declared.threads.Arch.{Arch}
use Rattle.cet_isa.specs.declared.threads.End.TheVariants as ending
use Rattle.cet_page.specs.Script.{Played, Completed, Faulted, Wants, held_after}
use Rattle.cet_page.specs.ValsData.{ValsData, no_vals, vals_after}
use Rattle.cet_page.specs.Row.{row}
use Rattle.cet_page.specs.Core.{Core, unheld, row_played, kept_by, faulted, core_by, answered, taken}
use Rattle.cet_page.proofs.Walk.{OnOver, spent_fits, over_play}
use Rattle.cet_page.proofs.WalkRows.{Ends, walk_row}
use Rattle.cet_page.specs.Left.{left_of}
use Rattle.cet_page.specs.Within.{Waits}
use Rattle.cet_page.proofs.WithinLaws.{spent}
use Rattle.cet_page.specs.declared.finishes.Finish.{Finish}
use Rattle.cet_page.specs.declared.finishes.Finish.TheVariants.{Noted, Posted, Exited, Stopped}

falls_recorded : (job : JobData) (next : Arch) (b : Bool) (count posted n : ℕ) → next.count ≡ count + 1 → next.posted ≡ posted → count < job.limit → n < 4096 →
    left_of job (record { arch = next; vals = no_vals; over = if b then Some ending.Limit else None }) (if b then Some ending.Limit else None) < 4096 * (job.limit - count) + 4096 *
    (length job.signals - posted) + (4096 - n)
falls_recorded job next true count posted n e p c l = omega arith
falls_recorded job next false count posted n e p c l = omega arith

falls_by : (job : JobData) (arch : Arch) (held : Option ℕ) (seen : ValsData) (n : ℕ) → arch.count < job.limit → n < 4096 → seen.accesses ≡ n + 1 → (r : Played Finish) →
    OnOver (Ends job (unheld arch)) r → left_of job (core_by job arch held seen r) (core_by job arch held seen r).over < 4096 * (job.limit - arch.count) + 4096 * (length job.signals - arch.posted) +
    (4096 - n)
falls_by job arch held seen n c l e (Wants a changes) k = omega arith
falls_by job arch held seen n c l e (Faulted f) k = falls_recorded job (kept_by arch held (faulted arch f)) (arch.count + 1 == job.limit) arch.count arch.posted n refl refl c l
falls_by job arch held seen n c l e (Completed (Noted next noted) left values) k = falls_recorded job (kept_by arch held next) (next.count == job.limit) arch.count arch.posted n k.count k.posted c l
falls_by job arch held seen n c l e (Completed (Posted next) left values) k =
    let count = k.count in
    let posted = k.posted in
    let few = k.few in
    omega arith
falls_by job arch held seen n c l e (Completed (Exited next noted status) left values) k = omega arith
falls_by job arch held seen n c l e (Completed Stopped left values) k = omega arith

falls_answered : (job : JobData) (core : Core) (answer : ℕ) → Waits job core → (r : Played Finish) (a : Access) (changes : ℕ → List Change) → r ≡ Wants a changes →
    left_of job (answered job core answer r).core (answered job core answer r).core.over < 4096 * (job.limit - core.arch.count) + 4096 * (length job.signals - core.arch.posted) +
    (4096 - core.vals.accesses)
falls_answered job core answer h (Wants b own) a changes w =
    let seen = vals_after core.vals b answer in
    let arch = unheld core.arch in
    let r = spent_fits (Ends job arch) false (row job arch) 0 0 core.vals.accesses core.vals.values h.waits.0 h.waits.1 (walk_row job arch).walks (spent job core h) h.waits.2 in
    let fewer : core.vals.accesses < 4096 = omega arith in
    falls_by job core.arch (held_after (own answer) core.arch.held) seen core.vals.accesses h.count fewer refl (row_played job core.arch seen)
    (over_play (Ends job arch) false (row job arch) 0 0 seen.accesses seen.values (walk_row job arch).walks)
falls_answered job core answer h (Faulted f) a changes w = cc
falls_answered job core answer h (Completed x left values) a changes w = cc

-- a thread that makes an access is nearer to its end
pub falls : (job : JobData) (core : Core) (answer : ℕ) → Waits job core → core.over ≡ None → left_of job (taken job core answer).core (taken job core answer).core.over < left_of job core core.over
unfolding taken
falls job core answer h e =
    subst (λ o. left_of job (taken job core answer).core (taken job core answer).core.over < left_of job core o) (sym e) (falls_answered job core answer h (row_played job core.arch core.vals) h.waits.0 h.waits.1 h.waits.2)
