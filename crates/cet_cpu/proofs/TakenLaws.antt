-- What an answer leaves, by the mark of the access that it is given to. Source: own.
use Rattle.std.proofs.Common.{◌≡◌, ℕ, refl, ap, sym, ◌∙◌, Option}
use Rattle.cet_words.specs.Job.{JobData}
use Rattle.cet_words.specs.declared.accesses.Access.{Access}
use Rattle.cet_isa.specs.declared.threads.Arch.{Arch}
use Rattle.cet_page.specs.Core.{Core, answered, core_by, row_played, taken}
use Rattle.cet_page.specs.Plays.{Wanted, held_by}
use Rattle.cet_page.specs.Script.{Played, Completed, Faulted, Wants}
use Rattle.cet_page.specs.ValsData.{ValsData, vals_after}
use Rattle.cet_page.specs.declared.cursors.Mark.{Mark}
use Rattle.cet_page.specs.declared.finishes.Finish.{Finish}
use Rattle.cet_page.specs.declared.finishes.Finish.TheVariants as finish

-- the supervisor stack that is held tells nothing of a state in which another is held afterwards
core_held : (job : JobData) (arch : Arch) (h : Option ℕ) (seen : ValsData) (p : Played Finish) → core_by job (record arch { held = h }) h seen p ≡ core_by job arch h seen p
core_held job arch h seen (Wants a changes) = refl
core_held job arch h seen (Faulted e) = refl
core_held job arch h seen (Completed (finish.Noted next noted) left values) = refl
core_held job arch h seen (Completed (finish.Posted next) left values) = refl
core_held job arch h seen (Completed (finish.Exited next noted status) left values) = refl
core_held job arch h seen (Completed finish.Stopped left values) = refl

abbrev held : Arch → Mark → ℕ → Arch
held arch mark answer = record arch { held = held_by mark answer arch.held }

answered_core : (job : JobData) (core : Core) (answer : ℕ) (p : Played Finish) (a : Access) (mark : Mark) → Wanted p a mark
    → core_by job (held core.arch mark answer) (held_by mark answer core.arch.held) (vals_after core.vals a answer) (row_played job (held core.arch mark answer) (vals_after core.vals a answer))
    ≡ (answered job core answer p).core
answered_core job core answer (Wants b changes) a mark w =
    core_held job core.arch (held_by mark answer core.arch.held) (vals_after core.vals a answer) (row_played job core.arch (vals_after core.vals a answer))
    ∙ ap (λ (h : Option ℕ). core_by job core.arch h (vals_after core.vals a answer) (row_played job core.arch (vals_after core.vals a answer))) (sym (w.1.0 answer core.arch.held))
    ∙ ap (λ (x : Access). (answered job core answer (Wants x changes)).core) (sym w.0)
answered_core job core answer (Faulted e) a mark w = absurd w
answered_core job core answer (Completed x left values) a mark w = absurd w

-- the thread after the answer is what its row comes to then
pub taken_core : (job : JobData) (core : Core) (answer : ℕ) (a : Access) (mark : Mark) → Wanted (row_played job core.arch core.vals) a mark
    → core_by job (held core.arch mark answer) (held_by mark answer core.arch.held) (vals_after core.vals a answer) (row_played job (held core.arch mark answer) (vals_after core.vals a answer))
    ≡ (taken job core answer).core
unfolding taken
taken_core job core answer a mark w = answered_core job core answer (row_played job core.arch core.vals) a mark w
