-- What a row wants between two instructions, before it has anything to do with the instruction. Source: own.
use Rattle.std.proofs.Common.{◌≡◌, ℕ, ◌<◌, Option, None, ap, sym, subst, refl, arith}
use Rattle.std.specs.Prelude.{List, [], ◌∷◌, length, slice_index}
use Rattle.cet_words.specs.Layout.{exit_word, pend_word, thread_limit}
use Rattle.cet_words.specs.Job.{JobData}
use Rattle.cet_words.specs.declared.accesses.Access.TheVariants as access
use Rattle.cet_isa.specs.declared.threads.Arch.{Arch}
use Rattle.cet_isa.specs.declared.threads.Fault.{Fault}
use Rattle.cet_page.specs.Core.{row_played, unheld}
use Rattle.cet_page.specs.Script.{Script, play, no_changes}
use Rattle.cet_page.specs.Parts.{load_as}
use Rattle.cet_page.specs.Plays.{Wanted, Marks}
use Rattle.cet_page.specs.Posting.{due_signal}
use Rattle.cet_page.specs.Row.{row, row_from, between, boundary}
use Rattle.cet_page.specs.ValsData.{ValsData}
use Rattle.cet_page.specs.declared.cursors.Mark.TheVariants as marks
use Rattle.cet_page.specs.declared.finishes.Finish.{Finish}

plain : Marks marks.Plain no_changes
plain = (λ answer held. refl, λ answer. refl)

-- nothing is due, so the row is the boundary's
pub at_boundary : (job : JobData) (arch : Arch) → arch.due ≡ None → due_signal job arch ≡ None → row job arch ≡ boundary job arch
at_boundary job arch fault signal =
    subst (λ (o : Option Fault). row_from job arch o ≡ boundary job arch) (sym fault)
    (subst (λ (o : Option ℕ). between job arch o ≡ boundary job arch) (sym signal) refl)

exit_first : (job : JobData) (arch : Arch) (values : List ℕ) → Wanted (play (boundary job arch) 0 values) (access.Load exit_word) marks.Plain
unfolding boundary load_as Rattle.cet_page.specs.Script.◌>>=◌
exit_first job arch values = (refl, plain, omega arith)

pend_next : (job : JobData) (arch : Arch) → arch.number < thread_limit → Wanted (play (boundary job arch) 1 (0 ∷ [])) (access.Load (pend_word arch.number)) marks.Plain
unfolding boundary load_as Rattle.cet_page.specs.Script.◌>>=◌
pend_next job arch l = (refl, plain, omega arith)

-- the first access is the load of EXIT
pub wants_exit : (job : JobData) (arch : Arch) (seen : ValsData) → seen.accesses ≡ 0 → arch.due ≡ None → due_signal job arch ≡ None
    → Wanted (row_played job arch seen) (access.Load exit_word) marks.Plain
wants_exit job arch seen none fault signal =
    let at_start : Wanted (play (row job (unheld arch)) 0 seen.values) (access.Load exit_word) marks.Plain =
    subst (λ (s : Script Finish). Wanted (play s 0 seen.values) (access.Load exit_word) marks.Plain)
    (sym (at_boundary job (unheld arch) fault signal)) (exit_first job (unheld arch) seen.values) in
    subst (λ (n : ℕ). Wanted (play (row job (unheld arch)) n seen.values) (access.Load exit_word) marks.Plain) (sym none) at_start

one_zero : (values : List ℕ) → length values ≡ 1 → slice_index values 0 ≡ 0 → values ≡ 0 ∷ []
one_zero [] l v = let no : ⊥ = omega arith in absurd no
one_zero (x ∷ []) l v = ap (λ (n : ℕ). n ∷ []) v
one_zero (x ∷ y ∷ rest) l v = let no : ⊥ = omega arith in absurd no

-- and where that answered 0, the second is the load of PEND
pub wants_pend : (job : JobData) (arch : Arch) (seen : ValsData) → arch.number < thread_limit → seen.accesses ≡ 1 → length seen.values ≡ 1 → slice_index seen.values 0 ≡ 0 → arch.due ≡ None → due_signal job arch ≡ None
    → Wanted (row_played job arch seen) (access.Load (pend_word arch.number)) marks.Plain
wants_pend job arch seen l one kept zero fault signal =
    let behind_one : Wanted (play (row job (unheld arch)) 1 (0 ∷ [])) (access.Load (pend_word arch.number)) marks.Plain =
    subst (λ (s : Script Finish). Wanted (play s 1 (0 ∷ [])) (access.Load (pend_word arch.number)) marks.Plain)
    (sym (at_boundary job (unheld arch) fault signal)) (pend_next job (unheld arch) l) in
    let with_values : Wanted (play (row job (unheld arch)) 1 seen.values) (access.Load (pend_word arch.number)) marks.Plain =
    subst (λ (values : List ℕ). Wanted (play (row job (unheld arch)) 1 values) (access.Load (pend_word arch.number)) marks.Plain) (sym (one_zero seen.values kept zero)) behind_one in
    subst (λ (n : ℕ). Wanted (play (row job (unheld arch)) n seen.values) (access.Load (pend_word arch.number)) marks.Plain) (sym one) with_values
