-- A thread in the kernel, and what its work leads to: the way out, and the end of the row. Source: own.
use Rattle.std.proofs.Common.{◌≡◌, ℕ, ◌-◌, ◌<◌, Bool, true, false, List, [], ◌∷◌, Option, Some, None, refl}
use Rattle.std.specs.Prelude.{if◌then◌else◌}
use Rattle.cet_words.specs.Job.{JobData}
use Rattle.cet_words.specs.Layout.{page_at, token_word}
use Rattle.cet_words.specs.declared.accesses.Access.TheVariants as access
use Rattle.cet_isa.specs.declared.threads.Arch.{Arch}
use Rattle.cet_isa.specs.declared.threads.Record.{Record}
use Rattle.cet_page.specs.Gate.{failed, leave, serve}
use Rattle.cet_page.specs.Page.{allows}
use Rattle.cet_page.specs.Parts.{probe, probe_in}
use Rattle.cet_page.specs.Script.{Script, ◌>>=◌}
use Rattle.cet_page.specs.Trail.{Visit, visit}
use Rattle.cet_page.specs.declared.checks.Kind.{Kind}
use Rattle.cet_page.specs.declared.checks.Who.{Who}
use Rattle.cet_page.specs.declared.finishes.Leaving.{Leaving}
use Rattle.cet_page.specs.declared.services.Errno.{Errno}
use Rattle.cet_book.specs.Relied.{Relies}
use Rattle.cet_own.specs.Past.{left_in}
use Rattle.cet_own.specs.Safe.{IsElsewhere}
use Rattle.cet_own.specs.Facts.{IsEntry}
use Rattle.cet_own.specs.Threads.{Ends}
use Rattle.cet_own.proofs.Classes.{looks}
use Rattle.cet_own.proofs.GateParts.{gate_out_then}
use Rattle.cet_own.specs.Owed.{State, Known, own_stack}
use Rattle.cet_own.proofs.Parts.{Claim, claim_bind}
use Rattle.cet_own.proofs.Progress.{Progress, progress}
use Rattle.cet_own.proofs.Resting.{Inside, inside_kept, inside_stacked, rested}

-- the row has drawn pages, or a thread's number
abbrev pub counted_by : (drawing numbering : Bool) → Progress
counted_by drawing numbering = record { framed = false; drawing = drawing; numbering = numbering }

module _ (job : JobData) (arch : Arch) (l : own_stack job arch.number < 8) where
  -- it has left the kernel's return address below its token, and the row has done d
  abbrev pub Within : Progress → List Visit → State → Type 0
  Within d past s = Inside arch.number (own_stack job arch.number) d (progress past) (left_in past (token_word (own_stack job arch.number) - 1)) s.book arch.ssp

  abbrev pub Leaves : List Visit → State → State → Arch × Record × Leaving → Type 0
  Leaves past before s x = Claim job arch (Ends job arch) past before s (leave (own_stack job arch.number) x)

  pub serve_claim : {drawing numbering : Bool} (past : List Visit) (before s : State) (result : ℕ) → IsElsewhere job arch → Within (counted_by drawing numbering) past s → Leaves past before s (serve arch result)
  serve_claim past before s result free within =
      gate_out_then job arch l (Ends job arch) past before s _ within (λ p z n rest. (rested rest, λ held now. free, tt))

  pub failed_claim : {drawing numbering : Bool} (past : List Visit) (before s : State) (error : Errno) → IsElsewhere job arch → Within (counted_by drawing numbering) past s → Leaves past before s (failed arch error)
  failed_claim past before s error free within = serve_claim past before s _ free within

  -- A look that doesn't fault: the page's number, where its entry allows the access, or none.
  probed : {A : Type 0} {d : Progress} (Q : List Visit → State → State → A → Type 0) (past : List Visit) (now : State) (kd : Kind) (w : Who) (page v : ℕ) (f : Option ℕ → Script A) (c : Bool) →
      allows v kd w ≡ c → Within d past now → (Within d past now → Claim job arch Q past now now (f None)) →
      (allows v kd w ≡ true → Within d past now → Claim job arch Q past now now (f (Some page))) → Claim job arch Q past now now (f (if c then Some page else None))
  probed Q past now kd w page v f true e within none some = some e within
  probed Q past now kd w page v f false e within none some = none within

  -- with the page's number and entry
  probe_at : {A : Type 0} {d : Progress} (Q : List Visit → State → State → A → Type 0) (past : List Visit) (before s : State) (at : Option ℕ) (kd : Kind) (w : Who) (f : Option ℕ → Script A) →
      Within d past s → ((p : List Visit) (z n : State) → Within d p n → Claim job arch Q p z n (f None)) →
      ((p : List Visit) (z n : State) (page v : ℕ) → at ≡ Some page → Relies arch.number s.book n.book → Known job.image arch.number past n.book (access.Look page) v → allows v kd w ≡ true →
      Within d p n → Claim job arch Q p z n (f (Some page))) → Claim job arch (λ p z n x. Claim job arch Q p z n (f x)) past before s (probe_in at kd w)
  unfolding probe_in
  probe_at Q past before s None kd w f within none some = none past before s within
  probe_at {d = d} Q past before s (Some page) kd w f within none some = (
    inside_stacked within,
    λ now r v known. (
      looks page refl refl,
      now,
      refl,
      probed {d = d} Q (visit (access.Look page) v [] ∷ past) now kd w page v f (allows v kd w) refl (inside_kept r within)
          (λ within1. none _ now now within1) (λ a within1. some _ now now page v refl r known a within1),
    ),
  )

  pub probe_known : {A : Type 0} {d : Progress} (Q : List Visit → State → State → A → Type 0) (past : List Visit) (before s : State) (kd : Kind) (w : Who) (addr : ℕ) (f : Option ℕ → Script A) →
      Within d past s → ((p : List Visit) (z n : State) → Within d p n → Claim job arch Q p z n (f None)) →
      ((p : List Visit) (z n : State) (page v : ℕ) → page_at addr ≡ Some page → Relies arch.number s.book n.book → Known job.image arch.number past n.book (access.Look page) v → allows v kd w ≡ true →
      Within d p n → Claim job arch Q p z n (f (Some page))) → Claim job arch Q past before s (probe kd w addr >>= f)
  unfolding probe
  probe_known Q past before s kd w addr f within none some = claim_bind job arch Q past before s (probe kd w addr) f (probe_at Q past before s (page_at addr) kd w f within none some)

  pub probe_then : {A : Type 0} {d : Progress} (Q : List Visit → State → State → A → Type 0) (past : List Visit) (before s : State) (kd : Kind) (w : Who) (addr : ℕ) (f : Option ℕ → Script A) →
      Within d past s → ((p : List Visit) (z n : State) → Within d p n → Claim job arch Q p z n (f None)) →
      ((p : List Visit) (z n : State) (page v : ℕ) → IsEntry job.image page v → allows v kd w ≡ true → Within d p n → Claim job arch Q p z n (f (Some page))) →
      Claim job arch Q past before s (probe kd w addr >>= f)
  probe_then {d = d} Q past before s kd w addr f within none some = probe_known {d = d} Q past before s kd w addr f within none (λ p z n page v at r known a within1. some p z n page v (known.entry page refl) a within1)
