-- What a fault leaves, for each row and for each answer. Source: own.
use Rattle.std.proofs.Common.{arith, zero, suc, true, false, ap, sym, ◌∙◌, subst}
use Rattle.std.specs.Prelude.{◌≡◌, ℕ, ◌+◌, Bool, List, [], ◌∷◌, Option, Some, None, refl, All}
use Rattle.std.proofs.lemmas.List.Elements.{All-nil, All-cons}
use Rattle.cet_words.specs.Access.{answer, after}
use Rattle.cet_words.specs.Change.{Change}
use Rattle.cet_words.specs.Job.{JobData}
use Rattle.cet_words.specs.declared.accesses.Access.{Access}
use Rattle.cet_words.specs.declared.accesses.Access.TheVariants as access
use Rattle.cet_isa.specs.declared.instructions.Instr.{Instr}
use Rattle.cet_isa.specs.declared.threads.Arch.{Arch}
use Rattle.cet_isa.specs.declared.threads.End.{End}
use Rattle.cet_isa.specs.declared.threads.Fault.{Fault}
use Rattle.cet_isa.specs.declared.threads.FaultName.{FaultName}
use Rattle.cet_isa.specs.declared.threads.Record.{Record}
use Rattle.cet_isa.specs.declared.threads.What.TheVariants as what
use Rattle.cet_page.specs.Script.{Script, done, fault, ask, tell, Played, Completed, Faulted, Wants, play, held_after}
use Rattle.cet_page.specs.ValsData.{vals_after, kept_after}
use Rattle.cet_page.specs.Within.{Waits, IsCore}
use Rattle.cet_page.proofs.WithinLaws.{spent, shows_next, waiting}
use Rattle.cet_page.specs.Trail.{Visit, visit, trail, vals_of, row_trail}
use Rattle.cet_page.specs.Faults.{KeepsWords, Faults}
use Rattle.cet_page.specs.Row.{row}
use Rattle.cet_page.specs.Core.{Core, unheld, row_played, wanted, access_of, next_access, core_by, noted_by, answered, taken}
use Rattle.cet_page.proofs.Walk.{Walks, OnOver, over_play, writes, moves, acted, unacted, none_written, still_at, held_still}
use Rattle.cet_page.proofs.WalkRows.{EndsRow, Ends, tells, walk_row, walk_arithmetic, walk_flow, walk_shadow_stacks}
use Rattle.cet_page.specs.Arithmetic.{arithmetic}
use Rattle.cet_page.specs.ShadowStacks.{shadow_stacks}
use Rattle.cet_page.specs.Flow.{flow}
use Rattle.cet_page.specs.Plays.{next_of}
use Rattle.cet_page.proofs.PlayLaws.{faulted_of}
use Rattle.cet_page.specs.declared.nexts.Next.TheVariants as nexts
use Rattle.cet_page.specs.declared.finishes.Finish.{Finish}
use Rattle.cet_page.specs.declared.finishes.Finish.TheVariants.{Noted, Posted, Exited, Stopped}

-- an access that writes nothing changes no word
unwritten_words : (words : List ℕ) (a : Access) → writes a (answer words a) ≡ false → after words a ≡ words
unwritten_words words (access.Look page) e = refl
unwritten_words words (access.Load word) e = refl
unwritten_words words (access.Store word value) e = cc
unwritten_words words (access.Swap word value) e = cc
unwritten_words words (access.FetchAdd word value) e = cc
unwritten_words words (access.FetchOr word value) e = cc
unwritten_words words (access.FetchAnd word value) e = cc
unwritten_words words (access.CompareExchange word expected value) e = rw e refl

keeps_words : (a : Access) (v : ℕ) (changes : List Change) → writes a v ≡ false → KeepsWords (visit a v changes)
keeps_words a v changes e words h = unwritten_words words a (ap (writes a) h ∙ e)

-- a script that has come to a fault has changed no word, where nothing before it has
clean_from : {A : Type 0} (P : A → Type 0) (wrote : Bool) (s : Script A) (n k i : ℕ) (values : List ℕ) (past : List Visit) (e : Fault) → Walks n k wrote P s → play s i values ≡ Faulted e →
    All KeepsWords past → All KeepsWords (trail i s values past)
clean_from P wrote (done x) n k i values past e h p c = cc
clean_from P wrote (fault f) n k zero values past e h p c = c
clean_from P wrote (fault f) n k (suc i) values past e h p c = c
clean_from P wrote (ask a changes s) n k zero values past e h p c = cc
clean_from P wrote (ask a changes s) n k (suc i) [] past e h p c = cc
clean_from P wrote (ask a changes s) n k (suc i) (v ∷ vs) past e h p c =
    let g = h.1 v in
    let w = unacted P (acted wrote a v (changes v)) (s v) (n + 1) (k + 1) i vs e g.1 p in
    clean_from P (acted wrote a v (changes v)) (s v) (n + 1) (k + 1) i vs (visit a v (changes v) ∷ past) e g.1 p
    (All-cons KeepsWords (visit a v (changes v)) past (keeps_words a v (changes v) (none_written wrote (moves (changes v)) (writes a v) w)) c)
clean_from P wrote (tell word value changes s) n k zero values past e h p c = cc
clean_from P wrote (tell word value changes s) n k (suc i) values past e h p c = absurd (let w = unacted P true s (n + 1) k i values e h.1 p in cc)

fault_clean : {A : Type 0} (P : A → Type 0) (s : Script A) (n k i : ℕ) (values : List ℕ) (e : Fault) → Walks n k false P s → play s i values ≡ Faulted e → All KeepsWords (trail i s values [])
fault_clean P s n k i values e h p = clean_from P false s n k i values [] e h p (All-nil KeepsWords)

-- an instruction that faults next has written nothing
pub arithmetic_clean : (arch : Arch) (i : Instr) (next n : ℕ) (values : List ℕ) (e : Fault) → next_of (play (arithmetic arch i next) n values) ≡ nexts.Fault e → All KeepsWords (trail n (arithmetic arch i next) values [])
arithmetic_clean arch i next n values e h = fault_clean (EndsRow arch) (arithmetic arch i next) 2 2 n values e (walk_arithmetic arch i next).walks (faulted_of _ e h)

pub flow_clean : (arch : Arch) (i : Instr) (next n : ℕ) (values : List ℕ) (e : Fault) → next_of (play (flow arch i next) n values) ≡ nexts.Fault e → All KeepsWords (trail n (flow arch i next) values [])
flow_clean arch i next n values e h = fault_clean (EndsRow arch) (flow arch i next) 2 2 n values e (walk_flow arch i next).walks (faulted_of _ e h)

pub shadow_stacks_clean : (arch : Arch) (i : Instr) (next n : ℕ) (values : List ℕ) (e : Fault) → next_of (play (shadow_stacks arch i next) n values) ≡ nexts.Fault e → All KeepsWords (trail n (shadow_stacks arch i next) values [])
shadow_stacks_clean arch i next n values e h = fault_clean (EndsRow arch) (shadow_stacks arch i next) 2 2 n values e (walk_shadow_stacks arch i next).walks (faulted_of _ e h)

-- ---- what the answer to an access leaves

same_access : (job : JobData) (core : Core) (over : Option End) (a b : Access) (own : ℕ → List Change) → row_played job core.arch core.vals ≡ Wants b own → access_of job core over ≡ Some a → a ≡ b
same_access job core (Some e) a b own w h = cc
same_access job core None a b own w h =
    let o : wanted (row_played job core.arch core.vals) ≡ Some b = ap wanted w in
    cc

came_faults : (job : JobData) (core : Core) (answer : ℕ) (b : Access) (own : ℕ → List Change) (r : Record) (name : FaultName) (c : Played Finish) → Waits job core →
    row_played job core.arch core.vals ≡ Wants b own → row_played job core.arch (vals_after core.vals b answer) ≡ c → OnOver (Ends job (unheld core.arch)) c → noted_by core.arch c ≡ Some r →
    r.what ≡ what.Fault name → Faults job core (core_by job core.arch (held_after (own answer) core.arch.held) (vals_after core.vals b answer) c) answer r
unfolding next_access
came_faults job core answer b own r name (Wants a changes) h w e o n f = cc
came_faults job core answer b own r name (Faulted x) h w e o n f = record {
  fault = x;
  noted = cc;
  arch =
      let start = unheld core.arch in
      let more : core.vals.accesses + 1 ≡ suc core.vals.accesses = omega arith in
      let left = still_at (Ends job start) false (row job start) 0 0 core.vals.accesses core.vals.values b own answer x (walk_row job start).walks (spent job core h) w
      (subst (λ (k : ℕ). play (row job start) k (kept_after core.vals.values b answer) ≡ Faulted x) more e) in
      ap (λ (held : Option ℕ). record core.arch { count = core.arch.count + 1; due = Some x; held = held }) (held_still (own answer) core.arch.held left);
  accesses = λ a next.
      subst (λ y. vals_of (row_trail job core.arch (vals_after core.vals y answer)) ≡ vals_after core.vals y answer) (sym (same_access job core core.over a b own w next)) (shows_next job core b own answer h w);
  words = λ a next.
      let start = unheld core.arch in
      let clean = fault_clean (Ends job start) (row job start) 0 0 (vals_after core.vals b answer).accesses (vals_after core.vals b answer).values x (walk_row job start).walks e in
      subst (λ y. All KeepsWords (row_trail job core.arch (vals_after core.vals y answer))) (sym (same_access job core core.over a b own w next)) clean;
}
came_faults job core answer b own r name (Completed (Noted next noted) left values) h w e o n f = let t : tells noted.what ≡ false =
    (let same : noted ≡ r = cc in ap (λ (x : Record). tells x.what) same ∙ ap tells f) in let u = o.tells in cc
came_faults job core answer b own r name (Completed (Posted next) left values) h w e o n f = cc
came_faults job core answer b own r name (Completed (Exited next noted status) left values) h w e o n f = let t : tells noted.what ≡ false =
    (let same : noted ≡ r = cc in ap (λ (x : Record). tells x.what) same ∙ ap tells f) in let u = o.tells in cc
came_faults job core answer b own r name (Completed Stopped left values) h w e o n f = cc

answered_faults : (job : JobData) (core : Core) (answer : ℕ) (r : Record) (name : FaultName) (c : Played Finish) → Waits job core → row_played job core.arch core.vals ≡ c →
    (answered job core answer c).noted ≡ Some r → r.what ≡ what.Fault name → Faults job core (answered job core answer c).core answer r
answered_faults job core answer r name (Wants b own) h w n f =
    let seen = vals_after core.vals b answer in
    came_faults job core answer b own r name (row_played job core.arch seen) h w refl (over_play (Ends job (unheld core.arch)) false (row job (unheld core.arch)) 0 0 seen.accesses seen.values (walk_row job (unheld core.arch)).walks) n f
answered_faults job core answer r name (Faulted e) h w n f = cc
answered_faults job core answer r name (Completed x left values) h w n f = cc

taken_faults : (job : JobData) (core : Core) (answer : ℕ) (r : Record) (name : FaultName) → Waits job core → (taken job core answer).noted ≡ Some r → r.what ≡ what.Fault name →
    Faults job core (taken job core answer).core answer r
unfolding taken
taken_faults job core answer r name h n f = answered_faults job core answer r name (row_played job core.arch core.vals) h refl n f

-- the same of a thread and a record by other names
pub faults_of : (job : JobData) (core new : Core) (answer : ℕ) (noted : Option Record) → IsCore job core → core.over ≡ None → new ≡ (taken job core answer).core →
    noted ≡ (taken job core answer).noted → (r : Record) (name : FaultName) → noted ≡ Some r → r.what ≡ what.Fault name → Faults job core new answer r
faults_of job core new answer noted state going e n r name s f =
    subst (λ c. Faults job core c answer r) (sym e) (taken_faults job core answer r name (waiting job core state going) (sym n ∙ s) f)
