-- What the first exchange of the kernel's entry leaves, in the row of a thread. Source: own.
use Rattle.std.proofs.Common.{zero, suc, true, false, cond, arith, ap, sym, ◌∙◌, subst}
use Rattle.std.proofs.lemmas.Bool.Decides.{nat_tests}
use Rattle.std.specs.Prelude.{◌≡◌, ℕ, ◌-◌, List, [], ◌∷◌, Bool, Option, Some, None, refl, ◌==◌}
use Rattle.cet_words.specs.Change.{Change, Busied}
use Rattle.cet_words.specs.Layout.{token, token_word, kernel_return}
use Rattle.cet_words.specs.Job.{JobData}
use Rattle.cet_words.specs.declared.accesses.Access.{Access}
use Rattle.cet_words.specs.declared.accesses.Access.TheVariants as access
use Rattle.cet_isa.specs.declared.instructions.Instr.TheVariants as instr
use Rattle.cet_isa.specs.declared.threads.Arch.{Arch}
use Rattle.cet_isa.specs.declared.threads.End.{End}
use Rattle.cet_isa.specs.declared.threads.Fault.{Fault}
use Rattle.cet_isa.specs.declared.threads.Record.{Record}
use Rattle.cet_page.specs.Script.{done, ◌>>=◌, Played, Completed, Wants, play, no_changes, held_after}
use Rattle.cet_page.specs.ValsData.{ValsData, vals_after}
use Rattle.cet_page.specs.Parts.{load_as, read_entry, store_as, store, compare_exchange_as}
use Rattle.cet_page.specs.Gate.{Work, stack_of, busied_if, gate_in, entered, inside, found_busy}
use Rattle.cet_page.specs.Delivery.{fault_delivery, pending_delivery}
use Rattle.cet_page.specs.Posting.{due_signal, pending_signal}
use Rattle.cet_page.specs.Services.{service}
use Rattle.cet_page.specs.Row.{row, row_from, between, after_signals, boundary}
use Rattle.cet_page.specs.Core.{Core, unheld, row_played, wanted, access_of, next_access, core_by, noted_by, answered, taken}
use Rattle.cet_page.specs.Entering.{AtGate, at_syscall, at_signal, at_fault, Enters, gate_exchange}
use Rattle.cet_page.specs.declared.finishes.Finish.{Finish}
use Rattle.cet_page.proofs.RowLaws.{parts_of_row}

-- ---- the kernel's entry, once the page was looked at

abbrev entry_exchange : (k : ℕ) → (ℕ → List Change) → Played Finish
entry_exchange k changes = Wants (gate_exchange k) changes

-- what it comes to by the word found
found_by : Arch → (k found : ℕ) → Bool → Played Finish
found_by arch k found true = Wants (access.Store (token_word k - 1) kernel_return) no_changes
found_by arch k found false = Completed (found_busy arch k found) zero []

exchange_part : (job : JobData) (arch : Arch) (work : Work) (entry : ℕ) → play (entered job arch work) (suc zero) (entry ∷ []) ≡ Wants (gate_exchange (stack_of job arch)) (busied_if (stack_of job arch))
unfolding entered gate_in read_entry compare_exchange_as ◌>>=◌
exchange_part job arch work entry = refl

found_part : (job : JobData) (arch : Arch) (work : Work) (entry found : ℕ) (b : Bool) → (found == token (stack_of job arch)) ≡ b →
    play (entered job arch work) (suc (suc zero)) (entry ∷ found ∷ []) ≡ found_by arch (stack_of job arch) found b
unfolding entered gate_in read_entry store_as compare_exchange_as ◌>>=◌ found_by
found_part job arch work entry found true e =
    ap (λ (b : Bool). play (cond b (store (token_word (stack_of job arch) - 1) kernel_return >>= (λ _. done None)) (done (Some found)) >>= inside arch (stack_of job arch) work) zero []) e
found_part job arch work entry found false e =
    ap (λ (b : Bool). play (cond b (store (token_word (stack_of job arch) - 1) kernel_return >>= (λ _. done None)) (done (Some found)) >>= inside arch (stack_of job arch) work) zero []) e

-- ---- the row of a thread there

-- a pending signal enters the kernel in place of the instruction
signal_part : (job : JobData) (arch : Arch) (signal pending n : ℕ) (values : List ℕ) → arch.due ≡ None → due_signal job arch ≡ None → pending_signal pending arch.mask ≡ Some signal →
    play (row job arch) (suc (suc n)) (0 ∷ pending ∷ values) ≡ play (entered job arch (pending_delivery arch signal)) n values
unfolding boundary load_as ◌>>=◌
signal_part job arch signal pending n values due unposted unmasked =
    ap (λ (d : Option Fault). play (row_from job arch d) (suc (suc n)) (0 ∷ pending ∷ values)) due
    ∙ ap (λ (o : Option ℕ). play (between job arch o) (suc (suc n)) (0 ∷ pending ∷ values)) unposted
    ∙ ap (λ (o : Option ℕ). play (after_signals job arch o) n values) unmasked

-- it has come to the exchange, and each answer leads on in the kernel's entry
record Reached (job : JobData) (core : Core) : Type 0 where
  work : Work
  entry : ℕ
  here : row_played job core.arch core.vals ≡ play (entered job (unheld core.arch) work) (suc zero) (entry ∷ [])
  on : (found : ℕ) → row_played job core.arch (vals_after core.vals (gate_exchange (stack_of job core.arch)) found) ≡ play (entered job (unheld core.arch) work) (suc (suc zero)) (entry ∷ found ∷ [])

reached : (job : JobData) (core : Core) → AtGate job core → Reached job core
reached job core (at_syscall len pending entry due unposted unmasked rip reads seen) =
    let arch = unheld core.arch in
    let part = λ (n : ℕ) (values : List ℕ). parts_of_row.instructions job arch instr.Syscall len pending n values due unposted unmasked rip reads in
    record {
      work = service job arch;
      entry = entry;
      here = ap (row_played job core.arch) seen ∙ part (suc zero) (entry ∷ []);
      on = λ found.
          ap (λ (v : ValsData). row_played job core.arch (vals_after v (gate_exchange (stack_of job core.arch)) found)) seen
          ∙ part (suc (suc zero)) (entry ∷ found ∷ []);
    }
reached job core (at_signal signal pending entry due unposted unmasked seen) =
    let arch = unheld core.arch in
    record {
      work = pending_delivery arch signal;
      entry = entry;
      here = ap (row_played job core.arch) seen ∙ signal_part job arch signal pending (suc zero) (entry ∷ []) due unposted unmasked;
      on = λ found.
          ap (λ (v : ValsData). row_played job core.arch (vals_after v (gate_exchange (stack_of job core.arch)) found)) seen
          ∙ signal_part job arch signal pending (suc (suc zero)) (entry ∷ found ∷ []) due unposted unmasked;
    }
reached job core (at_fault e entry due seen) =
    let arch = unheld core.arch in
    record {
      work = fault_delivery arch e;
      entry = entry;
      here = ap (row_played job core.arch) seen
          ∙ ap (λ (d : Option Fault). play (row_from job arch d) (suc zero) (entry ∷ [])) due;
      on = λ found.
          ap (λ (v : ValsData). row_played job core.arch (vals_after v (gate_exchange (stack_of job core.arch)) found)) seen
          ∙ ap (λ (d : Option Fault). play (row_from job arch d) (suc (suc zero)) (entry ∷ found ∷ [])) due;
    }

awaits : (job : JobData) (core : Core) → Reached job core → row_played job core.arch core.vals ≡ Wants (gate_exchange (stack_of job core.arch)) (busied_if (stack_of job core.arch))
awaits job core r = r.here ∙ exchange_part job (unheld core.arch) r.work r.entry

next_is : (job : JobData) (core : Core) (a : Access) (changes : ℕ → List Change) (over : Option End) → over ≡ None → row_played job core.arch core.vals ≡ Wants a changes → access_of job core over ≡ Some a
next_is job core a changes None e w = ap wanted w
next_is job core a changes (Some end) e w = cc

-- what the thread holds by the word found
abbrev held_found : Core → (k : ℕ) → Bool → Option ℕ
held_found core k b = held_after (cond b (Busied k ∷ []) []) core.arch.held

-- what is taken, by the word found
taken_by : (job : JobData) (core : Core) (found : ℕ) (b : Bool) (r : Reached job core) → (found == token (stack_of job core.arch)) ≡ b
    → ((taken job core found).noted ≡ noted_by core.arch (found_by (unheld core.arch) (stack_of job core.arch) found b))
    × ((taken job core found).core ≡ core_by job core.arch (held_found core (stack_of job core.arch) b) (vals_after core.vals (gate_exchange (stack_of job core.arch)) found) (found_by (unheld core.arch) (stack_of job core.arch) found b))
    × (row_played job core.arch (vals_after core.vals (gate_exchange (stack_of job core.arch)) found) ≡ found_by (unheld core.arch) (stack_of job core.arch) found b)
unfolding taken
taken_by job core found b r e =
    let k = stack_of job core.arch in
    let seen = vals_after core.vals (gate_exchange k) found in
    let came : row_played job core.arch seen ≡ found_by (unheld core.arch) k found b = r.on found ∙ found_part job (unheld core.arch) r.work r.entry found b e in (
      ap (λ (p : Played Finish). (answered job core found p).noted) (awaits job core r) ∙ ap (noted_by core.arch) came,
      ap (λ (p : Played Finish). (answered job core found p).core) (awaits job core r)
          ∙ ap (λ (b : Bool). core_by job core.arch (held_found core k b) seen (row_played job core.arch seen)) e
          ∙ ap (core_by job core.arch (held_found core k b) seen) came,
      came,
    )

enters : (job : JobData) (core : Core) (answer : ℕ) → core.over ≡ None → AtGate job core → Enters job core (taken job core answer).core answer (taken job core answer).noted
unfolding next_access found_by
enters job core answer going at =
    let r = reached job core at in
    let k = stack_of job core.arch in
    record {
      exchange = next_is job core (gate_exchange k) (busied_if k) core.over going (awaits job core r);
      takes = λ free.
          let same : (answer == token (stack_of job core.arch)) ≡ true = grind (arith, nat_tests, free) in
          let t = taken_by job core answer true r same in (
            t.0,
            ap (λ (c : Core). c.arch) t.1,
            ap (λ (c : Core). access_of job c c.over) t.1 ∙ ap wanted t.2,
          );
      waits = λ busy.
          let other : (answer == token (stack_of job core.arch)) ≡ false = grind (arith, nat_tests, busy) in
          let t = taken_by job core answer false r other in
          (t.0, t.1);
    }

-- the same of a thread and a record by other names
pub enters_of : (job : JobData) (core new : Core) (answer : ℕ) (noted : Option Record)
    → core.over ≡ None → new ≡ (taken job core answer).core → noted ≡ (taken job core answer).noted
    → AtGate job core → Enters job core new answer noted
enters_of job core new answer noted going e n at =
    subst (λ c. Enters job core c answer noted) (sym e)
    (subst (λ r. Enters job core (taken job core answer).core answer r) (sym n) (enters job core answer going at))
