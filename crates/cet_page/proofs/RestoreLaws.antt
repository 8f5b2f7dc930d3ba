-- What the exchange of RSTORSSP leaves, in the row of a thread. Source: own.
use Rattle.std.proofs.Common.{zero, suc, true, false, cond, arith, ap, sym, ◌∙◌, subst}
use Rattle.std.proofs.lemmas.Bool.Decides.{nat_tests}
use Rattle.std.specs.Int.{w64, cast_unsigned}
use Rattle.std.specs.Prelude.{◌≡◌, ◌≢◌, ℕ, ◌+◌, ◌*◌, ◌%◌, ◌^◌, List, [], ◌∷◌, Bool, Option, Some, None, refl, ◌==◌, if◌then◌else◌}
use Rattle.cet_words.specs.Change.{Change, Acquired}
use Rattle.cet_words.specs.Layout.{page_at}
use Rattle.cet_words.specs.Job.{JobData}
use Rattle.cet_isa.specs.Address.{canonical}
use Rattle.cet_words.specs.declared.accesses.Access.{Access}
use Rattle.cet_isa.specs.Reading.{Decoding, Read, Short, Unknown, decoded}
use Rattle.cet_isa.specs.declared.instructions.Base.{Base}
use Rattle.cet_isa.specs.declared.instructions.Base.TheVariants as bases
use Rattle.cet_isa.specs.declared.instructions.Instr.TheVariants as instr
use Rattle.cet_isa.specs.declared.instructions.Mem.{Mem}
use Rattle.cet_isa.specs.declared.instructions.Reg.{Reg}
use Rattle.cet_isa.specs.declared.threads.Arch.{Arch}
use Rattle.cet_isa.specs.declared.threads.End.{End}
use Rattle.cet_isa.specs.declared.threads.Record.{Record}
use Rattle.cet_page.specs.Script.{Script, done, fault, ask, ◌>>=◌, Played, Completed, Faulted, Wants, play, no_changes, held_after}
use Rattle.cet_page.specs.ValsData.{ValsData, vals_after}
use Rattle.cet_page.specs.Parts.{general_protection, check_address_as, look_in_as, look_as, look, compare_exchange_as}
use Rattle.cet_page.specs.Page.{allows, page_fault}
use Rattle.cet_page.specs.Operands.{base_address, index_value, effective}
use Rattle.cet_page.specs.Tokens.{restore_token_at}
use Rattle.cet_page.specs.Finish.{Row, noted}
use Rattle.cet_page.specs.Row.{row, execute, address_after, instruction_bytes, next_address}
use Rattle.cet_page.specs.ShadowStacks.{acquired_if, restored, no_restore_token, rstorssp}
use Rattle.cet_page.specs.Core.{Core, unheld, row_played, wanted, access_of, next_access, core_by, noted_by, answered, taken}
use Rattle.cet_page.specs.Restoring.{AtRestore, Restores, token_exchange, missed_token}
use Rattle.cet_page.specs.declared.checks.Kind.TheVariants as kind
use Rattle.cet_page.specs.declared.checks.Who.TheVariants.{User}
use Rattle.cet_page.specs.declared.finishes.Finish.{Finish}
use Rattle.cet_page.specs.declared.finishes.Finish.TheVariants.{Noted}
use Rattle.cet_page.proofs.RowLaws.{parts_of_row}

-- what follows the exchange
abbrev found_part : Arch → (p next found : ℕ) → Row
found_part arch p next found = if found == restore_token_at p then done (restored arch p next) else fault (no_restore_token p found)

-- what follows the look
abbrev exchange_part : Arch → (p next page : ℕ) → Script Finish
exchange_part arch p next page = ask (token_exchange arch p page) (acquired_if p) (λ found. found_part arch p next found >>= noted)

-- the same, before it is noted
looked : Arch → (p next page : ℕ) → Row
looked arch p next page = ask (token_exchange arch p page) (acquired_if p) (found_part arch p next)

-- the tests pass, and so does the look
restore_part : (arch : Arch) (p next page entry n : ℕ) (values : List ℕ)
    → canonical p ≡ true → p % 8 ≡ 0 → page_at p ≡ Some page → allows entry kind.ShadowStore User ≡ true
    → play (rstorssp arch p next >>= noted) (suc n) (entry ∷ values) ≡ play (exchange_part arch p next page) n values
unfolding rstorssp check_address_as look_as look_in_as compare_exchange_as ◌>>=◌ looked
restore_part arch p next page entry n values reached aligned within passed =
    let checked = λ (s : Script (Unit {0})). play (s >>= (λ _. look kind.ShadowStore User p >>= looked arch p next) >>= noted) (suc n) (entry ∷ values) in
    ap (λ (b : Bool). checked (cond b (cond (p % 8 == 0) (done tt) (fault general_protection)) (fault general_protection))) reached
    ∙ ap (λ (k : ℕ). checked (cond (k == 0) (done tt) (fault general_protection))) aligned
    ∙ ap (λ (at : Option ℕ). play (look_in_as no_changes at kind.ShadowStore User p >>= looked arch p next >>= noted) (suc n) (entry ∷ values)) within
    ∙ ap (λ (b : Bool). play (cond b (done page) (fault (page_fault entry kind.ShadowStore User p)) >>= looked arch p next >>= noted) n values) passed

-- ---- neither the operand's address nor that of the next instruction depends on the supervisor stack that is held

base_unheld : (arch : Arch) (next : ℕ) (b : Base) → base_address (unheld arch) next b ≡ base_address arch next b
base_unheld arch next bases.None = refl
base_unheld arch next bases.Rip = refl
base_unheld arch next (bases.Reg r) = refl

index_unheld : (arch : Arch) (r : Option Reg) → index_value (unheld arch) r ≡ index_value arch r
index_unheld arch None = refl
index_unheld arch (Some r) = refl

address_unheld : (arch : Arch) (m : Mem) (next : ℕ) → effective (unheld arch) m next ≡ effective arch m next
address_unheld arch m next =
    ap (λ (b : ℕ). (b + index_value (unheld arch) m.index * m.scale + cast_unsigned w64 m.disp) % 2 ^ 64) (base_unheld arch next m.base)
    ∙ ap (λ (i : ℕ). (base_address arch next m.base + i * m.scale + cast_unsigned w64 m.disp) % 2 ^ 64) (index_unheld arch m.index)

after_unheld : (arch : Arch) (d : Decoding) → address_after (unheld arch) d ≡ address_after arch d
after_unheld arch (Read i len) = refl
after_unheld arch Short = refl
after_unheld arch Unknown = refl

-- ---- the row of a thread at RSTORSSP

row_part : (job : JobData) (core : Core) (p n : ℕ) (values : List ℕ) (h : AtRestore job core p)
    → play (row job (unheld core.arch)) (suc (suc (suc n))) (0 ∷ h.pending ∷ h.entry ∷ values) ≡ play (exchange_part (unheld core.arch) p (next_address job core.arch) h.page) n values
row_part job core p n values h =
    let arch = unheld core.arch in
    let i = instr.Rstorssp h.operand in
    let next = next_address job core.arch in
    let same : next_address job arch ≡ next = after_unheld core.arch (decoded (instruction_bytes job core.arch)) in
    let there : effective arch h.operand next ≡ p = address_unheld core.arch h.operand next ∙ h.address in
    parts_of_row.instructions job arch i h.len h.pending (suc n) (h.entry ∷ values) h.due h.unposted h.unmasked h.rip h.reads
    ∙ ap (λ (k : ℕ). play (execute job arch i k) (suc n) (h.entry ∷ values)) same
    ∙ ap (λ (q : ℕ). play (rstorssp arch q next >>= noted) (suc n) (h.entry ∷ values)) there
    ∙ restore_part arch p next h.page h.entry n values h.reached h.aligned h.within h.passed

-- it waits for the exchange
awaits : (job : JobData) (core : Core) (p : ℕ) (h : AtRestore job core p) → row_played job core.arch core.vals ≡ Wants (token_exchange core.arch p h.page) (acquired_if p)
awaits job core p h = ap (row_played job core.arch) h.seen ∙ row_part job core p zero [] h

-- and ends with it
ends_by : (job : JobData) (core : Core) (p answer : ℕ) (h : AtRestore job core p)
    → row_played job core.arch (vals_after core.vals (token_exchange core.arch p h.page) answer)
    ≡ play (found_part (unheld core.arch) p (next_address job core.arch) answer >>= noted) zero []
ends_by job core p answer h =
    ap (λ (seen : ValsData). row_played job core.arch (vals_after seen (token_exchange core.arch p h.page) answer)) h.seen
    ∙ row_part job core p (suc zero) (answer ∷ []) h

-- by the word found
takes_found : (arch : Arch) (p next found : ℕ) → found ≡ restore_token_at p → play (found_part arch p next found >>= noted) zero [] ≡ Completed (Noted (restored arch p next).0 (restored arch p next).1) zero []
unfolding ◌>>=◌
takes_found arch p next found e =
    let same : (found == restore_token_at p) ≡ true = grind (arith, nat_tests, e) in
    ap (λ (b : Bool). play (cond b (done (restored arch p next)) (fault (no_restore_token p found)) >>= noted) zero []) same

misses_found : (arch : Arch) (p next found : ℕ) → found ≢ restore_token_at p → play (found_part arch p next found >>= noted) zero [] ≡ Faulted (missed_token p found)
unfolding ◌>>=◌
misses_found arch p next found e =
    let other : (found == restore_token_at p) ≡ false = grind (arith, nat_tests, e) in
    ap (λ (b : Bool). play (cond b (done (restored arch p next)) (fault (no_restore_token p found)) >>= noted) zero []) other

-- the exchange takes no supervisor stack, whatever it finds
still_held : (p : ℕ) (held : Option ℕ) (b : Bool) → held_after (cond b (Acquired p ∷ []) []) held ≡ held
still_held p held true = refl
still_held p held false = refl

-- the next access, by what the thread waits for
next_is : (job : JobData) (core : Core) (a : Access) (changes : ℕ → List Change) (over : Option End) → over ≡ None → row_played job core.arch core.vals ≡ Wants a changes → access_of job core over ≡ Some a
next_is job core a changes None e w = ap wanted w
next_is job core a changes (Some end) e w = cc

-- what is taken, by what the row comes to after the exchange
taken_by : (job : JobData) (core : Core) (p answer : ℕ) (h : AtRestore job core p) (c : Played Finish)
    → play (found_part (unheld core.arch) p (next_address job core.arch) answer >>= noted) zero [] ≡ c
    → ((taken job core answer).noted ≡ noted_by core.arch c)
    × ((taken job core answer).core ≡ core_by job core.arch core.arch.held (vals_after core.vals (token_exchange core.arch p h.page) answer) c)
unfolding taken
taken_by job core p answer h c e =
    let a = token_exchange core.arch p h.page in
    let seen = vals_after core.vals a answer in
    let came : row_played job core.arch seen ≡ c = ends_by job core p answer h ∙ e in
    let held = still_held p core.arch.held (answer == restore_token_at p) in (
      ap (λ (r : Played Finish). (answered job core answer r).noted) (awaits job core p h) ∙ ap (noted_by core.arch) came,
      ap (λ (r : Played Finish). (answered job core answer r).core) (awaits job core p h)
          ∙ ap (λ (k : Option ℕ). core_by job core.arch k seen (row_played job core.arch seen)) held
          ∙ ap (core_by job core.arch core.arch.held seen) came,
    )

-- an address is on one page
page_of : (p : ℕ) (page other : ℕ) → page_at p ≡ Some page → page_at p ≡ Some other → page ≡ other
page_of p page other e f = cc

-- the clause, by the thread before the answer
restores : (job : JobData) (core : Core) (p answer : ℕ) → core.over ≡ None → AtRestore job core p → Restores job core (taken job core answer).core p answer (taken job core answer).noted
unfolding next_access
restores job core p answer going h = record {
  exchange = λ page within.
      next_is job core (token_exchange core.arch p h.page) (acquired_if p) core.over going (awaits job core p h)
      ∙ ap (λ (k : ℕ). Some (token_exchange core.arch p k)) (page_of p h.page page h.within within);
  takes = λ found. taken_by job core p answer h _ (takes_found (unheld core.arch) p (next_address job core.arch) answer found);
  misses = λ other. taken_by job core p answer h _ (misses_found (unheld core.arch) p (next_address job core.arch) answer other);
}

-- the same of a thread and a record by other names
pub restores_of : (job : JobData) (core new : Core) (answer : ℕ) (noted : Option Record)
    → core.over ≡ None → new ≡ (taken job core answer).core → noted ≡ (taken job core answer).noted
    → (p : ℕ) → AtRestore job core p → Restores job core new p answer noted
restores_of job core new answer noted going e n p h =
    subst (λ c. Restores job core c p answer noted) (sym e)
    (subst (λ r. Restores job core (taken job core answer).core p answer r) (sym n) (restores job core p answer going h))
