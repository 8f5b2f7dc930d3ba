-- What a row comes to is what the instruction comes to, once the row is past its two first accesses. Source: own.
use Rattle.std.proofs.Common.{◌≡◌, ℕ, zero, suc, ◌-◌, ◌≤◌, arith, refl, ap, sym, ◌∙◌, subst, true, List, [], ◌∷◌, drop, length, Some, None, Ok, Err, Option, Result}
use Rattle.std.specs.Prelude.{slice_index, IfSome}
use Rattle.cet_words.specs.Job.{JobData}
use Rattle.cet_isa.specs.Address.{canonical}
use Rattle.cet_isa.specs.Reading.{Read, decoded}
use Rattle.cet_isa.specs.declared.instructions.Instr.{Instr}
use Rattle.cet_isa.specs.declared.threads.Arch.{Arch}
use Rattle.cet_isa.specs.declared.threads.Record.{Record}
use Rattle.cet_page.specs.Core.{row_played, unheld, kept_by}
use Rattle.cet_page.specs.Script.{Script, Played, Completed, Faulted, Wants, play, ◌>>=◌}
use Rattle.cet_page.specs.Parts.{load_as}
use Rattle.cet_page.specs.Plays.{Follows, Suspends}
use Rattle.cet_page.specs.Posting.{due_signal, pending_signal}
use Rattle.cet_page.specs.Finish.{noted}
use Rattle.cet_page.specs.Row.{row, boundary, after_signals, instruction, fetched, instruction_bytes, execute, execute_family}
use Rattle.cet_page.specs.Word64.{add64}
use Rattle.cet_page.specs.ValsData.{ValsData}
use Rattle.cet_page.specs.declared.cursors.Suspended.{Suspended}
use Rattle.cet_page.specs.declared.cursors.Suspended.TheVariants as suspended
use Rattle.cet_page.specs.declared.finishes.Finish.{Finish}
use Rattle.cet_page.proofs.ScriptLaws.{resume, play_bind}
use Rattle.cet_decode.specs.Decoded.{decoding}
use Rattle.cet_decode.specs.declared.decoder.Decoded.{Decoded}
use Rattle.cet_decode.specs.declared.decoder.Decoded.TheVariants as answers
use Rattle.cet_page.specs.Arithmetic.{arithmetic}
use Rattle.cet_page.specs.Family.{family_of}
use Rattle.cet_page.specs.Flow.{flow}
use Rattle.cet_page.specs.declared.families.Family.{Family}
use Rattle.cet_page.specs.declared.families.Family.TheVariants as families
use Rattle.cet_cpu.specs.Code.{IsCode}
use Rattle.cet_cpu.specs.Cpu.{CpuData, RefinesRow}
use Rattle.cet_cpu.specs.Carried.{ComesTo, HasFamily, IsOfFamily, IsOpened, ended}
use Rattle.cet_cpu.specs.declared.fetches.Code.{Code}
use Rattle.cet_cpu.proofs.OpeningLaws.{at_boundary}

-- behind EXIT and PEND the boundary goes on with what is pending
behind_two : (job : JobData) (arch : Arch) (n pending : ℕ) (rest : List ℕ)
    → play (boundary job arch) (suc (suc n)) (0 ∷ pending ∷ rest) ≡ play (after_signals job arch (pending_signal pending arch.mask)) n rest
unfolding boundary load_as Rattle.cet_page.specs.Script.◌>>=◌
behind_two job arch n pending rest = refl

-- and with the instruction where nothing is
instruction_of : (job : JobData) (arch : Arch) (i : Instr) (len : ℕ) → canonical arch.rip ≡ true → decoded (instruction_bytes job arch) ≡ Read i len
    → instruction job arch ≡ execute job arch i (add64 arch.rip len)
unfolding instruction
instruction_of job arch i len c d = rw (c, ap (fetched job arch (instruction_bytes job arch)) d) refl

two_less : (n : ℕ) → suc (suc n) - 2 ≡ n
two_less n = omega arith

opened_at : (job : JobData) (arch : Arch) (i : Instr) (len n : ℕ) (values : List ℕ) → canonical arch.rip ≡ true → decoded (instruction_bytes job arch) ≡ Read i len
    → arch.due ≡ None → due_signal job arch ≡ None → 2 ≤ n → 2 ≤ length values → slice_index values 0 ≡ 0 → pending_signal (slice_index values 1) arch.mask ≡ None
    → play (row job arch) n values ≡ play (execute job arch i (add64 arch.rip len)) (n - 2) (drop 2 values)
opened_at job arch i len zero values c d fault signal few kept goes none = let no : ⊥ = omega arith in absurd no
opened_at job arch i len (suc zero) values c d fault signal few kept goes none = let no : ⊥ = omega arith in absurd no
opened_at job arch i len (suc (suc n)) [] c d fault signal few kept goes none = let no : ⊥ = omega arith in absurd no
opened_at job arch i len (suc (suc n)) (v ∷ []) c d fault signal few kept goes none = let no : ⊥ = omega arith in absurd no
opened_at job arch i len (suc (suc n)) (v ∷ pending ∷ rest) c d fault signal few kept goes none =
    ap (λ (s : Script Finish). play s (suc (suc n)) (v ∷ pending ∷ rest)) (at_boundary job arch fault signal)
    ∙ ap (λ (x : ℕ). play (boundary job arch) (suc (suc n)) (x ∷ pending ∷ rest)) goes
    ∙ behind_two job arch n pending rest
    ∙ ap (λ (o : Option ℕ). play (after_signals job arch o) n rest) none
    ∙ ap (λ (s : Script Finish). play s n rest) (instruction_of job arch i len c d)
    ∙ ap (λ (k : ℕ). play (execute job arch i (add64 arch.rip len)) k rest) (sym (two_less n))

-- the row of a thread that has come to an instruction
pub opened_row : (job : JobData) (arch : Arch) (seen : ValsData) (i : Instr) (len : ℕ) → IsOpened job arch seen → canonical arch.rip ≡ true → decoded (instruction_bytes job arch) ≡ Read i len
    → row_played job arch seen ≡ play (execute job (unheld arch) i (add64 arch.rip len)) (seen.accesses - 2) (drop 2 seen.values)
opened_row job arch seen i len o c d =
    opened_at job (unheld arch) i len seen.accesses seen.values c d o.fault o.signal o.accesses o.values o.goes o.none

resumed : (came : Played (Arch × Record)) (stop : Suspended) → Suspends came stop → Suspends (resume came noted) stop
resumed (Wants b changes) (suspended.Access a mark) h = h
resumed (Faulted e) (suspended.Access a mark) h = absurd h
resumed (Completed x left values) (suspended.Access a mark) h = absurd h
resumed came (suspended.Fault e) h = ap (λ (c : Played (Arch × Record)). resume c noted) h

-- the instruction ends the row
pub carried_row : (script : Script (Arch × Record)) (n : ℕ) (values : List ℕ) (before after : Arch) (came : Result Record Suspended) (left : ℕ) (rest : List ℕ)
    → Follows (play script n values) (unheld before) after came left rest
    → RefinesRow (play (script >>= noted) n values) before (kept_by before before.held after) (ended came)
carried_row script n values before after (Ok x) left rest h =
    (after, left, rest, refl, play_bind script noted n values ∙ ap (λ (c : Played (Arch × Record)). resume c noted) h, tt)
carried_row script n values before after (Err stop) left rest h =
    (ap (kept_by before before.held) h.0, subst (λ (c : Played Finish). Suspends c stop) (sym (play_bind script noted n values)) (resumed (play script n values) stop h.1))

-- the code that is kept spells the instruction, and tells its family
spelled : (job : JobData) (arch : Arch) (kept : Option Code) (code : Code) (i : Instr) (len : ℕ) (family : Family) → IfSome kept (IsCode job.image.segments arch.rip) → HasFamily kept family → kept ≡ Some code
    → code.decoded ≡ answers.Ok i len → (decoded (instruction_bytes job arch) ≡ Read i len) × (family_of i ≡ family)
spelled job arch kept code i len family is part k d =
    let here : IsCode job.image.segments arch.rip code = subst (λ (o : Option Code). IfSome o (IsCode job.image.segments arch.rip)) k is in
    let of_code : HasFamily (Some code) family = subst (λ (o : Option Code). HasFamily o family) k part in
    (sym here.reads ∙ ap decoding d, subst (λ (x : Decoded). IsOfFamily x family) d of_code)

-- the row at an instruction whose family carries it by this script
carried_by : (job : JobData) (arch : Arch) (seen : ValsData) (i : Instr) (len n : ℕ) (values : List ℕ) (script : Script (Arch × Record)) (after : Arch) (came : Result Record Suspended) (left : ℕ) (rest : List ℕ)
    → IsOpened job arch seen → canonical arch.rip ≡ true → decoded (instruction_bytes job arch) ≡ Read i len → execute job (unheld arch) i (add64 arch.rip len) ≡ script >>= noted
    → n ≡ seen.accesses - 2 → values ≡ drop 2 seen.values → Follows (play script n values) (unheld arch) after came left rest
    → RefinesRow (row_played job arch seen) arch (kept_by arch arch.held after) (ended came)
carried_by job arch seen i len n values script after came left rest o c d s en ev h =
    let same : play (script >>= noted) n values ≡ row_played job arch seen =
    ap (λ (k : ℕ). play (script >>= noted) k values) en ∙ ap (λ (l : List ℕ). play (script >>= noted) (seen.accesses - 2) l) ev
    ∙ ap (λ (t : Script Finish). play t (seen.accesses - 2) (drop 2 seen.values)) (sym s) ∙ sym (opened_row job arch seen i len o c d) in
    subst (λ (p : Played Finish). RefinesRow p arch (kept_by arch arch.held after) (ended came)) same (carried_row script n values arch after came left rest h)

pub carried_arithmetic : (job : JobData) (cpu : CpuData) (code : Code) (i : Instr) (len size n : ℕ) (values : List ℕ) (after : Arch) (came : Result Record Suspended) (left : ℕ) (rest : List ℕ)
    → ComesTo job cpu families.Arithmetic → cpu.code ≡ Some code → code.decoded ≡ answers.Ok i len → n ≡ cpu.core.vals.accesses - 2 → values ≡ drop 2 cpu.core.vals.values → size ≡ len
    → Follows (play (arithmetic (unheld cpu.core.arch) i (add64 cpu.core.arch.rip size)) n values) (unheld cpu.core.arch) after came left rest
    → RefinesRow (row_played job cpu.core.arch cpu.core.vals) cpu.core.arch (kept_by cpu.core.arch cpu.core.arch.held after) (ended came)
carried_arithmetic job cpu code i len size n values after came left rest o k d en ev es h =
    let arch = cpu.core.arch in
    let s = spelled job arch cpu.code code i len families.Arithmetic o.code o.part k d in
    carried_by job arch cpu.core.vals i len n values (arithmetic (unheld arch) i (add64 arch.rip size)) after came left rest o.opened o.address s.0
    (ap (execute_family job (unheld arch) i (add64 arch.rip len)) s.1 ∙ ap (λ (k : ℕ). arithmetic (unheld arch) i (add64 arch.rip k) >>= noted) (sym es)) en ev h

pub carried_flow : (job : JobData) (cpu : CpuData) (code : Code) (i : Instr) (len size n : ℕ) (values : List ℕ) (after : Arch) (came : Result Record Suspended) (left : ℕ) (rest : List ℕ)
    → ComesTo job cpu families.Flow → cpu.code ≡ Some code → code.decoded ≡ answers.Ok i len → n ≡ cpu.core.vals.accesses - 2 → values ≡ drop 2 cpu.core.vals.values → size ≡ len
    → Follows (play (flow (unheld cpu.core.arch) i (add64 cpu.core.arch.rip size)) n values) (unheld cpu.core.arch) after came left rest
    → RefinesRow (row_played job cpu.core.arch cpu.core.vals) cpu.core.arch (kept_by cpu.core.arch cpu.core.arch.held after) (ended came)
carried_flow job cpu code i len size n values after came left rest o k d en ev es h =
    let arch = cpu.core.arch in
    let s = spelled job arch cpu.code code i len families.Flow o.code o.part k d in
    carried_by job arch cpu.core.vals i len n values (flow (unheld arch) i (add64 arch.rip size)) after came left rest o.opened o.address s.0
    (ap (execute_family job (unheld arch) i (add64 arch.rip len)) s.1 ∙ ap (λ (k : ℕ). flow (unheld arch) i (add64 arch.rip k) >>= noted) (sym es)) en ev h
