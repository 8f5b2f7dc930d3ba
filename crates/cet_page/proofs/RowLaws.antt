-- What instructions and the kernel's work are in the row of a thread. Source: own.
use Rattle.std.proofs.Common.{suc, true, cond, ap, sym, ◌∙◌, arith}
use Rattle.std.proofs.lemmas.Bool.Decides.{nat_tests}
use Rattle.std.specs.Prelude.{◌≡◌, ℕ, ◌-◌, List, ◌∷◌, Bool, Option, Some, None, ◌==◌}
use Rattle.cet_words.specs.Layout.{token, token_word, kernel_return}
use Rattle.cet_words.specs.Job.{JobData}
use Rattle.cet_isa.specs.Address.{canonical}
use Rattle.cet_isa.specs.Reading.{Decoding, Read, decoded}
use Rattle.cet_isa.specs.declared.instructions.Instr.{Instr}
use Rattle.cet_isa.specs.declared.threads.Arch.{Arch}
use Rattle.cet_isa.specs.declared.threads.Fault.{Fault}
use Rattle.cet_page.specs.Script.{done, fault, ◌>>=◌, play}
use Rattle.cet_page.specs.Parts.{general_protection, read_entry, load_as, store_as, store, compare_exchange_as}
use Rattle.cet_page.specs.Gate.{Work, stack_of, gate_in, entered, inside, leave}
use Rattle.cet_page.specs.Posting.{due_signal, pending_signal}
use Rattle.cet_page.specs.Row.{row, row_from, between, after_signals, execute, fetched, address_after, instruction, boundary, instruction_bytes, next_address}
use Rattle.cet_page.specs.PartsOfRow.{PartsOfRow}

instruction_part : (job : JobData) (arch : Arch) (i : Instr) (len pending n : ℕ) (values : List ℕ) → arch.due ≡ None → due_signal job arch ≡ None → pending_signal pending arch.mask ≡ None →
    canonical arch.rip ≡ true → decoded (instruction_bytes job arch) ≡ Read i len → play (row job arch) (suc (suc n)) (0 ∷ pending ∷ values) ≡ play
    (execute job arch i (next_address job arch)) n values
unfolding boundary instruction load_as ◌>>=◌
instruction_part job arch i len pending n values due unposted unmasked rip reads =
    let bytes = instruction_bytes job arch in
    ap (λ (d : Option Fault). play (row_from job arch d) (suc (suc n)) (0 ∷ pending ∷ values)) due
    ∙ ap (λ (o : Option ℕ). play (between job arch o) (suc (suc n)) (0 ∷ pending ∷ values)) unposted
    ∙ ap (λ (o : Option ℕ). play (after_signals job arch o) n values) unmasked
    ∙ ap (λ (b : Bool). play (cond b (fetched job arch bytes (decoded bytes)) (fault general_protection)) n values) rip
    ∙ ap (λ (d : Decoding). play (fetched job arch bytes d) n values) reads
    ∙ ap (λ (d : Decoding). play (execute job arch i (address_after arch d)) n values) (sym reads)

kernel_part : (job : JobData) (arch : Arch) (work : Work) (entry n : ℕ) (values : List ℕ) →
    play (entered job arch work) (suc (suc (suc n))) (entry ∷ token (stack_of job arch) ∷ values) ≡ play (work >>= leave (stack_of job arch)) n values
unfolding entered gate_in read_entry compare_exchange_as store_as ◌>>=◌
kernel_part job arch work entry n values =
    let k = stack_of job arch in
    let same : (token k == token k) ≡ true = grind (arith, nat_tests) in
    ap (λ (b : Bool). play (cond b (store (token_word k - 1) kernel_return >>= (λ _. done None)) (done (Some (token k))) >>= inside arch k work) (suc n) values) same

pub parts_of_row : PartsOfRow
parts_of_row = record { instructions = instruction_part; kernel = kernel_part }
