-- What a thread claims of each of its rows. Source: own.
use Rattle.std.proofs.Common.{◌≡◌, ℕ, zero, suc, ◌+◌, ◌-◌, ◌<◌, ◌≤◌, true, length, Option, Some, None, refl, ap, subst, arith, false, List, []}
use Rattle.std.specs.Prelude.{◌==◌}
use Rattle.std.proofs.Math.Nat.{mod-lt}
use Rattle.cet_words.specs.Bytes.{code_byte}
use Rattle.cet_words.proofs.ByteLaws.{code_place}
use Rattle.cet_words.specs.Job.{JobData, IsJob}
use Rattle.cet_words.specs.Layout.{page_at, exit_word, pend_word, image_end, image_start}
use Rattle.cet_isa.specs.Address.{canonical}
use Rattle.cet_isa.specs.Reading.{Decoding, Read, Short, Unknown, decoded}
use Rattle.cet_isa.proofs.ReadingLaws.{decoded_within}
use Rattle.cet_isa.specs.declared.instructions.Instr.{Instr}
use Rattle.cet_isa.specs.declared.instructions.Instr.TheVariants as instr
use Rattle.cet_isa.specs.declared.threads.Arch.{Arch}
use Rattle.cet_isa.specs.declared.threads.Fault.{Fault}
use Rattle.cet_isa.specs.declared.threads.Record.{Record}
use Rattle.cet_book.specs.Facts.{IsReturn}
use Rattle.cet_page.specs.Script.{◌>>=◌}
use Rattle.cet_page.specs.Fetch.{fetchable, joined, missing, missing_in}
use Rattle.cet_page.specs.Finish.{Row, noted, rax, IsMade}
use Rattle.cet_page.specs.Word64.{add64}
use Rattle.cet_page.specs.Family.{family_of}
use Rattle.cet_page.specs.Flow.{flow}
use Rattle.cet_page.specs.declared.families.Family.{Family}
use Rattle.cet_page.specs.declared.families.Family.TheVariants as families
use Rattle.cet_page.specs.Delivery.{fault_delivery, pending_delivery}
use Rattle.cet_page.specs.Gate.{Work, inside, leave, entered}
use Rattle.cet_page.specs.Posting.{due_signal, pending_signal, posting}
use Rattle.cet_page.specs.SigReturn.{is_signal_service, signal_service}
use Rattle.cet_page.specs.Within.{IsState}
use Rattle.cet_page.specs.Processes.{is_process_service}
use Rattle.cet_page.specs.Services.{service}
use Rattle.cet_page.specs.declared.finishes.Leaving.{Leaving}
use Rattle.cet_page.specs.declared.services.Errno.TheVariants as errno
use Rattle.cet_page.specs.Parts.{invalid_opcode}
use Rattle.cet_page.specs.Row.{after_signals, between, execute_family, fetched, instruction, instruction_bytes, boundary, row, row_from}
use Rattle.cet_own.specs.Safe.{is_near_return, IsElsewhere, IsNearReturn}
use Rattle.cet_own.specs.Claims.{AtRest}
use Rattle.cet_own.specs.Owed.{State, own_stack}
use Rattle.cet_own.proofs.Classes.{looks}
use Rattle.cet_own.proofs.Parts.{Claim, claim_bind, claim_cond, fetch_or_then, load_then}
use Rattle.cet_own.specs.Threads.{Fails, Ends}
use Rattle.cet_own.proofs.GateParts.{gate_in_then}
use Rattle.cet_own.proofs.KernelParts.{Leaves as LeavesOf, Within as WithinBy, failed_claim}
use Rattle.cet_own.proofs.MapClaims.{map_shadow_stack_claim}
use Rattle.cet_own.proofs.MmapClaims.{mmap_claim, munmap_claim}
use Rattle.cet_own.proofs.DeliveryClaims.{fault_delivery_claim, pend_out, pending_delivery_claim, pending_few}
use Rattle.cet_own.proofs.ProcessClaims.{process_claim}
use Rattle.cet_own.proofs.SignalClaims.{rt_sigaction_claim, rt_sigprocmask_claim, tgkill_claim}
use Rattle.cet_own.proofs.SigReturnClaims.{rt_sigreturn_claim}
use Rattle.cet_own.proofs.ShadowClaims.{shadow_stacks_claim}
use Rattle.cet_own.proofs.Calls.{EndsRow, call_relative_claim, call_indirect_claim}
use Rattle.cet_own.proofs.Returns.{ret_claim}
use Rattle.cet_own.proofs.Steps.{push_claim, pop_claim, leave_claim, jump_indirect_claim, arithmetic_claim}
use Rattle.cet_own.proofs.Progress.{Progress, progress, untouched}
use Rattle.cet_page.specs.Trail.{Visit}
use Rattle.cet_own.proofs.Resting.{Resting, rest_kept, rest_stacked, rested, row_starts}

-- ---- where instructions lie

-- the bytes that can be fetched are code
fetched_at : (job : JobData) (addr most n : ℕ) (o : Option ℕ) → IsJob job → code_byte job.image.segments addr ≡ o → n < length (joined o (fetchable job.image.segments (addr + 1) most)) →
    (n < length (fetchable job.image.segments (addr + 1) most) → (image_start ≤ addr + 1 + n) × (addr + 1 + n < image_end)) →
    ((m : ℕ) → n ≡ suc m → m < length (fetchable job.image.segments (addr + 1) most) → (image_start ≤ addr + 1 + m) × (addr + 1 + m < image_end)) → (image_start ≤ addr + n) × (addr + n < image_end)
fetched_at job addr most n None j e l rest more = absurd (omega arith)
fetched_at job addr most zero (Some b) j e l rest more = let p = code_place job.image.segments addr b j.image.each e in let lo = p.0 in let hi = p.1 in (omega arith, omega arith)
fetched_at job addr most (suc m) (Some b) j e l rest more = let p = more m refl (omega arith) in let lo = p.0 in let hi = p.1 in (omega arith, omega arith)

fetchable_place : (job : JobData) (addr most n : ℕ) → IsJob job → n < length (fetchable job.image.segments addr most) → (image_start ≤ addr + n) × (addr + n < image_end)
unfolding fetchable
fetchable_place job addr zero n j l = absurd (omega arith)
fetchable_place job addr (suc most) n j l =
    fetched_at job addr most n (code_byte job.image.segments addr) j refl l (fetchable_place job (addr + 1) most n j) (λ m e k. fetchable_place job (addr + 1) most m j k)

-- the address after an instruction
next_place : (job : JobData) (arch : Arch) (i : Instr) (len : ℕ) → IsJob job → decoded (instruction_bytes job arch) ≡ Read i len → IsReturn (add64 arch.rip len)
next_place job arch i len j e =
    let w = decoded_within (instruction_bytes job arch) i len e in
    let least = w.0 in
    let most = w.1 in
    let p = fetchable_place job arch.rip 15 (len - 1) j (omega arith) in
    let low = (fetchable_place job arch.rip 15 0 j (omega arith)).0 in
    let high = p.1 in
    (omega arith, omega arith)

-- the number of a thread's supervisor stack
stack_below : (job : JobData) (t : ℕ) → IsJob job → own_stack job t < 8
stack_below job t j =
    let low = j.procs_low in
    let high = j.procs_high in
    let l : own_stack job t < job.procs = mod-lt t (omega arith) in
    omega arith

-- a near return is of control flow
returns_flow : (i : Instr) → is_near_return i ≡ true → family_of i ≡ families.Flow
returns_flow instr.Ret r = refl
returns_flow (instr.RetImm bytes) r = refl
returns_flow i r = cc

module _ (job : JobData) (j : IsJob job) (arch : Arch) where
  -- an invalid opcode is at no return
  elsewhere : (d : Decoding) → decoded (instruction_bytes job arch) ≡ d → (IsNearReturn d → ⊥) → IsElsewhere job arch
  elsewhere d e n r = n (subst IsNearReturn e r.1)

  no_return : {down : Progress} (s : State) (d : Decoding) → Resting arch.number untouched down s.book arch.ssp → decoded (instruction_bytes job arch) ≡ d → (IsNearReturn d → ⊥) → Fails job arch s invalid_opcode
  no_return s d rest e n = (rested rest, λ r. absurd (elsewhere d e n r), tt)

  -- ---- kernel calls

  abbrev below_eight : own_stack job arch.number < 8
  below_eight = stack_below job arch.number j

  abbrev Within : List Visit → State → Type 0
  Within past s = WithinBy job arch below_eight untouched past s

  abbrev Leaves : List Visit → State → State → Arch × Record × Leaving → Type 0
  Leaves past before s x = LeavesOf job arch below_eight past before s x

  signal_claim : (past : List Visit) (before s : State) → IsElsewhere job arch → Within past s → Claim job arch Leaves past before s (signal_service job arch)
  signal_claim past before s free within =
      claim_cond job arch Leaves past before s (rax arch == 13) _ _ (λ _. rt_sigaction_claim job j arch below_eight free past before s within)
      (λ _. claim_cond job arch Leaves past before s (rax arch == 14) _ _ (λ _. rt_sigprocmask_claim job j arch below_eight free past before s within)
      (λ _. claim_cond job arch Leaves past before s (rax arch == 15) _ _ (λ _. rt_sigreturn_claim job j arch below_eight free past before s within)
      (λ _. claim_cond job arch Leaves past before s (rax arch == 234) _ _ (λ _. tgkill_claim job j arch below_eight free past before s within)
      (λ _. failed_claim job arch below_eight {drawing = false} {numbering = false} past before s errno.NoSys free within))))

  service_claim : (past : List Visit) (before s : State) → IsElsewhere job arch → IsMade arch.made → Within past s → Claim job arch Leaves past before s (service job arch)
  service_claim past before s free made within =
      claim_cond job arch Leaves past before s (is_process_service (rax arch)) _ _ (λ _. process_claim job arch below_eight free past before s made within)
      (λ _. claim_cond job arch Leaves past before s (is_signal_service (rax arch)) _ _ (λ _. signal_claim past before s free within)
      (λ _. claim_cond job arch Leaves past before s (rax arch == 9) _ _ (λ _. mmap_claim job arch below_eight free past before s within)
      (λ _. claim_cond job arch Leaves past before s (rax arch == 11) _ _ (λ _. munmap_claim job arch below_eight free past before s within)
      (λ _. claim_cond job arch Leaves past before s (rax arch == 453) _ _ (λ _. map_shadow_stack_claim job arch below_eight free past before s within)
      (λ _. failed_claim job arch below_eight {drawing = false} {numbering = false} past before s errno.NoSys free within)))))

  -- the kernel's entry round a piece of work
  entered_claim : (past : List Visit) (before s : State) (work : Work) → Resting arch.number untouched (progress past) s.book arch.ssp →
      ((p : List Visit) (z n : State) → Within p n → Claim job arch Leaves p z n work) → Claim job arch (Ends job arch) past before s (entered job arch work)
  unfolding entered
  entered_claim past before s work rest h =
      gate_in_then job arch (stack_below job arch.number j) (Ends job arch) past before s (inside arch (own_stack job arch.number) work) rest
      (λ p z n within. claim_bind job arch (Ends job arch) p z n work (leave (own_stack job arch.number)) (h p z n within))
      (λ p z n found busy rest'. (rested rest', λ held now. refl, record { stack = own_stack job arch.number; few = stack_below job arch.number j; address = refl; found = busy.0; held = busy.1 }))

  -- ---- instructions

  noted_claim : (past : List Visit) (before s : State) (m : Row) → Claim job arch (EndsRow job arch) past before s m → Claim job arch (Ends job arch) past before s (m >>= noted)
  noted_claim past before s m h = claim_bind job arch (Ends job arch) past before s m noted h

  flow_claim : (past : List Visit) (before s : State) (i : Instr) (len : ℕ) → Resting arch.number untouched (progress past) s.book arch.ssp → decoded (instruction_bytes job arch) ≡ Read i len →
      Claim job arch (EndsRow job arch) past before s (flow arch i (add64 arch.rip len))
  flow_claim past before s (instr.CallRel disp) len rest e =
      call_relative_claim job arch past before s disp (add64 arch.rip len) rest (next_place job arch (instr.CallRel disp) len j e) (elsewhere _ e (λ x. cc))
  flow_claim past before s (instr.CallInd target notrack) len rest e =
      call_indirect_claim job arch past before s target (add64 arch.rip len) rest (next_place job arch (instr.CallInd target notrack) len j e) (elsewhere _ e (λ x. cc))
  flow_claim past before s instr.Ret len rest e = ret_claim job j arch past before s 0 rest
  flow_claim past before s (instr.RetImm bytes) len rest e = ret_claim job j arch past before s bytes rest
  flow_claim past before s (instr.Push src) len rest e = push_claim job arch (elsewhere _ e (λ x. cc)) past before s src (add64 arch.rip len) rest
  flow_claim past before s (instr.Pop r) len rest e = pop_claim job arch (elsewhere _ e (λ x. cc)) past before s r (add64 arch.rip len) rest
  flow_claim past before s instr.Leave len rest e = leave_claim job arch (elsewhere _ e (λ x. cc)) past before s (add64 arch.rip len) rest
  flow_claim past before s (instr.JmpRel disp) len rest e = (rested rest, λ held now. elsewhere _ e (λ x. cc), tt)
  flow_claim past before s (instr.JmpInd target notrack) len rest e = jump_indirect_claim job arch (elsewhere _ e (λ x. cc)) past before s target (add64 arch.rip len) rest
  flow_claim past before s (instr.Jcc c disp) len rest e = (rested rest, λ held now. elsewhere _ e (λ x. cc), tt)
  flow_claim past before s i len rest e = no_return s _ rest e (λ x. cc)

  family_claim : (past : List Visit) (before s : State) (i : Instr) (len : ℕ) (p : Family) → family_of i ≡ p → IsMade arch.made → Resting arch.number untouched (progress past) s.book arch.ssp →
      decoded (instruction_bytes job arch) ≡ Read i len → Claim job arch (Ends job arch) past before s (execute_family job arch i (add64 arch.rip len) p)
  family_claim past before s i len families.Arithmetic f made rest e =
      noted_claim past before s _ (arithmetic_claim job arch (elsewhere _ e (λ r. let t = returns_flow i r in cc)) past before s i (add64 arch.rip len) rest)
  family_claim past before s i len families.Flow f made rest e = noted_claim past before s _ (flow_claim past before s i len rest e)
  family_claim past before s i len families.ShadowStacks f made rest e =
      noted_claim past before s _ (shadow_stacks_claim job arch (elsewhere _ e (λ r. let t = returns_flow i r in cc)) past before s i (add64 arch.rip len) rest)
  family_claim past before s i len families.SystemCall f made rest e =
      entered_claim past before s (service job arch) rest (λ p z n within. service_claim p z n (elsewhere _ e (λ r. let t = returns_flow i r in cc)) made within)
  family_claim past before s i len families.Supervisor f made rest e = (rested rest, λ r. tt, tt)

  missing_claim : (past : List Visit) (before s : State) (at : Option ℕ) (addr : ℕ) → Resting arch.number untouched (progress past) s.book arch.ssp → Claim job arch (Ends job arch) past before s (missing_in at addr)
  missing_claim past before s None addr rest = (rested rest, λ r. tt, tt)
  missing_claim past before s (Some page) addr rest = ((rest_stacked rest), λ now r v known. (looks page refl refl, now, refl, (rested (rest_kept r rest), λ q. tt, tt)))

  fetched_claim : (past : List Visit) (before s : State) (d : Decoding) → IsMade arch.made → Resting arch.number untouched (progress past) s.book arch.ssp → decoded (instruction_bytes job arch) ≡ d →
      Claim job arch (Ends job arch) past before s (fetched job arch (instruction_bytes job arch) d)
  unfolding missing
  fetched_claim past before s (Read i len) made rest e = family_claim past before s i len (family_of i) refl made rest e
  fetched_claim past before s Short made rest e = missing_claim past before s (page_at (arch.rip + length (instruction_bytes job arch))) (arch.rip + length (instruction_bytes job arch)) rest
  fetched_claim past before s Unknown made rest e = no_return s Unknown rest e (λ x. x)

  instruction_claim : (past : List Visit) (before s : State) → IsMade arch.made → Resting arch.number untouched (progress past) s.book arch.ssp → Claim job arch (Ends job arch) past before s (instruction job arch)
  unfolding instruction
  instruction_claim past before s made rest =
      claim_cond job arch (Ends job arch) past before s (canonical arch.rip) _ _
      (λ _. fetched_claim past before s (decoded (instruction_bytes job arch)) made rest refl) (λ _. (rested rest, λ r. tt, tt))

  -- the delivery of a pending signal, or the instruction
  after_claim : (past : List Visit) (before s : State) (o : Option ℕ) → IsState arch → ((signal : ℕ) → o ≡ Some signal → (1 ≤ signal) × (signal < 32)) →
      Resting arch.number untouched (progress past) s.book arch.ssp → Claim job arch (Ends job arch) past before s (after_signals job arch o)
  after_claim past before s None is few rest = instruction_claim past before s is.made rest
  after_claim past before s (Some signal) is few rest =
      entered_claim past before s (pending_delivery arch signal) rest (λ p z n within. pending_delivery_claim job j arch below_eight p z n signal is.number (few signal refl) within)

  boundary_claim : (past : List Visit) (before s : State) → IsState arch → Resting arch.number untouched (progress past) s.book arch.ssp → Claim job arch (Ends job arch) past before s (boundary job arch)
  unfolding boundary
  boundary_claim past before s is rest =
      load_then job arch (Ends job arch) past before s exit_word _ (λ k z. omega arith) rest (λ now r ending.
      let rest1 = rest_kept r rest in
      claim_cond job arch (Ends job arch) _ now now (ending == 0) _ _
      (λ _. load_then job arch (Ends job arch) _ now now (pend_word arch.number) _ (λ k z. (let few = is.number in omega arith)) rest1 (λ now2 r2 pending.
      after_claim _ now2 now2 (pending_signal pending arch.mask) is (pending_few pending arch.mask) (rest_kept r2 rest1)))
      (λ _. (rested rest1, ap (λ (x : Progress). x.drawing) rest1.level, ap (λ (x : Progress). x.numbering) rest1.level)))

  -- a listed signal is posted
  posting_claim : (past : List Visit) (before s : State) (signal : ℕ) → IsState arch → Resting arch.number untouched (progress past) s.book arch.ssp → Claim job arch (Ends job arch) past before s (posting arch signal)
  unfolding posting
  posting_claim past before s signal is rest =
      fetch_or_then job arch (Ends job arch) past before s (pend_word arch.number) _ _ (pend_out arch.number is.number) (rest_stacked rest) (λ now r v.
      let rest1 = rest_kept r rest in
      (rested rest1, ap (λ (x : Progress). x.drawing) rest1.level, ap (λ (x : Progress). x.numbering) rest1.level, refl))

  between_claim : (past : List Visit) (before s : State) (o : Option ℕ) → IsState arch → Resting arch.number untouched (progress past) s.book arch.ssp → Claim job arch (Ends job arch) past before s (between job arch o)
  between_claim past before s None is rest = boundary_claim past before s is rest
  between_claim past before s (Some signal) is rest = posting_claim past before s signal is rest

  from_claim : (past : List Visit) (before s : State) (due : Option Fault) → IsState arch → Resting arch.number untouched (progress past) s.book arch.ssp → Claim job arch (Ends job arch) past before s (row_from job arch due)
  from_claim past before s (Some e) is rest = entered_claim past before s (fault_delivery arch e) rest (λ p z n within. fault_delivery_claim job j arch below_eight p z n e within)
  from_claim past before s None is rest = between_claim past before s (due_signal job arch) is rest

  -- a thread at rest claims its whole next row
  pub row_claim : (before s : State) → IsState arch → AtRest arch.number s.book arch.ssp → Claim job arch (Ends job arch) [] before s (row job arch)
  row_claim before s is rest = from_claim [] before s arch.due is (row_starts rest)
