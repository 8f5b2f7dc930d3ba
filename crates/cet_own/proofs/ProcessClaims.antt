-- What a thread claims of the services on processes and threads. Source: own.
use Rattle.std.proofs.Common.{◌≡◌, ◌≢◌, ℕ, ◌+◌, ◌-◌, ◌<◌, Bool, true, false, List, refl, arith}
use Rattle.std.specs.Prelude.{◌==◌, ◌||◌, ◌%◌, ◌^◌, if◌then◌else◌, nat_lt}
use Rattle.std.proofs.lemmas.Bool.Decides.{nat_tests}
use Rattle.cet_words.specs.Job.{JobData}
use Rattle.cet_words.specs.Layout.{exit_word, first_kernel_page, token_word, word_in}
use Rattle.cet_isa.specs.declared.threads.Arch.{Arch}
use Rattle.cet_page.specs.Finish.{IsMade, rax, rdi, rdx, rsi}
use Rattle.cet_page.specs.Gate.{failed, serve}
use Rattle.cet_page.specs.Processes.{arch_prctl, arch_shstk_disable, arch_shstk_enable, arch_shstk_lock, arch_shstk_status, bytes_of, exit, exit_group, exit_status, in_one_word, load_last}
use Rattle.cet_page.specs.Processes.{made_page, process_service, put_status, taken_of, tell_status, thread_pages, write_bytes, write_first, write_of, write_words, wrote}
use Rattle.cet_page.specs.Parts.{clears, load}
use Rattle.cet_page.specs.Script.{done, ◌>>=◌}
use Rattle.cet_page.specs.Trail.{Visit}
use Rattle.cet_page.specs.declared.checks.Kind.TheVariants as kind
use Rattle.cet_page.specs.declared.checks.Who.TheVariants.{User}
use Rattle.cet_page.specs.declared.services.Errno.{Errno}
use Rattle.cet_page.specs.declared.services.Errno.TheVariants as errno
use Rattle.cet_own.specs.Safe.{IsElsewhere}
use Rattle.cet_own.specs.Threads.{Ends}
use Rattle.cet_own.proofs.CloneClaims.{clone_claim}
use Rattle.cet_own.proofs.Endings.{by_status}
use Rattle.cet_own.proofs.GateParts.{exit_out_then, gate_out_then}
use Rattle.cet_own.proofs.KernelParts.{Leaves, Within, failed_claim, probe_then, serve_claim}
use Rattle.cet_own.specs.Owed.{State, own_stack}
use Rattle.cet_own.proofs.Parts.{Claim, claim_bind, claim_cond, clears_claim, end_then, kernel_load_then, store_then}
use Rattle.cet_own.proofs.Places.{load_page, page_word, store_page}
use Rattle.cet_own.proofs.Progress.{untouched}
use Rattle.cet_own.proofs.Resting.{inside_kept, inside_left, inside_stacked, rested}

module _ (job : JobData) (arch : Arch) (l : own_stack job arch.number < 8) (free : IsElsewhere job arch) where
  abbrev pub gate : ℕ
  gate = own_stack job arch.number

  abbrev pub Inner : List Visit → State → Type 0
  Inner past s = Within job arch l untouched past s

  -- no word below a token
  exit_apart : (exit_word == token_word gate - 1) ≡ false
  exit_apart = let n : exit_word ≢ token_word gate - 1 = omega arith in grind (arith, nat_tests)

  user_apart : (page addr : ℕ) → page < first_kernel_page → (word_in page addr == token_word gate - 1) ≡ false
  user_apart page addr low = let n : word_in page addr ≢ token_word gate - 1 = omega arith in grind (arith, nat_tests)

  fails : (past : List Visit) (before s : State) (error : Errno) → Inner past s → Claim job arch (Leaves job arch l) past before s (done (failed arch error))
  fails past before s error within = failed_claim job arch l {drawing = false} {numbering = false} past before s error free within

  serves : (past : List Visit) (before s : State) (result : ℕ) → Inner past s → Claim job arch (Leaves job arch l) past before s (done (serve arch result))
  serves past before s result within = serve_claim job arch l {drawing = false} {numbering = false} past before s result free within

  -- ---- exit and exit_group

  exit_claim : (past : List Visit) (before s : State) → IsMade arch.made → Inner past s → Claim job arch (Leaves job arch l) past before s (exit arch)
  unfolding exit
  exit_claim past before s made within =
      let low = made.low in
      let high = made.high in
      claim_bind job arch (Leaves job arch l) past before s (clears thread_pages (made_page arch)) _
      (clears_claim job arch gate l _ past before s thread_pages (made_page arch) (omega arith) (omega arith) within (λ p z n within1.
      exit_out_then job arch l (Ends job arch) p z n (exit_status arch) _ within1 (λ p' z' n' none. (none, λ held now. free, tt))))

  exit_group_claim : (past : List Visit) (before s : State) → Inner past s → Claim job arch (Leaves job arch l) past before s (exit_group arch)
  unfolding exit_group
  exit_group_claim past before s within =
      end_then job arch (Leaves job arch l) past before s (0x100 + exit_status arch) _ (by_status (rdi arch)) (inside_stacked within) (λ now r found.
      serves _ now now (exit_status arch) (inside_left (rw exit_apart refl) (inside_kept r within)))

  -- ---- write

  wrote_claim : (past : List Visit) (before s : State) (count bytes : ℕ) → Inner past s → Leaves job arch l past before s (wrote arch count bytes)
  wrote_claim past before s count bytes within = gate_out_then job arch l (Ends job arch) past before s _ within (λ p z n rest. (rested rest, λ held now. free, tt))

  -- by whether the bytes reach into a second word
  last_claim : (past : List Visit) (before s : State) (addr count last low : ℕ) (c : Bool) → last < first_kernel_page → Inner past s →
      Claim job arch (Leaves job arch l) past before s ((if c then done 0 else load (word_in last (addr + count - 1))) >>= (λ high. done (wrote arch count (bytes_of low high (addr % 8) count))))
  unfolding ◌>>=◌
  last_claim past before s addr count last low true below within = wrote_claim past before s count _ within
  last_claim past before s addr count last low false below within =
      kernel_load_then job arch (Leaves job arch l) past before s gate (word_in last (addr + count - 1)) _ (λ k z. omega arith) within (λ now r high within1.
      wrote_claim _ now now count _ within1)

  words_claim : (past : List Visit) (before s : State) (addr count first last : ℕ) → first < first_kernel_page → last < first_kernel_page → Inner past s →
      Claim job arch (Leaves job arch l) past before s (write_words arch addr count first last)
  unfolding write_words load_last
  words_claim past before s addr count first last below below' within =
      kernel_load_then job arch (Leaves job arch l) past before s gate (word_in first addr) _ (λ k z. omega arith) within (λ now r low within1.
      last_claim _ now now addr count last low (in_one_word addr count) below' within1)

  bytes_claim : (past : List Visit) (before s : State) (addr count : ℕ) → Inner past s → Claim job arch (Leaves job arch l) past before s (write_bytes arch addr count)
  unfolding write_bytes write_first
  bytes_claim past before s addr count within =
      probe_then job arch l {d = untouched} (Leaves job arch l) past before s kind.Load User addr _ within (λ p z n within1. fails p z n errno.Fault within1) (λ p z n first v entry allowed within1.
      probe_then job arch l {d = untouched} (Leaves job arch l) p z n kind.Load User (addr + count - 1) _ within1 (λ p' z' n' within2. fails p' z' n' errno.Fault within2) (λ p' z' n' last v' entry' allowed' within2.
      words_claim p' z' n' addr count first last (load_page job.image first v entry allowed) (load_page job.image last v' entry' allowed') within2))

  write_claim : (past : List Visit) (before s : State) (file addr length : ℕ) → Inner past s → Claim job arch (Leaves job arch l) past before s (write_of arch file addr length)
  write_claim past before s file addr length within =
      claim_cond job arch (Leaves job arch l) past before s (nat_lt file 1 || nat_lt 2 file) _ _ (λ _. fails past before s errno.BadF within)
      (λ _. claim_cond job arch (Leaves job arch l) past before s (length == 0) _ _ (λ _. serves past before s 0 within)
      (λ _. claim_cond job arch (Leaves job arch l) past before s (nat_lt (2 ^ 64) (addr + taken_of length)) _ _ (λ _. fails past before s errno.Fault within)
      (λ _. bytes_claim past before s addr (taken_of length) within)))

  -- ---- arch_prctl

  status_claim : (past : List Visit) (before s : State) (addr : ℕ) → Inner past s → Claim job arch (Leaves job arch l) past before s (tell_status arch addr)
  unfolding tell_status put_status
  status_claim past before s addr within =
      probe_then job arch l {d = untouched} (Leaves job arch l) past before s kind.Store User addr _ within (λ p z n within1. fails p z n errno.Fault within1) (λ p z n page v entry allowed within1.
      let below = store_page job.image page v entry allowed in
      store_then job arch (Leaves job arch l) p z n (word_in page addr) 1 _ (page_word page addr below) (inside_stacked within1) (λ now r.
      serves _ now now 0 (inside_left (rw (user_apart page addr (omega arith)) refl) (inside_kept r within1))))

  -- both errors of a locked feature
  locked_claim : (past : List Visit) (before s : State) (c : Bool) → Inner past s → Claim job arch (Leaves job arch l) past before s (done (failed arch (if c then errno.Inval else errno.Perm)))
  locked_claim past before s true within = fails past before s errno.Inval within
  locked_claim past before s false within = fails past before s errno.Perm within

  prctl_claim : (past : List Visit) (before s : State) → Inner past s → Claim job arch (Leaves job arch l) past before s (arch_prctl arch)
  prctl_claim past before s within =
      claim_cond job arch (Leaves job arch l) past before s (rdi arch == arch_shstk_enable || rdi arch == arch_shstk_disable) _ _ (λ _. locked_claim past before s (rsi arch == 0) within)
      (λ _. claim_cond job arch (Leaves job arch l) past before s (rdi arch == arch_shstk_lock) _ _ (λ _. serves past before s 0 within)
      (λ _. claim_cond job arch (Leaves job arch l) past before s (rdi arch == arch_shstk_status) _ _
      (λ _. claim_cond job arch (Leaves job arch l) past before s (rsi arch % 8 == 0) _ _ (λ _. status_claim past before s (rsi arch) within) (λ _. fails past before s errno.Fault within))
      (λ _. fails past before s errno.Inval within)))

  -- ---- by their numbers

  pub process_claim : (past : List Visit) (before s : State) → IsMade arch.made → Inner past s → Claim job arch (Leaves job arch l) past before s (process_service arch)
  process_claim past before s made within =
      claim_cond job arch (Leaves job arch l) past before s (rax arch == 1) _ _ (λ _. write_claim past before s (rdi arch) (rsi arch) (rdx arch) within)
      (λ _. claim_cond job arch (Leaves job arch l) past before s (rax arch == 24) _ _ (λ _. serves past before s 0 within)
      (λ _. claim_cond job arch (Leaves job arch l) past before s (rax arch == 56) _ _ (λ _. clone_claim job arch l free past before s within)
      (λ _. claim_cond job arch (Leaves job arch l) past before s (rax arch == 60) _ _ (λ _. exit_claim past before s made within)
      (λ _. claim_cond job arch (Leaves job arch l) past before s (rax arch == 158) _ _ (λ _. prctl_claim past before s within)
      (λ _. claim_cond job arch (Leaves job arch l) past before s (rax arch == 186) _ _ (λ _. serves past before s _ within)
      (λ _. claim_cond job arch (Leaves job arch l) past before s (rax arch == 231) _ _ (λ _. exit_group_claim past before s within)
      (λ _. fails past before s errno.NoSys within)))))))
