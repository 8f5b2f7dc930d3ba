-- What a thread claims of rt_sigaction, rt_sigprocmask and tgkill. Source: own.
use Rattle.std.proofs.Common.{◌≡◌, ◌≢◌, ℕ, ◌+◌, ◌-◌, ◌<◌, ◌≤◌, inl, inr, Bool, true, false, List, [], ◌∷◌, Option, Some, None, refl, ap, arith}
use Rattle.std.specs.Prelude.{◌==◌, ◌&&◌, ◌||◌, not, is_some, nat_lt, Ok, Err}
use Rattle.std.proofs.lemmas.Bool.Decides.{nat_tests}
use Rattle.cet_words.specs.Bytes.{code_byte}
use Rattle.cet_words.proofs.ByteLaws.{code_place}
use Rattle.cet_words.specs.Job.{JobData, IsJob}
use Rattle.cet_words.specs.Layout.{action_word, first_kernel_word, first_shadow_word, next_thread_word, pend_word, token_word}
use Rattle.cet_words.specs.declared.accesses.Access.TheVariants as access
use Rattle.cet_isa.specs.declared.threads.Arch.{Arch}
use Rattle.cet_book.proofs.Cases.{and_true}
use Rattle.cet_page.specs.Finish.{r10, rdi, rdx, rsi}
use Rattle.cet_page.specs.Gate.{failed, serve}
use Rattle.cet_page.specs.Parts.{store, store_as}
use Rattle.cet_page.specs.Script.{Script, done, ◌>>=◌}
use Rattle.cet_page.specs.Signals.{action_refused, allowed_flags, asked_action, asked_mask, change_action, change_mask, copy_action, copy_mask, group, has_handler, is_allowed, is_code, is_thread, last_signal}
use Rattle.cet_page.specs.Signals.{load_action, mask_refused, mask_size, new_action, new_mask, old_action, old_mask, post, rt_sigaction, rt_sigprocmask, set_action, set_handler, tgkill}
use Rattle.cet_page.specs.Structures.{Given, given_span, given_word}
use Rattle.cet_page.specs.Trail.{Visit, visit}
use Rattle.cet_page.specs.declared.actions.Action.{Action}
use Rattle.cet_page.specs.declared.checks.Kind.TheVariants as kind
use Rattle.cet_page.specs.declared.services.Errno.{Errno}
use Rattle.cet_page.specs.declared.services.Errno.TheVariants as errno
use Rattle.cet_own.specs.Past.{restorer_word}
use Rattle.cet_own.specs.Safe.{IsElsewhere}
use Rattle.cet_own.specs.Facts.{IsRestorer}
use Rattle.cet_own.proofs.Actions.{sets_handler, sets_other, sets_restorer}
use Rattle.cet_own.specs.Threads.{Ends}
use Rattle.cet_own.proofs.Classes.{stores as stored}
use Rattle.cet_own.proofs.DeliveryClaims.{pend_out}
use Rattle.cet_own.proofs.GateParts.{gate_out_then}
use Rattle.cet_own.proofs.KernelParts.{Leaves, Within, failed_claim, serve_claim}
use Rattle.cet_own.specs.Owed.{Owed, State, own_stack}
use Rattle.cet_own.proofs.Parts.{Claim, claim_bind, claim_cond, fetch_or_then, kernel_load_then}
use Rattle.cet_own.proofs.Progress.{untouched}
use Rattle.cet_own.proofs.Resting.{inside_kept, inside_left, inside_stacked, rested}
use Rattle.cet_own.proofs.Still.{or_false}
use Rattle.cet_own.proofs.StructureParts.{Below, given_load_span, given_load_word, given_store_span, given_store_word, low_word, store_each_claim}

-- the word of a structure, where there is one, is below this one
abbrev BelowWord : (bound : ℕ) → Option ℕ → Type 0
BelowWord bound None = Unit {0}
BelowWord bound (Some word) = word < bound

-- code is a restorer, and not 0
code_restorer : (job : JobData) (addr : ℕ) → is_code job addr ≡ true → IsRestorer job.image addr
code_restorer job addr e = inr (λ none. let z : is_code job addr ≡ false = ap (λ (o : Option ℕ). is_some o) none in cc)

-- code lies in the image
restorer_place : (job : JobData) (addr : ℕ) → IsJob job → is_code job addr ≡ true → 0 < addr
restorer_place job addr j code = by_byte (code_byte job.image.segments addr) refl code
  where
    by_byte : (o : Option ℕ) → code_byte job.image.segments addr ≡ o → is_some o ≡ true → 0 < addr
    by_byte None e some = cc
    by_byte (Some b) e some = let p = code_place job.image.segments addr b j.image.each e in let low = p.0 in omega arith

module _ (job : JobData) (j : IsJob job) (arch : Arch) (l : own_stack job arch.number < 8) (free : IsElsewhere job arch) where
  abbrev gate : ℕ
  gate = own_stack job arch.number

  abbrev Inner : List Visit → State → Type 0
  Inner past s = Within job arch l untouched past s

  fails : (past : List Visit) (before s : State) (error : Errno) → Inner past s → Claim job arch (Leaves job arch l) past before s (done (failed arch error))
  fails past before s error within = failed_claim job arch l {drawing = false} {numbering = false} past before s error free within

  serves : (past : List Visit) (before s : State) (result : ℕ) → Inner past s → Claim job arch (Leaves job arch l) past before s (done (serve arch result))
  serves past before s result within = serve_claim job arch l {drawing = false} {numbering = false} past before s result free within

  -- ---- the words of an action

  action_claim : (Q : List Visit → State → State → Action → Type 0) (past : List Visit) (before s : State) (word : ℕ) → word + 3 < token_word 0 - 1 → Inner past s →
      ((p : List Visit) (z n : State) (action : Action) → Inner p n → Q p z n action) → Claim job arch Q past before s (load_action word)
  unfolding load_action
  action_claim Q past before s word low within h =
      kernel_load_then job arch Q past before s gate word _ (λ k z. omega arith) within (λ n1 r1 handler within1.
      kernel_load_then job arch Q _ n1 n1 gate (word + 1) _ (λ k z. omega arith) within1 (λ n2 r2 flags within2.
      kernel_load_then job arch Q _ n2 n2 gate (word + 2) _ (λ k z. omega arith) within2 (λ n3 r3 restorer within3.
      kernel_load_then job arch Q _ n3 n3 gate (word + 3) _ (λ k z. omega arith) within3 (λ n4 r4 mask within4.
      h _ n4 n4 (record { handler = handler; flags = flags; restorer = restorer; mask = mask }) within4))))

  asked_claim : (Q : List Visit → State → State → Option Action → Type 0) (past : List Visit) (before s : State) (o : Option ℕ) → BelowWord first_kernel_word o → Inner past s →
      ((p : List Visit) (z n : State) (asked : Option Action) → Inner p n → Q p z n asked) → Claim job arch Q past before s (asked_action o)
  unfolding asked_action
  asked_claim Q past before s None low within h = h past before s None within
  asked_claim Q past before s (Some word) low within h =
      claim_bind job arch Q past before s (load_action word) _ (action_claim _ past before s word (omega arith) within (λ p z n action within1. h p z n (Some action) within1))

  copy_claim : (Q : List Visit → State → State → Unit {0} → Type 0) (past : List Visit) (before s : State) (signal : ℕ) (o : Option ℕ) → signal < 64 → BelowWord (first_shadow_word - 3) o →
      Inner past s → ((p : List Visit) (z n : State) → Inner p n → Q p z n tt) → Claim job arch Q past before s (copy_action signal o)
  unfolding copy_action
  copy_claim Q past before s signal None few low within h = h past before s within
  copy_claim Q past before s signal (Some word) few low within h =
      claim_bind job arch Q past before s (load_action (action_word signal)) _ (action_claim _ past before s (action_word signal) (omega arith) within (λ p z n action within1.
      store_each_claim job arch l {d = untouched} Q p z n word (action.handler ∷ action.flags ∷ action.restorer ∷ action.mask ∷ []) (omega arith) within1 (λ p' z' n' r within2. h p' z' n' within2)))

  -- a store to a word of the signal
  action_store : {A : Type 0} (Q : List Visit → State → State → A → Type 0) (past : List Visit) (before s : State) (word value : ℕ) (f : Unit {0} → Script A) → word < token_word 0 - 1 →
      ((now : State) → Owed job.image arch.number gate past now.book (access.Store word value) 0 []) → Inner past s →
      ((now : State) → Inner (visit (access.Store word value) 0 [] ∷ past) now → Claim job arch Q (visit (access.Store word value) 0 [] ∷ past) now now (f tt)) →
      Claim job arch Q past before s (store word value >>= f)
  unfolding store_as
  action_store Q past before s word value f low owed within h =
      let apart : (word == token_word gate - 1) ≡ false = (let n : word ≢ token_word gate - 1 = omega arith in grind (arith, nat_tests)) in
      claim_bind job arch Q past before s (store word value) f (inside_stacked within, λ now r known. (owed now, now, refl, h now (inside_left (rw apart refl) (inside_kept r within))))

  -- the restorer comes first, and the handler last
  handler_claim : (Q : List Visit → State → State → Unit {0} → Type 0) (past : List Visit) (before s : State) (signal : ℕ) (action : Action) → signal < 64 → 0 < action.restorer →
      IsRestorer job.image action.restorer → Inner past s → ((p : List Visit) (z n : State) → Inner p n → Q p z n tt) → Claim job arch Q past before s (set_handler signal action)
  unfolding set_handler store_as
  handler_claim Q past before s signal action few some is within h =
      action_store Q past before s (action_word signal + 2) action.restorer _ (omega arith) (λ now. sets_restorer signal action.restorer few some is refl refl) within (λ n1 within1.
      action_store Q _ n1 n1 (action_word signal + 1) action.flags _ (omega arith) (λ now. sets_other signal 1 action.flags few (inl refl) refl refl) within1 (λ n2 within2.
      action_store Q _ n2 n2 (action_word signal + 3) action.mask _ (omega arith) (λ now. sets_other signal 3 action.mask few (inr refl) refl refl) within2 (λ n3 within3.
      let apart : (action_word signal == token_word gate - 1) ≡ false = (let n : action_word signal ≢ token_word gate - 1 = omega arith in grind (arith, nat_tests)) in
      let other1 : (action_word signal + 1 == restorer_word signal) ≡ false = (let n : action_word signal + 1 ≢ restorer_word signal = omega arith in grind (arith, nat_tests)) in
      let other3 : (action_word signal + 3 == restorer_word signal) ≡ false = (let n : action_word signal + 3 ≢ restorer_word signal = omega arith in grind (arith, nat_tests)) in
      let here : (action_word signal + 2 == restorer_word signal) ≡ true = grind (arith, nat_tests) in
      let above : nat_lt 0 action.restorer ≡ true = grind (arith, nat_tests) in (
        inside_stacked within3,
        λ now r known. (
          sets_handler signal action.handler few (inr (rw (other1, other3, here, above) refl)) refl refl,
          now,
          refl,
          h _ now now (inside_left (rw apart refl) (inside_kept r within3)),
        ),
      ))))

  -- 0 or 1
  plain_claim : (Q : List Visit → State → State → Unit {0} → Type 0) (past : List Visit) (before s : State) (signal value : ℕ) → signal < 64 → value ≤ 1 → Inner past s →
      ((p : List Visit) (z n : State) → Inner p n → Q p z n tt) → Claim job arch Q past before s (store (action_word signal) value)
  unfolding store_as
  plain_claim Q past before s signal value few low within h =
      let apart : (action_word signal == token_word gate - 1) ≡ false = (let n : action_word signal ≢ token_word gate - 1 = omega arith in grind (arith, nat_tests)) in
      (inside_stacked within, λ now r known. (sets_handler signal value few (inl low) refl refl, now, refl, h _ now now (inside_left (rw apart refl) (inside_kept r within))))

  set_claim : (Q : List Visit → State → State → Unit {0} → Type 0) (past : List Visit) (before s : State) (signal : ℕ) (asked : Option Action) → signal < 64 → is_allowed job asked ≡ true →
      Inner past s → ((p : List Visit) (z n : State) → Inner p n → Q p z n tt) → Claim job arch Q past before s (set_action signal asked)
  unfolding set_action
  set_claim Q past before s signal None few allowed within h = h past before s within
  set_claim Q past before s signal (Some action) few allowed within h =
      claim_cond job arch Q past before s (has_handler action) _ _
      (λ has.
      let code : is_code job action.restorer ≡ true = by_allowed (has_handler action) (allowed_flags action.flags) (is_code job action.restorer) has allowed in
      handler_claim Q past before s signal action few (above action.restorer code) (code_restorer job action.restorer code) within h)
      (λ none. plain_claim Q past before s signal action.handler few (let low : nat_lt 1 action.handler ≡ false = none in grind (arith, nat_tests)) within h)
    where
      by_allowed : (a b c : Bool) → a ≡ true → (not a || (b && c)) ≡ true → c ≡ true
      by_allowed true b c e h = (and_true b c h).1
      by_allowed false b c e h = cc

      above : (addr : ℕ) → is_code job addr ≡ true → 0 < addr
      above addr code = restorer_place job addr j code

  -- ---- rt_sigaction

  change_claim : (past : List Visit) (before s : State) (old : Option ℕ) (asked : Option Action) → rdi arch < 64 → BelowWord (first_shadow_word - 3) old → Inner past s →
      Claim job arch (Leaves job arch l) past before s (change_action job arch old asked)
  unfolding change_action
  change_claim past before s old asked few low within =
      claim_cond job arch (Leaves job arch l) past before s (is_allowed job asked) _ _
      (λ allowed. claim_bind job arch (Leaves job arch l) past before s (copy_action (rdi arch) old) _
      (copy_claim _ past before s (rdi arch) old few low within (λ p z n within1.
      claim_bind job arch (Leaves job arch l) p z n (set_action (rdi arch) asked) _
      (set_claim _ p z n (rdi arch) asked few allowed within1 (λ p' z' n' within2. serves p' z' n' 0 within2)))))
      (λ _. fails past before s errno.Inval within)

  new_claim : (past : List Visit) (before s : State) (new : Option ℕ) (old : Given) → rdi arch < 64 → BelowWord first_kernel_word new → Below (first_shadow_word - 3) old → Inner past s →
      Claim job arch (Leaves job arch l) past before s (new_action job arch new old)
  unfolding new_action
  new_claim past before s new (Err error) few low low' within = fails past before s error within
  new_claim past before s new (Ok None) few low low' within =
      claim_bind job arch (Leaves job arch l) past before s (asked_action new) _ (asked_claim _ past before s new low within (λ p z n asked within1. change_claim p z n None asked few tt within1))
  new_claim past before s new (Ok (Some old)) few low low' within =
      claim_bind job arch (Leaves job arch l) past before s (asked_action new) _ (asked_claim _ past before s new low within (λ p z n asked within1. change_claim p z n (Some old) asked few low' within1))

  old_claim : (past : List Visit) (before s : State) (new : Given) → rdi arch < 64 → Below first_kernel_word new → Inner past s → Claim job arch (Leaves job arch l) past before s (old_action job arch new)
  unfolding old_action
  old_claim past before s (Err error) few low within = fails past before s error within
  old_claim past before s (Ok None) few low within =
      claim_bind job arch (Leaves job arch l) past before s (given_span kind.Store (rdx arch) 24) _
      (given_store_span job arch l {d = untouched} _ past before s (rdx arch) within (λ p z n old low' within1. new_claim p z n None old few tt low' within1))
  old_claim past before s (Ok (Some new)) few low within =
      claim_bind job arch (Leaves job arch l) past before s (given_span kind.Store (rdx arch) 24) _
      (given_store_span job arch l {d = untouched} _ past before s (rdx arch) within (λ p z n old low' within1. new_claim p z n (Some new) old few low low' within1))

  pub rt_sigaction_claim : (past : List Visit) (before s : State) → Inner past s → Claim job arch (Leaves job arch l) past before s (rt_sigaction job arch)
  unfolding rt_sigaction
  rt_sigaction_claim past before s within =
      claim_cond job arch (Leaves job arch l) past before s (action_refused (rdi arch) (rsi arch) (r10 arch)) _ _ (λ _. fails past before s errno.Inval within)
      (λ taken. claim_bind job arch (Leaves job arch l) past before s (given_span kind.Load (rsi arch) 24) _
      (given_load_span job arch l {d = untouched} _ past before s (rsi arch) 24 within (λ p z n new low within1.
      old_claim p z n new (few taken) low within1)))
    where
      few : action_refused (rdi arch) (rsi arch) (r10 arch) ≡ false → rdi arch < 64
      few e =
          let tests = or_false (not (r10 arch == mask_size) || rdi arch == 0 || nat_lt last_signal (rdi arch)) _ e in
          let above = or_false (not (r10 arch == mask_size) || rdi arch == 0) (nat_lt last_signal (rdi arch)) tests.0 in
          let most : nat_lt last_signal (rdi arch) ≡ false = above.1 in
          let low : rdi arch ≤ last_signal = grind (arith, nat_tests) in
          omega arith

  -- ---- rt_sigprocmask

  mask_claim : (past : List Visit) (before s : State) (mask : ℕ) → Inner past s → Leaves job arch l past before s (serve (record arch { mask = mask }) 0)
  mask_claim past before s mask within = gate_out_then job arch l (Ends job arch) past before s _ within (λ p z n rest. (rested rest, λ held now. free, tt))

  asked_mask_claim : (Q : List Visit → State → State → ℕ → Type 0) (past : List Visit) (before s : State) (set : Option ℕ) → BelowWord first_kernel_word set → Inner past s →
      ((p : List Visit) (z n : State) (mask : ℕ) → Inner p n → Q p z n mask) → Claim job arch Q past before s (asked_mask arch set)
  unfolding asked_mask
  asked_mask_claim Q past before s None low within h = h past before s (new_mask arch None) within
  asked_mask_claim Q past before s (Some word) low within h =
      kernel_load_then job arch Q past before s gate word _ (λ k z. omega arith) within (λ now r set within1. h _ now now (new_mask arch (Some set)) within1)

  copy_mask_claim : (Q : List Visit → State → State → Unit {0} → Type 0) (past : List Visit) (before s : State) (old : Option ℕ) → BelowWord first_shadow_word old → Inner past s →
      ((p : List Visit) (z n : State) → Inner p n → Q p z n tt) → Claim job arch Q past before s (copy_mask arch old)
  unfolding copy_mask store_as
  copy_mask_claim Q past before s None low within h = h past before s within
  copy_mask_claim Q past before s (Some word) low within h =
      let apart : (word == token_word gate - 1) ≡ false = (let n : word ≢ token_word gate - 1 = omega arith in grind (arith, nat_tests)) in
      (inside_stacked within, λ now r known. (stored word arch.mask refl (low_word word low) refl, now, refl, h _ now now (inside_left (rw apart refl) (inside_kept r within))))

  changed_mask_claim : (past : List Visit) (before s : State) (set : Option ℕ) (old : Option ℕ) → BelowWord first_kernel_word set → BelowWord first_shadow_word old → Inner past s →
      Claim job arch (Leaves job arch l) past before s (change_mask arch set (Ok old))
  unfolding change_mask
  changed_mask_claim past before s set old low low' within =
      claim_bind job arch (Leaves job arch l) past before s (asked_mask arch set) _ (asked_mask_claim _ past before s set low within (λ p z n mask within1.
      claim_bind job arch (Leaves job arch l) p z n (copy_mask arch old) _ (copy_mask_claim _ p z n old low' within1 (λ p' z' n' within2. mask_claim p' z' n' mask within2))))

  change_mask_claim : (past : List Visit) (before s : State) (set : Option ℕ) (old : Given) → BelowWord first_kernel_word set → Below first_shadow_word old → Inner past s →
      Claim job arch (Leaves job arch l) past before s (change_mask arch set old)
  unfolding change_mask
  change_mask_claim past before s set (Err error) low low' within = fails past before s error within
  change_mask_claim past before s set (Ok None) low low' within = changed_mask_claim past before s set None low tt within
  change_mask_claim past before s set (Ok (Some old)) low low' within = changed_mask_claim past before s set (Some old) low low' within

  old_mask_claim : (past : List Visit) (before s : State) (set : Given) → Below first_kernel_word set → Inner past s → Claim job arch (Leaves job arch l) past before s (old_mask arch set)
  unfolding old_mask
  old_mask_claim past before s (Err error) low within = fails past before s error within
  old_mask_claim past before s (Ok None) low within =
      claim_bind job arch (Leaves job arch l) past before s (given_word kind.Store (rdx arch)) _
      (given_store_word job arch l {d = untouched} _ past before s (rdx arch) within (λ p z n old low' within1. change_mask_claim p z n None old tt low' within1))
  old_mask_claim past before s (Ok (Some set)) low within =
      claim_bind job arch (Leaves job arch l) past before s (given_word kind.Store (rdx arch)) _
      (given_store_word job arch l {d = untouched} _ past before s (rdx arch) within (λ p z n old low' within1. change_mask_claim p z n (Some set) old low low' within1))

  pub rt_sigprocmask_claim : (past : List Visit) (before s : State) → Inner past s → Claim job arch (Leaves job arch l) past before s (rt_sigprocmask arch)
  unfolding rt_sigprocmask
  rt_sigprocmask_claim past before s within =
      claim_cond job arch (Leaves job arch l) past before s (mask_refused (rdi arch) (rsi arch) (r10 arch)) _ _ (λ _. fails past before s errno.Inval within)
      (λ _. claim_bind job arch (Leaves job arch l) past before s (given_word kind.Load (rsi arch)) _
      (given_load_word job arch l {d = untouched} _ past before s (rsi arch) within (λ p z n set low within1. old_mask_claim p z n set low within1)))

  -- ---- tgkill

  post_claim : (past : List Visit) (before s : State) (born : ℕ) → Inner past s → Claim job arch (Leaves job arch l) past before s (post arch born)
  unfolding post
  post_claim past before s born within =
      claim_cond job arch (Leaves job arch l) past before s (not (is_thread born (rsi arch))) _ _ (λ _. fails past before s errno.Srch within)
      (λ is. claim_cond job arch (Leaves job arch l) past before s (rdx arch == 0) _ _ (λ _. serves past before s 0 within)
      (λ _.
      let few : rsi arch - group < 32 = grind (arith, nat_tests) in
      let apart : (pend_word (rsi arch - group) == token_word gate - 1) ≡ false = (let n : pend_word (rsi arch - group) ≢ token_word gate - 1 = omega arith in grind (arith, nat_tests)) in
      fetch_or_then job arch (Leaves job arch l) past before s (pend_word (rsi arch - group)) _ _ (pend_out (rsi arch - group) few) (inside_stacked within) (λ now r v.
      serves _ now now 0 (inside_left (rw apart refl) (inside_kept r within)))))

  pub tgkill_claim : (past : List Visit) (before s : State) → Inner past s → Claim job arch (Leaves job arch l) past before s (tgkill arch)
  unfolding tgkill
  tgkill_claim past before s within =
      claim_cond job arch (Leaves job arch l) past before s (nat_lt last_signal (rdx arch)) _ _ (λ _. fails past before s errno.Inval within)
      (λ _. claim_cond job arch (Leaves job arch l) past before s (not (rdi arch == group)) _ _ (λ _. fails past before s errno.Srch within)
      (λ _. kernel_load_then job arch (Leaves job arch l) past before s gate next_thread_word _ (λ k z. omega arith) within (λ now r born within1. post_claim _ now now born within1)))
