-- What a thread in the kernel claims of structures of its program: looks, loads and stores of words one after another. Source: own.
use Rattle.std.proofs.Common.{◌≡◌, ℕ, zero, suc, ◌+◌, ◌-◌, ◌*◌, ◌/◌, ◌<◌, ◌≤◌, inl, true, false, List, [], ◌∷◌, length, Option, Some, None, refl, sym, subst, arith}
use Rattle.std.specs.Prelude.{◌==◌, ◌%◌, Ok, Err}
use Rattle.cet_words.specs.Job.{JobData}
use Rattle.cet_words.specs.Layout.{page_at, word_in, first_kernel_page, first_kernel_word, first_shadow_page, first_shadow_word, shadow_end, shadow_start, token_word}
use Rattle.cet_isa.specs.declared.threads.Arch.{Arch}
use Rattle.cet_book.specs.Book.{region}
use Rattle.cet_book.specs.Facts.{In, LiesIn}
use Rattle.cet_book.specs.Shape.{Shape}
use Rattle.cet_book.specs.Relied.{Relies, relies_same, relies_then}
use Rattle.cet_page.specs.Page.{allows}
use Rattle.cet_page.specs.Parts.{load_as, loads, probe, store_each}
use Rattle.cet_page.specs.Script.{Script, done, ◌>>=◌}
use Rattle.cet_page.specs.Structures.{Given, given, given_at, given_span, given_word, one_word, span}
use Rattle.cet_page.specs.Trail.{Visit}
use Rattle.cet_page.specs.Word64.{add64}
use Rattle.cet_page.specs.declared.checks.Kind.{Kind}
use Rattle.cet_page.specs.declared.checks.Kind.TheVariants as kind
use Rattle.cet_page.specs.declared.checks.Who.TheVariants.{User}
use Rattle.cet_page.specs.declared.services.Errno.TheVariants as errno
use Rattle.cet_page.proofs.StructureLaws.{unwrapped, words_follow}
use Rattle.cet_own.specs.Facts.{IsEntry}
use Rattle.cet_own.proofs.Classes.{stores as stored}
use Rattle.cet_own.specs.Holds.{IsOut}
use Rattle.cet_own.proofs.KernelParts.{Within, probe_known}
use Rattle.cet_own.specs.Owed.{State, own_stack}
use Rattle.cet_own.proofs.Parts.{Claim, claim_bind, claim_cond, kernel_load_then}
use Rattle.cet_own.proofs.Places.{entry_there, in_page, load_page, shadow_page, store_page}
use Rattle.cet_own.proofs.Progress.{Progress}
use Rattle.cet_own.proofs.Resting.{inside_kept, inside_left, inside_stacked}
use Rattle.cet_own.proofs.Still.{not_below}

-- a word below those of the shadow area matters for no stack
pub low_word : (word : ℕ) → word < first_shadow_word → IsOut word
low_word word l = record { shadow = inl l; entry = omega arith; token = λ k lk. omega arith; below = λ k lk. omega arith; actions = inl (omega arith); draw = omega arith; next = omega arith; exit = omega arith }

-- the last word of a structure that the user may store to is none of the shadow area
span_low : (addr page other n : ℕ) → n < 512 → page_at addr ≡ Some page → page_at (add64 addr (8 * n)) ≡ Some other → other < first_shadow_page → word_in page addr + n < first_shadow_word
span_low addr page other n few here there low =
    let plain : add64 addr (8 * n) ≡ addr + 8 * n = unwrapped addr page (8 * n) (omega arith) here in
    let follow = words_follow addr page n other few here (subst (λ a. page_at a ≡ Some other) plain there) in
    omega arith

-- the word of what was given is below this one
abbrev pub Below : (bound : ℕ) → Given → Type 0
Below bound (Err error) = Unit {0}
Below bound (Ok None) = Unit {0}
Below bound (Ok (Some word)) = word < bound

module _ (job : JobData) (arch : Arch) (l : own_stack job arch.number < 8) where
  abbrev gate : ℕ
  gate = own_stack job arch.number

  -- stores of values, the lowest first, below the shadow area
  pub store_each_claim : {d : Progress} (Q : List Visit → State → State → Unit {0} → Type 0) (past : List Visit) (before s : State) (word : ℕ) (values : List ℕ) →
      word + length values ≤ first_shadow_word → Within job arch l d past s → ((p : List Visit) (z n : State) → Relies arch.number s.book n.book → Within job arch l d p n → Q p z n tt) →
      Claim job arch Q past before s (store_each word values)
  unfolding store_each
  store_each_claim Q past before s word [] few within h = h past before s (relies_same arch.number s.book) within
  store_each_claim {d = d} Q past before s word (value ∷ values) few within h = (
    inside_stacked within,
    λ now r known.
        let apart : (word == token_word gate - 1) ≡ false = not_below word gate (λ z. omega arith) in (
          stored word value refl (low_word word (omega arith)) refl,
          now,
          refl,
          store_each_claim {d = d} Q _ now now (word + 1) values (omega arith) (inside_left (rw apart refl) (inside_kept r within))
              (λ p z n r' within'. h p z n (relies_then r r') within'),
        ),
  )

  -- loads of words one after another, below the first supervisor stack's token
  pub loads_claim : {d : Progress} (Q : List Visit → State → State → List ℕ → Type 0) (past : List Visit) (before s : State) (count word : ℕ) → word + count < token_word 0 →
      Within job arch l d past s → ((p : List Visit) (z n : State) (values : List ℕ) → Relies arch.number s.book n.book → Within job arch l d p n → Q p z n values) →
      Claim job arch Q past before s (loads count word)
  unfolding loads load_as ◌>>=◌
  loads_claim Q past before s zero word few within h = h past before s [] (relies_same arch.number s.book) within
  loads_claim {d = d} Q past before s (suc count) word few within h =
      kernel_load_then job arch Q past before s gate word (λ value. loads count (word + 1) >>= (λ values. done (value ∷ values))) (λ k z. omega arith) within (λ now r v within'.
      claim_bind job arch Q _ now now (loads count (word + 1)) (λ values. done (v ∷ values))
      (loads_claim {d = d} (λ p z n values. Q p z n (v ∷ values)) _ now now count (word + 1) (omega arith) within'
      (λ p z n values r' within''. h p z n (v ∷ values) (relies_then r r') within'')))

  -- ---- looks

  pub span_claim : {d : Progress} (Q : List Visit → State → State → Option ℕ → Type 0) (past : List Visit) (before s : State) (kd : Kind) (addr last : ℕ) → Within job arch l d past s →
      ((p : List Visit) (z n : State) → Within job arch l d p n → Q p z n None) → ((p : List Visit) (z n : State) (page other u v : ℕ) → page_at addr ≡ Some page →
      page_at (add64 addr last) ≡ Some other → IsEntry job.image page u → IsEntry job.image other v → allows u kd User ≡ true → allows v kd User ≡ true → Within job arch l d p n →
      Q p z n (Some (word_in page addr))) → Claim job arch Q past before s (span kd addr last)
  unfolding span
  span_claim {d = d} Q past before s kd addr last within none some =
      probe_known job arch l {d = d} Q past before s kd User addr _ within none (λ p z n page u at r known a within1.
      probe_known job arch l {d = d} Q p z n kd User (add64 addr last) _ within1 none (λ p' z' n' other v at' r' known' a' within2.
      some p' z' n' page other u v at at' (known.entry page refl) (known'.entry other refl) a a' within2))

  -- of a structure that is stored to
  pub store_span_claim : {d : Progress} (Q : List Visit → State → State → Option ℕ → Type 0) (past : List Visit) (before s : State) (addr n : ℕ) → n < 512 → Within job arch l d past s →
      ((p : List Visit) (z m : State) → Within job arch l d p m → Q p z m None) → ((p : List Visit) (z m : State) (word : ℕ) → word + n < first_shadow_word → Within job arch l d p m →
      Q p z m (Some word)) → Claim job arch Q past before s (span kind.Store addr (8 * n))
  store_span_claim {d = d} Q past before s addr n few within none some =
      span_claim {d = d} Q past before s kind.Store addr (8 * n) within none (λ p z m page other u v at at' entry entry' a a' within1.
      some p z m (word_in page addr) (span_low addr page other n few at at' (store_page job.image other v entry' a')) within1)

  -- of one that is loaded
  pub load_span_claim : {d : Progress} (Q : List Visit → State → State → Option ℕ → Type 0) (past : List Visit) (before s : State) (addr last : ℕ) → Within job arch l d past s →
      ((p : List Visit) (z m : State) → Within job arch l d p m → Q p z m None) → ((p : List Visit) (z m : State) (word : ℕ) → word < first_kernel_word → Within job arch l d p m →
      Q p z m (Some word)) → Claim job arch Q past before s (span kind.Load addr last)
  load_span_claim {d = d} Q past before s addr last within none some =
      span_claim {d = d} Q past before s kind.Load addr last within none (λ p z m page other u v at at' entry entry' a a' within1.
      let low : page < first_kernel_page = load_page job.image page u entry a in
      some p z m (word_in page addr) (omega arith) within1)

  pub store_word_claim : {d : Progress} (Q : List Visit → State → State → Option ℕ → Type 0) (past : List Visit) (before s : State) (addr : ℕ) → Within job arch l d past s →
      ((p : List Visit) (z m : State) → Within job arch l d p m → Q p z m None) → ((p : List Visit) (z m : State) (word : ℕ) → word < first_shadow_word → Within job arch l d p m →
      Q p z m (Some word)) → Claim job arch Q past before s (one_word kind.Store addr)
  unfolding one_word
  store_word_claim {d = d} Q past before s addr within none some =
      probe_known job arch l {d = d} Q past before s kind.Store User addr _ within none (λ p z m page v at r known a within1.
      let low : page < first_shadow_page = store_page job.image page v (known.entry page refl) a in
      some p z m (word_in page addr) (omega arith) within1)

  pub load_word_claim : {d : Progress} (Q : List Visit → State → State → Option ℕ → Type 0) (past : List Visit) (before s : State) (addr : ℕ) → Within job arch l d past s →
      ((p : List Visit) (z m : State) → Within job arch l d p m → Q p z m None) → ((p : List Visit) (z m : State) (word : ℕ) → word < first_kernel_word → Within job arch l d p m →
      Q p z m (Some word)) → Claim job arch Q past before s (one_word kind.Load addr)
  unfolding one_word
  load_word_claim {d = d} Q past before s addr within none some =
      probe_known job arch l {d = d} Q past before s kind.Load User addr _ within none (λ p z m page v at r known a within1.
      let low : page < first_kernel_page = load_page job.image page v (known.entry page refl) a in
      some p z m (word_in page addr) (omega arith) within1)

  -- a look at a shadow stack passes in regions alone
  pub shadow_probe_then : {A : Type 0} {d : Progress} (Q : List Visit → State → State → A → Type 0) (past : List Visit) (before s : State) (kd : Kind) (addr : ℕ) (f : Option ℕ → Script A) →
      shadow_start ≤ addr → addr < shadow_end → Within job arch l d past s → ((p : List Visit) (z n : State) → Within job arch l d p n → Claim job arch Q p z n (f None)) →
      ((p : List Visit) (z n : State) → Relies arch.number s.book n.book → Shape n.book → (i : ℕ) → In (region n.book i) addr → Within job arch l d p n →
      Claim job arch Q p z n (f (Some (first_shadow_page + (addr - shadow_start) / 4096)))) → Claim job arch Q past before s (probe kd User addr >>= f)
  shadow_probe_then {d = d} Q past before s kd addr f low high within none some =
      probe_known job arch l {d = d} Q past before s kd User addr f within none (λ p z n page v at r known a within1.
      let is : first_shadow_page + (addr - shadow_start) / 4096 ≡ page = (let e = shadow_page addr low high in cc) in
      let lies = known.look page refl (omega arith) (omega arith) (entry_there kd v a) in
      subst (λ m. Claim job arch Q p z n (f (Some m))) is (some p z n r known.sound.book.shape lies.0 (in_page n.book lies.0 addr low high (subst (LiesIn (region n.book lies.0)) (sym is) lies.1)) within1))

  -- ---- what a service is given

  given_claim : {d : Progress} (bound : ℕ) (Q : List Visit → State → State → Given → Type 0) (past : List Visit) (before s : State) (addr : ℕ) (found : Script (Option ℕ)) →
      Within job arch l d past s → ((R : List Visit → State → State → Option ℕ → Type 0) → ((p : List Visit) (z m : State) → Within job arch l d p m → R p z m None) →
      ((p : List Visit) (z m : State) (word : ℕ) → word < bound → Within job arch l d p m → R p z m (Some word)) → Claim job arch R past before s found) →
      ((p : List Visit) (z m : State) (g : Given) → Below bound g → Within job arch l d p m → Q p z m g) → Claim job arch Q past before s (given_at addr found)
  given_claim bound Q past before s addr found within c h =
      claim_cond job arch Q past before s (addr == 0) _ _ (λ _. h past before s (Ok None) tt within)
      (λ _. claim_cond job arch Q past before s (addr % 8 == 0) _ _
      (λ _. claim_bind job arch Q past before s found (λ word. done (given word))
      (c (λ p z m word. Claim job arch Q p z m (done (given word))) (λ p z m within1. h p z m (Err errno.Fault) tt within1) (λ p z m word low within1. h p z m (Ok (Some word)) low within1)))
      (λ _. h past before s (Err errno.Fault) tt within))

  pub given_load_span : {d : Progress} (Q : List Visit → State → State → Given → Type 0) (past : List Visit) (before s : State) (addr last : ℕ) → Within job arch l d past s →
      ((p : List Visit) (z m : State) (g : Given) → Below first_kernel_word g → Within job arch l d p m → Q p z m g) → Claim job arch Q past before s (given_span kind.Load addr last)
  unfolding given_span
  given_load_span {d = d} Q past before s addr last within h =
      given_claim {d = d} first_kernel_word Q past before s addr (span kind.Load addr last) within (λ R none some. load_span_claim {d = d} R past before s addr last within none some) h

  -- four words that are stored to
  pub given_store_span : {d : Progress} (Q : List Visit → State → State → Given → Type 0) (past : List Visit) (before s : State) (addr : ℕ) → Within job arch l d past s →
      ((p : List Visit) (z m : State) (g : Given) → Below (first_shadow_word - 3) g → Within job arch l d p m → Q p z m g) → Claim job arch Q past before s (given_span kind.Store addr 24)
  unfolding given_span
  given_store_span {d = d} Q past before s addr within h =
      given_claim {d = d} (first_shadow_word - 3) Q past before s addr (span kind.Store addr 24) within
      (λ R none some. store_span_claim {d = d} R past before s addr 3 (omega arith) within none (λ p z m word low within1. some p z m word (omega arith) within1)) h

  pub given_load_word : {d : Progress} (Q : List Visit → State → State → Given → Type 0) (past : List Visit) (before s : State) (addr : ℕ) → Within job arch l d past s →
      ((p : List Visit) (z m : State) (g : Given) → Below first_kernel_word g → Within job arch l d p m → Q p z m g) → Claim job arch Q past before s (given_word kind.Load addr)
  unfolding given_word
  given_load_word {d = d} Q past before s addr within h =
      given_claim {d = d} first_kernel_word Q past before s addr (one_word kind.Load addr) within (λ R none some. load_word_claim {d = d} R past before s addr within none some) h

  pub given_store_word : {d : Progress} (Q : List Visit → State → State → Given → Type 0) (past : List Visit) (before s : State) (addr : ℕ) → Within job arch l d past s →
      ((p : List Visit) (z m : State) (g : Given) → Below first_shadow_word g → Within job arch l d p m → Q p z m g) → Claim job arch Q past before s (given_word kind.Store addr)
  unfolding given_word
  given_store_word {d = d} Q past before s addr within h =
      given_claim {d = d} first_shadow_word Q past before s addr (one_word kind.Store addr) within (λ R none some. store_word_claim {d = d} R past before s addr within none some) h
