-- What a thread claims of the parts of its row, each with what follows it. Source: own.
use Rattle.cet_own.proofs.Still.{not_below}
use Rattle.std.proofs.Common.{eqb, ◌≡◌, ℕ, zero, suc, ◌+◌, ◌-◌, ◌/◌, ◌%◌, ◌<◌, ◌≤◌, Bool, true, false, cond, [], ◌∷◌, Option, Some, None, refl, sym, ◌∙◌, ap, subst, arith, List}
use Rattle.std.specs.Prelude.{option_map, option_and_then, ◌==◌, ◌≢◌}
use Rattle.std.proofs.lemmas.Bool.{eqb-true}
use Rattle.std.proofs.lemmas.Bool.Decides.{nat_tests}
use Rattle.cet_words.specs.Job.{JobData}
use Rattle.cet_words.specs.Layout.{exit_word, page_at, entry_word, token_word, first_kernel_page, first_mmap_page, first_shadow_page, shadow_end, shadow_start}
use Rattle.cet_words.specs.Change.{Change}
use Rattle.cet_words.specs.declared.accesses.Access.TheVariants as access
use Rattle.cet_isa.specs.Address.{canonical}
use Rattle.cet_isa.specs.declared.threads.Arch.{Arch}
use Rattle.cet_isa.specs.declared.threads.Fault.{Fault}
use Rattle.cet_book.specs.Book.{Book, book_after, region, top}
use Rattle.cet_book.specs.Relied.{Relies}
use Rattle.cet_page.specs.Script.{Script, done, fault, ◌>>=◌, no_changes}
use Rattle.cet_page.specs.Page.{allows, page_fault}
use Rattle.cet_page.specs.Parts.{clears, check_address, check_address_as, look_in_as, look, look_as, read_entry, load_as, load, store_as, store}
use Rattle.cet_page.specs.Parts.{compare_exchange_as, compare_exchange, swap, fetch_add_as, fetch_add, fetch_and, fetch_or, stores, alignment_check}
use Rattle.cet_page.specs.declared.checks.Kind.{Kind}
use Rattle.cet_page.specs.declared.checks.Kind.TheVariants as kind
use Rattle.cet_page.specs.declared.checks.Who.{Who}
use Rattle.cet_page.specs.declared.checks.Who.TheVariants.{User}
use Rattle.cet_own.specs.Safe.{AtReturn, IsReturnFault}
use Rattle.cet_own.proofs.Frame.{steady_bind, steady_cond}
use Rattle.cet_own.specs.Frame.{Steady}
use Rattle.cet_own.specs.ToldTokens.{MissesToken}
use Rattle.cet_book.specs.Facts.{In}
use Rattle.cet_own.specs.Holds.{IsOut}
use Rattle.cet_own.specs.Claims.{Stacked}
use Rattle.cet_own.specs.Owed.{State, state_after, Known, rules}
use Rattle.cet_own.specs.ExitWord.{IsEnding}
use Rattle.cet_own.proofs.Classes.{looks, stores as stored, exchanges, finishes, swaps, adds, ands, ors, clears as cleared, plain_loads}
use Rattle.cet_own.proofs.Places.{store_page, entry_there, shadow_page, in_page}
use Rattle.cet_own.specs.Past.{left_in, frame_pushed, below_frame}
use Rattle.cet_own.proofs.Progress.{Progress, progress, untouched}
use Rattle.cet_page.specs.Trail.{Visit, visit}
use Rattle.cet_own.specs.Threads.{During, Fails}
use Rattle.cet_own.proofs.Resting.{Resting, rest_kept, Inside, inside_kept, inside_left, rest_stacked, inside_stacked, rested}

-- what a thread claims of a script
abbrev pub Claim : {A : Type 0} → JobData → Arch → (Q : List Visit → State → State → A → Type 0) → (past : List Visit) → (before s : State) → Script A → Type 0
Claim job arch Q past before s script = Steady (rules job arch.number) (During arch) Q (λ p. Fails job arch) past before s script

pub one_after : (t : ℕ) (s : State) (b : Book) (c : Change) → book_after t s.book c ≡ Some b → state_after t s (c ∷ []) ≡ Some (record s { book = b })
one_after t s b c e = ap (λ (o : Option Book). option_map (λ b. record s { book = b }) (option_and_then (λ n. Some n) o)) e

module _ (job : JobData) (arch : Arch) where
  pub claim_bind : {A C : Type 0} (Q : List Visit → State → State → C → Type 0) (past : List Visit) (before s : State) (m : Script A) (f : A → Script C) →
      Claim job arch (λ p z n x. Claim job arch Q p z n (f x)) past before s m → Claim job arch Q past before s (m >>= f)
  claim_bind Q past before s m f h = steady_bind (rules job arch.number) (During arch) Q (λ p. Fails job arch) past before s m f h

  pub claim_cond : {A : Type 0} (Q : List Visit → State → State → A → Type 0) (past : List Visit) (before s : State) (c : Bool) (p q : Script A) → (c ≡ true → Claim job arch Q past before s p) →
      (c ≡ false → Claim job arch Q past before s q) → Claim job arch Q past before s (cond c p q)
  claim_cond Q past before s c p q x y = steady_cond (rules job arch.number) (During arch) Q (λ p. Fails job arch) past before s c p q x y

  pub check_address_as_then : {A : Type 0} (Q : List Visit → State → State → A → Type 0) (past : List Visit) (before s : State) (misaligned : Fault) (addr size : ℕ) (f : Unit {0} → Script A) →
      Resting arch.number untouched (progress past) s.book arch.ssp → (AtReturn job arch → IsReturnFault misaligned.name misaligned.code) ×
      MissesToken s.book misaligned.code misaligned.a misaligned.name → (canonical addr ≡ true → addr % size ≡ 0 → Claim job arch Q past before s (f tt)) →
      Claim job arch Q past before s (check_address_as misaligned addr size >>= f)
  unfolding check_address_as
  check_address_as_then Q past before s misaligned addr size f rest named h =
      claim_bind Q past before s (check_address_as misaligned addr size) f
      (claim_cond (λ p z n x. Claim job arch Q p z n (f x)) past before s (canonical addr) _ _
      (λ c. claim_cond (λ p z n x. Claim job arch Q p z n (f x)) past before s (addr % size == 0) (done tt) (fault misaligned)
      (λ e. h c (eqb-true (addr % size) 0 e)) (λ _. (rested rest, named.0, named.1)))
      (λ _. (rested rest, λ _. tt, tt)))

  pub check_address_then : {A : Type 0} (Q : List Visit → State → State → A → Type 0) (past : List Visit) (before s : State) (addr size : ℕ) (f : Unit {0} → Script A) →
      Resting arch.number untouched (progress past) s.book arch.ssp → (canonical addr ≡ true → addr % size ≡ 0 → Claim job arch Q past before s (f tt)) →
      Claim job arch Q past before s (check_address addr size >>= f)
  check_address_then Q past before s addr size f rest h = check_address_as_then Q past before s (alignment_check addr) addr size f rest (λ _. tt, tt) h

  look_at : {A : Type 0} (Q : List Visit → State → State → A → Type 0) (past : List Visit) (before s : State) (at : Option ℕ) (kd : Kind) (w : Who) (addr : ℕ) (f : ℕ → Script A) →
      Resting arch.number untouched (progress past) s.book arch.ssp → ((now : State) → Relies arch.number s.book now.book → (page v : ℕ) → at ≡ Some page →
      Known job.image arch.number past now.book (access.Look page) v → allows v kd w ≡ true → Claim job arch Q (visit (access.Look page) v [] ∷ past) now now (f page)) →
      Claim job arch (λ p z n x. Claim job arch Q p z n (f x)) past before s (look_in_as no_changes at kd w addr)
  unfolding look_in_as
  look_at Q past before s None kd w addr f rest h = (rested rest, λ _. tt, tt)
  look_at Q past before s (Some page) kd w addr f rest h = (
    (rest_stacked rest),
    λ now r v known. (
      looks page refl refl,
      now,
      refl,
      claim_cond (λ p z n x. Claim job arch Q p z n (f x)) _ now now (allows v kd w) (done page) (fault (page_fault v kd w addr))
          (λ a. h now r page v refl known a) (λ _. (rested (rest_kept r rest), λ _. tt, tt)),
    ),
  )

  -- a look, with what it found
  pub look_then : {A : Type 0} (Q : List Visit → State → State → A → Type 0) (past : List Visit) (before s : State) (kd : Kind) (w : Who) (addr : ℕ) (f : ℕ → Script A) →
      Resting arch.number untouched (progress past) s.book arch.ssp → ((now : State) → Relies arch.number s.book now.book → (page v : ℕ) → page_at addr ≡ Some page →
      Known job.image arch.number past now.book (access.Look page) v → allows v kd w ≡ true → Claim job arch Q (visit (access.Look page) v [] ∷ past) now now (f page)) →
      Claim job arch Q past before s (look kd w addr >>= f)
  unfolding look_as
  look_then Q past before s kd w addr f rest h = claim_bind Q past before s (look kd w addr) f (look_at Q past before s (page_at addr) kd w addr f rest h)

  -- the look of a store passes on pages of image, main stack and mmap area alone
  pub store_look_then : {A : Type 0} (Q : List Visit → State → State → A → Type 0) (past : List Visit) (before s : State) (addr : ℕ) (f : ℕ → Script A) →
      Resting arch.number untouched (progress past) s.book arch.ssp → ((now : State) → Relies arch.number s.book now.book → (page v : ℕ) → page < first_shadow_page →
      Claim job arch Q (visit (access.Look page) v [] ∷ past) now now (f page)) → Claim job arch Q past before s (look kind.Store User addr >>= f)
  store_look_then Q past before s addr f rest h =
      look_then Q past before s kind.Store User addr f rest (λ now r page v at known a. h now r page v (store_page job.image page v (known.entry page refl) a))

  -- a look at a shadow stack passes in regions alone
  pub shadow_look_then : {A : Type 0} (Q : List Visit → State → State → A → Type 0) (past : List Visit) (before s : State) (kd : Kind) (addr : ℕ) (f : ℕ → Script A) → shadow_start ≤ addr →
      addr < shadow_end → Resting arch.number untouched (progress past) s.book arch.ssp → ((now : State) → (r : Relies arch.number s.book now.book) → (v : ℕ) →
      Known job.image arch.number past now.book (access.Look (first_shadow_page + (addr - shadow_start) / 4096)) v → (i : ℕ) → In (region now.book i) addr →
      Claim job arch Q (visit (access.Look (first_shadow_page + (addr - shadow_start) / 4096)) v [] ∷ past) now now (f (first_shadow_page + (addr - shadow_start) / 4096))) →
      Claim job arch Q past before s (look kd User addr >>= f)
  shadow_look_then Q past before s kd addr f low high rest h =
      look_then Q past before s kd User addr f rest (λ now r page v at known a.
      let is : first_shadow_page + (addr - shadow_start) / 4096 ≡ page = (let e = shadow_page addr low high in cc) in
      let known' = subst (λ p. Known job.image arch.number past now.book (access.Look p) v) (sym is) known in
      let lies = known'.look (first_shadow_page + (addr - shadow_start) / 4096) refl (omega arith) (omega arith) (entry_there kd v a) in
      subst (λ n. Claim job arch Q (visit (access.Look n) v [] ∷ past) now now (f n)) is (h now r v known' lies.0 (in_page now.book lies.0 addr low high lies.1)))

  pub read_entry_then : {A : Type 0} (Q : List Visit → State → State → A → Type 0) (past : List Visit) (before s : State) (page : ℕ) (f : ℕ → Script A) →
      Stacked arch.number s.book (below_frame (frame_pushed past) arch.ssp) → ((now : State) → Relies arch.number s.book now.book → (v : ℕ) →
      Claim job arch Q (visit (access.Look page) v [] ∷ past) now now (f v)) → Claim job arch Q past before s (read_entry page >>= f)
  unfolding read_entry
  read_entry_then Q past before s page f top h = claim_bind Q past before s (read_entry page) f (top, λ now r v known. (looks page refl refl, now, refl, h now r v))

  pub load_then : {A : Type 0} {d : Progress} (Q : List Visit → State → State → A → Type 0) (past : List Visit) (before s : State) (word : ℕ) (f : ℕ → Script A) → ((j : ℕ) → word ≢ token_word j - 1) →
      Resting arch.number d (progress past) s.book arch.ssp → ((now : State) → Relies arch.number s.book now.book → (v : ℕ) → Claim job arch Q (visit (access.Load word) v [] ∷ past) now now (f v)) →
      Claim job arch Q past before s (load word >>= f)
  unfolding load_as
  load_then Q past before s word f apart rest h = claim_bind Q past before s (load word) f (rest_stacked rest, λ now r v known. (plain_loads word refl apart refl, now, refl, h now r v))

  -- of a thread in the kernel, elsewhere than below its token, with what the answer tells
  pub kernel_load_known : {A : Type 0} {d : Progress} (Q : List Visit → State → State → A → Type 0) (past : List Visit) (before s : State) (k word : ℕ) (f : ℕ → Script A) → ((j : ℕ) → word ≢ token_word j - 1) →
      Inside arch.number k d (progress past) (left_in past (token_word k - 1)) s.book arch.ssp →
      ((now : State) → Relies arch.number s.book now.book → (v : ℕ) → Known job.image arch.number past now.book (access.Load word) v →
      Inside arch.number k d (progress past) (left_in (visit (access.Load word) v [] ∷ past) (token_word k - 1)) now.book arch.ssp →
      Claim job arch Q (visit (access.Load word) v [] ∷ past) now now (f v)) → Claim job arch Q past before s (load word >>= f)
  unfolding load_as
  kernel_load_known Q past before s k word f apart inside h =
      claim_bind Q past before s (load word) f (
        inside_stacked inside,
        λ now r v known.
            let inside' = inside_kept r inside in
            let other : (word == token_word k - 1) ≡ false = not_below word k (apart k) in (
              plain_loads word refl apart refl,
              now,
              refl,
              h now r v known (inside_left (rw other refl) inside'),
            ),
      )

  pub kernel_load_then : {A : Type 0} {d : Progress} (Q : List Visit → State → State → A → Type 0) (past : List Visit) (before s : State) (k word : ℕ) (f : ℕ → Script A) → ((j : ℕ) → word ≢ token_word j - 1) →
      Inside arch.number k d (progress past) (left_in past (token_word k - 1)) s.book arch.ssp →
      ((now : State) → Relies arch.number s.book now.book → (v : ℕ) → Inside arch.number k d (progress past) (left_in (visit (access.Load word) v [] ∷ past) (token_word k - 1)) now.book arch.ssp →
      Claim job arch Q (visit (access.Load word) v [] ∷ past) now now (f v)) → Claim job arch Q past before s (load word >>= f)
  kernel_load_then Q past before s k word f apart inside h = kernel_load_known Q past before s k word f apart inside (λ now r v known. h now r v)

  -- a store to a word that matters for no stack
  pub store_then : {A : Type 0} (Q : List Visit → State → State → A → Type 0) (past : List Visit) (before s : State) (word value : ℕ) (f : Unit {0} → Script A) → IsOut word →
      Stacked arch.number s.book (below_frame (frame_pushed past) arch.ssp) → ((now : State) → Relies arch.number s.book now.book →
      Claim job arch Q (visit (access.Store word value) 0 [] ∷ past) now now (f tt)) → Claim job arch Q past before s (store word value >>= f)
  unfolding store_as
  store_then Q past before s word value f out top h =
      claim_bind Q past before s (store word value) f (top, λ now r known. (stored word value refl out refl, now, refl, h now r))

  pub exchange_then : {A : Type 0} (Q : List Visit → State → State → A → Type 0) (past : List Visit) (before s : State) (word expected value : ℕ) (f : ℕ → Script A) → IsOut word →
      Stacked arch.number s.book (below_frame (frame_pushed past) arch.ssp) → ((now : State) → Relies arch.number s.book now.book → (v : ℕ) →
      Claim job arch Q (visit (access.CompareExchange word expected value) v [] ∷ past) now now (f v)) → Claim job arch Q past before s (compare_exchange word expected value >>= f)
  unfolding compare_exchange_as
  exchange_then Q past before s word expected value f out top h =
      claim_bind Q past before s (compare_exchange word expected value) f (top, λ now r v known. (exchanges word expected value refl out refl, now, refl, h now r v))

  -- the process ends
  pub end_then : {A : Type 0} (Q : List Visit → State → State → A → Type 0) (past : List Visit) (before s : State) (value : ℕ) (f : ℕ → Script A) → IsEnding value →
      Stacked arch.number s.book (below_frame (frame_pushed past) arch.ssp) → ((now : State) → Relies arch.number s.book now.book → (v : ℕ) →
      Claim job arch Q (visit (access.CompareExchange exit_word 0 value) v [] ∷ past) now now (f v)) → Claim job arch Q past before s (compare_exchange exit_word 0 value >>= f)
  unfolding compare_exchange_as
  end_then Q past before s value f is top h =
      claim_bind Q past before s (compare_exchange exit_word 0 value) f (top, λ now r v known. (finishes value refl is refl, now, refl, h now r v))

  pub swap_then : {A : Type 0} (Q : List Visit → State → State → A → Type 0) (past : List Visit) (before s : State) (word value : ℕ) (f : ℕ → Script A) → IsOut word →
      Stacked arch.number s.book (below_frame (frame_pushed past) arch.ssp) → ((now : State) → Relies arch.number s.book now.book → (v : ℕ) →
      Claim job arch Q (visit (access.Swap word value) v [] ∷ past) now now (f v)) → Claim job arch Q past before s (swap word value >>= f)
  unfolding swap
  swap_then Q past before s word value f out top h =
      claim_bind Q past before s (swap word value) f (top, λ now r v known. (swaps word value refl out refl, now, refl, h now r v))

  pub fetch_add_then : {A : Type 0} (Q : List Visit → State → State → A → Type 0) (past : List Visit) (before s : State) (word value : ℕ) (f : ℕ → Script A) → IsOut word →
      Stacked arch.number s.book (below_frame (frame_pushed past) arch.ssp) → ((now : State) → Relies arch.number s.book now.book → (v : ℕ) →
      Claim job arch Q (visit (access.FetchAdd word value) v [] ∷ past) now now (f v)) → Claim job arch Q past before s (fetch_add word value >>= f)
  unfolding fetch_add_as
  fetch_add_then Q past before s word value f out top h =
      claim_bind Q past before s (fetch_add word value) f (top, λ now r v known. (adds word value refl out refl, now, refl, h now r v))

  pub fetch_or_then : {A : Type 0} (Q : List Visit → State → State → A → Type 0) (past : List Visit) (before s : State) (word value : ℕ) (f : ℕ → Script A) → IsOut word →
      Stacked arch.number s.book (below_frame (frame_pushed past) arch.ssp) → ((now : State) → Relies arch.number s.book now.book → (v : ℕ) →
      Claim job arch Q (visit (access.FetchOr word value) v [] ∷ past) now now (f v)) → Claim job arch Q past before s (fetch_or word value >>= f)
  unfolding fetch_or
  fetch_or_then Q past before s word value f out top h =
      claim_bind Q past before s (fetch_or word value) f (top, λ now r v known. (ors word value refl out refl, now, refl, h now r v))

  pub fetch_and_then : {A : Type 0} (Q : List Visit → State → State → A → Type 0) (past : List Visit) (before s : State) (word value : ℕ) (f : ℕ → Script A) → IsOut word →
      Stacked arch.number s.book (below_frame (frame_pushed past) arch.ssp) → ((now : State) → Relies arch.number s.book now.book → (v : ℕ) →
      Claim job arch Q (visit (access.FetchAnd word value) v [] ∷ past) now now (f v)) → Claim job arch Q past before s (fetch_and word value >>= f)
  unfolding fetch_and
  fetch_and_then Q past before s word value f out top h =
      claim_bind Q past before s (fetch_and word value) f (top, λ now r v known. (ands word value refl out refl, now, refl, h now r v))

  -- a thread in the kernel stores 0 to entries of pages of the mmap area or the shadow area
  stores_claim : {d : Progress} (k : ℕ) (lk : k < 8) (Q : List Visit → State → State → Unit {0} → Type 0) (past : List Visit) (before s : State) (count page word value : ℕ) → word ≡ entry_word page →
      value ≡ 0 → first_mmap_page ≤ page → page + count ≤ first_kernel_page → Inside arch.number k d (progress past) (left_in past (token_word k - 1)) s.book arch.ssp →
      ((p : List Visit) (z n : State) → Inside arch.number k d (progress p) (left_in p (token_word k - 1)) n.book arch.ssp → Q p z n tt) → Claim job arch Q past before s (stores count word value 0)
  unfolding stores
  stores_claim k lk Q past before s zero page word value e z lo hi inside h = h past before s inside
  stores_claim k lk Q past before s (suc count) page word value e z lo hi inside h = (
    (inside_stacked inside),
    λ now r known. (
      cleared page (ap (λ w. access.Store w value) e ∙ ap (λ v. access.Store (entry_word page) v) z) lo (omega arith) refl,
      now,
      refl,
      stores_claim k lk Q _ now now count (page + 1) (word + 1) (value + 0) (omega arith) (omega arith) (omega arith) (omega arith)
          (inside_left (let n : eqb word (token_word k - 1) ≡ false = grind (arith, nat_tests) in rw n refl) (inside_kept r inside)) h,
    ),
  )

  -- so it clears these entries
  pub clears_claim : {d : Progress} (k : ℕ) (lk : k < 8) (Q : List Visit → State → State → Unit {0} → Type 0) (past : List Visit) (before s : State) (count page : ℕ) → first_mmap_page ≤ page →
      page + count ≤ first_kernel_page → Inside arch.number k d (progress past) (left_in past (token_word k - 1)) s.book arch.ssp →
      ((p : List Visit) (z n : State) → Inside arch.number k d (progress p) (left_in p (token_word k - 1)) n.book arch.ssp → Q p z n tt) → Claim job arch Q past before s (clears count page)
  clears_claim k lk Q past before s count page lo hi inside h = stores_claim k lk Q past before s count page (entry_word page) 0 refl refl lo hi inside h
