-- What a thread claims of mmap and munmap. Source: own.
use Rattle.std.proofs.Common.{zero, suc, ◌≡◌, ◌≢◌, ℕ, ◌+◌, ◌-◌, ◌<◌, ◌≤◌, true, false, inr, inl, List, Option, Some, None, refl, sym, ◌∙◌, ap, arith}
use Rattle.std.specs.Prelude.{◌==◌, nat_lt}
use Rattle.std.proofs.lemmas.Bool.Decides.{nat_tests}
use Rattle.cet_words.specs.Entries.{data_entry, entry_of}
use Rattle.cet_words.specs.Job.{JobData, ImageData}
use Rattle.cet_words.specs.Layout.{area_pages, draw_mmap_word, entry_word, first_kernel_page, first_mmap_page, first_shadow_page, first_stack_page, pages_of, token_word}
use Rattle.cet_words.specs.declared.accesses.Access.TheVariants as access
use Rattle.cet_isa.specs.declared.threads.Arch.{Arch}
use Rattle.cet_page.specs.Finish.{r10, rdi, rdx, rsi}
use Rattle.cet_page.specs.Mmap.{can_map, draw_pages, map_drawn, map_pages, map_refused, mmap, mmap_by, munmap, munmap_by, unmap_pages, unmapped_page}
use Rattle.cet_page.specs.Parts.{clears, stores}
use Rattle.cet_page.specs.Trail.{Visit}
use Rattle.cet_page.specs.declared.services.Errno.{Errno}
use Rattle.cet_page.specs.declared.services.Errno.TheVariants as errno
use Rattle.cet_own.specs.Safe.{IsElsewhere}
use Rattle.cet_own.proofs.Classes.{sets_page}
use Rattle.cet_own.specs.Holds.{IsOut}
use Rattle.cet_own.proofs.KernelParts.{Leaves, Within, failed_claim, serve_claim}
use Rattle.cet_own.specs.Owed.{State, own_stack}
use Rattle.cet_own.proofs.Parts.{Claim, claim_bind, claim_cond, clears_claim, fetch_add_then}
use Rattle.cet_own.proofs.Progress.{untouched}
use Rattle.cet_own.proofs.Resting.{inside_kept, inside_left, inside_stacked}

-- the one present entry of a page of the mmap area
data_entry_is : (image : ImageData) (page : ℕ) → first_mmap_page ≤ page → page < first_shadow_page → entry_of image page ≡ data_entry page
unfolding entry_of
data_entry_is image page lo hi =
    let a : nat_lt page first_stack_page ≡ false = grind (arith, nat_tests) in
    let b : nat_lt page first_shadow_page ≡ true = grind (arith, nat_tests) in
    rw (a, b) refl

-- the counter of the mmap area matters for no shadow stack
draw_is_out : IsOut draw_mmap_word
draw_is_out = record {
  shadow = inr (omega arith);
  entry = omega arith;
  token = λ k l. omega arith;
  actions = inl (omega arith);
  below = λ k l. omega arith;
  draw = omega arith;
  next = omega arith;
  exit = omega arith;
}

-- a range that is unmapped lies in one of the two areas
unmapped_place : (address length page : ℕ) → unmapped_page address length ≡ Some page → (first_mmap_page ≤ page) × (page + pages_of length ≤ first_kernel_page)
unmapped_place address length page e = (grind (arith, nat_tests), grind (arith, nat_tests))

module _ (job : JobData) (arch : Arch) (l : own_stack job arch.number < 8) (free : IsElsewhere job arch) where
  abbrev gate : ℕ
  gate = own_stack job arch.number

  -- ---- mmap

  -- the entries of the pages, the lowest first
  entries_claim : (Q : List Visit → State → State → Unit {0} → Type 0) (past : List Visit) (before s : State) (count page word value : ℕ) → word ≡ entry_word page → value ≡ data_entry page →
      first_mmap_page ≤ page → page + count ≤ first_shadow_page → Within job arch l untouched past s → ((p : List Visit) (z n : State) → Within job arch l untouched p n → Q p z n tt) →
      Claim job arch Q past before s (stores count word value 4096)
  unfolding stores
  entries_claim Q past before s zero page word value e v lo most within h = h past before s within
  entries_claim Q past before s (suc count) page word value e v lo most within h = (
    inside_stacked within,
    λ now r known.
        let entry : value ≡ entry_of job.image page = v ∙ sym (data_entry_is job.image page lo (omega arith)) in
        let apart : (word == token_word gate - 1) ≡ false = (let n : word ≢ token_word gate - 1 = omega arith in grind (arith, nat_tests)) in (
          sets_page page value (ap (λ w. access.Store w value) e) lo (omega arith) (inr entry) (λ _ shadow. absurd (omega arith)) refl,
          now,
          refl,
          entries_claim Q _ now now count (page + 1) (word + 1) (value + 4096) (omega arith) (omega arith) (omega arith) (omega arith) (inside_left (rw apart refl) (inside_kept r within)) h,
        ),
  )

  pages_claim : (past : List Visit) (before s : State) (pages drawn : ℕ) → drawn + pages ≤ area_pages → Within job arch l untouched past s → Claim job arch (Leaves job arch l) past before s (map_pages arch pages drawn)
  unfolding map_pages
  pages_claim past before s pages drawn room within =
      claim_bind job arch (Leaves job arch l) past before s (stores pages (entry_word (first_mmap_page + drawn)) (data_entry (first_mmap_page + drawn)) 4096) _
      (entries_claim _ past before s pages (first_mmap_page + drawn) (entry_word (first_mmap_page + drawn)) (data_entry (first_mmap_page + drawn)) refl refl (omega arith) (omega arith) within
      (λ p z n within1. serve_claim job arch l {drawing = false} {numbering = false} p z n _ free within1))

  drawn_claim : (past : List Visit) (before s : State) (pages drawn : ℕ) → Within job arch l untouched past s → Claim job arch (Leaves job arch l) past before s (map_drawn arch pages drawn)
  drawn_claim past before s pages drawn within =
      claim_cond job arch (Leaves job arch l) past before s (can_map pages drawn) _ _
      (λ c. pages_claim past before s pages drawn (let fits : can_map pages drawn ≡ true = c in grind (arith, nat_tests)) within)
      (λ _. failed_claim job arch l {drawing = false} {numbering = false} past before s errno.NoMem free within)

  draw_claim : (past : List Visit) (before s : State) (pages : ℕ) → Within job arch l untouched past s → Claim job arch (Leaves job arch l) past before s (draw_pages arch pages)
  unfolding draw_pages
  draw_claim past before s pages within =
      let apart : (draw_mmap_word == token_word gate - 1) ≡ false = (let n : draw_mmap_word ≢ token_word gate - 1 = omega arith in grind (arith, nat_tests)) in
      fetch_add_then job arch (Leaves job arch l) past before s draw_mmap_word pages _ draw_is_out (inside_stacked within)
      (λ now r drawn. drawn_claim _ now now pages drawn (inside_left (rw apart refl) (inside_kept r within)))

  mmap_by_claim : (past : List Visit) (before s : State) (length : ℕ) (o : Option Errno) → Within job arch l untouched past s → Claim job arch (Leaves job arch l) past before s (mmap_by arch length o)
  mmap_by_claim past before s length (Some error) within = failed_claim job arch l {drawing = false} {numbering = false} past before s error free within
  mmap_by_claim past before s length None within = draw_claim past before s (pages_of length) within

  pub mmap_claim : (past : List Visit) (before s : State) → Within job arch l untouched past s → Claim job arch (Leaves job arch l) past before s (mmap arch)
  mmap_claim past before s within = mmap_by_claim past before s (rsi arch) (map_refused (rdi arch) (rsi arch) (rdx arch) (r10 arch)) within

  -- ---- munmap

  clear_claim : (past : List Visit) (before s : State) (pages page : ℕ) → first_mmap_page ≤ page → page + pages ≤ first_kernel_page → Within job arch l untouched past s →
      Claim job arch (Leaves job arch l) past before s (unmap_pages arch pages page)
  unfolding unmap_pages
  clear_claim past before s pages page lo hi within =
      claim_bind job arch (Leaves job arch l) past before s (clears pages page) _
      (clears_claim job arch gate l _ past before s pages page lo hi within (λ p z n within1. serve_claim job arch l {drawing = false} {numbering = false} p z n 0 free within1))

  munmap_by_claim : (past : List Visit) (before s : State) (address length : ℕ) (o : Option ℕ) → unmapped_page address length ≡ o → Within job arch l untouched past s →
      Claim job arch (Leaves job arch l) past before s (munmap_by arch length o)
  munmap_by_claim past before s address length None e within = failed_claim job arch l {drawing = false} {numbering = false} past before s errno.Inval free within
  munmap_by_claim past before s address length (Some page) e within = (let place = unmapped_place address length page e in clear_claim past before s (pages_of length) page place.0 place.1 within)

  pub munmap_claim : (past : List Visit) (before s : State) → Within job arch l untouched past s → Claim job arch (Leaves job arch l) past before s (munmap arch)
  munmap_claim past before s within = munmap_by_claim past before s (rdi arch) (rsi arch) (unmapped_page (rdi arch) (rsi arch)) refl within
