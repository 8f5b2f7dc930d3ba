-- A shadow store's look at any address, what it tells of the address, and the tokens' bits. Source: own.
use Rattle.std.proofs.Common.{◌≡◌, ℕ, ◌+◌, ◌-◌, ◌*◌, ◌/◌, ◌%◌, ◌^◌, ◌<◌, ◌≤◌, inl, inr, Bool, true, false, List, [], ◌∷◌, length, Option, Some, None, refl, sym, ◌∙◌, ap, subst, arith, lit<}
use Rattle.std.specs.Prelude.{nat_lt, ◌==◌, if◌then◌else◌, find}
use Rattle.std.proofs.lemmas.Bool.{cases_lt, false≢true}
use Rattle.std.proofs.lemmas.Bool.Decides.{nat_tests}
use Rattle.cet_words.specs.Entries.{entry_of, entry_with, no_execute, segment_entry}
use Rattle.cet_words.specs.Job.{JobData, ImageData, covers}
use Rattle.cet_words.specs.Layout.{within, page_at, first_kernel_page, first_mmap_page, first_shadow_page, first_stack_page, image_end, image_start}
use Rattle.cet_words.specs.Layout.{kernel_end, kernel_start, mmap_end, mmap_start, shadow_end, shadow_start, stack_end, stack_start}
use Rattle.cet_words.specs.declared.accesses.Access.TheVariants as access
use Rattle.cet_words.specs.declared.images.Segment.{Segment}
use Rattle.cet_isa.specs.declared.threads.Arch.{Arch}
use Rattle.cet_book.specs.Book.{Book, region, top}
use Rattle.cet_book.specs.Facts.{In}
use Rattle.cet_book.specs.Shape.{Shape}
use Rattle.cet_book.specs.Relied.{Relies}
use Rattle.cet_page.specs.Page.{allows}
use Rattle.cet_page.specs.Parts.{look}
use Rattle.cet_page.specs.Script.{Script, ◌>>=◌}
use Rattle.cet_page.specs.Trail.{Visit, visit}
use Rattle.cet_page.specs.declared.checks.Kind.TheVariants as kind
use Rattle.cet_page.specs.declared.checks.Who.TheVariants.{User}
use Rattle.cet_own.specs.Facts.{IsEntry}
use Rattle.cet_own.specs.Owed.{State, Known}
use Rattle.cet_own.proofs.Parts.{Claim, look_then}
use Rattle.cet_own.proofs.Places.{low_bits, entry_there, shadow_page, in_page}
use Rattle.cet_own.proofs.Progress.{progress, untouched}
use Rattle.cet_own.proofs.Resting.{Resting}
use Rattle.cet_own.proofs.Writes.{in_there}

-- ---- which entries let a shadow store

shadow_bits : (frame bits : ℕ) → bits < 2 ^ 12 → allows (frame * 2 ^ 12 + bits) kind.ShadowStore User ≡ allows bits kind.ShadowStore User
shadow_bits frame bits b =
    let present = low_bits frame bits 1 b (lit< tt) in
    let user = low_bits frame bits 4 b (lit< tt) in
    let writes = low_bits frame bits 0x42 b (lit< tt) in
    rw (present, user, writes) refl

code_bits : (page bits : ℕ) → bits < 2 ^ 12 → allows (entry_with page bits) kind.ShadowStore User ≡ allows bits kind.ShadowStore User
code_bits page bits b = (let e : entry_with page bits ≡ (page + 256) * 2 ^ 12 + bits = omega arith in ap (λ n. allows n kind.ShadowStore User) e) ∙ shadow_bits (page + 256) bits b

data_bits : (page bits : ℕ) → bits < 2 ^ 12 → allows (no_execute + entry_with page bits) kind.ShadowStore User ≡ allows bits kind.ShadowStore User
data_bits page bits b = (let e : no_execute + entry_with page bits ≡ (2 ^ 51 + page + 256) * 2 ^ 12 + bits = omega arith in ap (λ n. allows n kind.ShadowStore User) e) ∙ shadow_bits (2 ^ 51 + page + 256) bits b

by_rights : (page : ℕ) (exec write : Bool) → allows (if exec then entry_with page 0x25 else if write then no_execute + entry_with page 0x67 else no_execute + entry_with page 0x25) kind.ShadowStore User ≡ false
by_rights page true write = code_bits page 0x25 (lit< tt)
by_rights page false true = data_bits page 0x67 (lit< tt)
by_rights page false false = data_bits page 0x25 (lit< tt)

of_segment : (page : ℕ) (o : Option Segment) → allows (segment_entry page o) kind.ShadowStore User ≡ false
of_segment page None = refl
of_segment page (Some s) = by_rights page s.exec s.write

of_kernel : (page : ℕ) (d e : Bool) → allows (if d then no_execute + entry_with page 0x63 else if e then no_execute + entry_with page 0x61 else 0) kind.ShadowStore User ≡ false
of_kernel page true e = data_bits page 0x63 (lit< tt)
of_kernel page false true = data_bits page 0x61 (lit< tt)
of_kernel page false false = refl

-- none of image, main stack and mmap area
low_entry : (image : ImageData) (page : ℕ) → page < first_shadow_page → allows (entry_of image page) kind.ShadowStore User ≡ false
unfolding entry_of
low_entry image page l = elim (cases_lt page first_stack_page) [
  | inl q ↦ (let a : nat_lt page first_stack_page ≡ true = grind (arith, nat_tests) in rw a (of_segment page (find (covers (1024 + page)) image.segments)))
  | inr q ↦
      let a : nat_lt page first_stack_page ≡ false = grind (arith, nat_tests) in
      let b : nat_lt page first_shadow_page ≡ true = grind (arith, nat_tests) in
      rw (a, b) (data_bits page 0x67 (lit< tt))
]

-- none of the kernel's pages
kernel_entry : (image : ImageData) (page : ℕ) → first_kernel_page ≤ page → allows (entry_of image page) kind.ShadowStore User ≡ false
unfolding entry_of
kernel_entry image page l =
    let a : nat_lt page first_stack_page ≡ false = grind (arith, nat_tests) in
    let b : nat_lt page first_shadow_page ≡ false = grind (arith, nat_tests) in
    let c : nat_lt page first_kernel_page ≡ false = grind (arith, nat_tests) in
    rw (a, b, c) (of_kernel page (page == first_kernel_page) (page % 2 == 0))

-- so the page is one of the shadow area
pub of_shadow_area : (image : ImageData) (page v : ℕ) → IsEntry image page v → allows v kind.ShadowStore User ≡ true → (first_shadow_page ≤ page) × (page < first_kernel_page)
of_shadow_area image page v (inl z) a = absurd (false≢true (sym (ap (λ n. allows n kind.ShadowStore User) z) ∙ a))
of_shadow_area image page v (inr e) a = (
  elim (cases_lt page first_shadow_page) [ inl l ↦ absurd (false≢true (sym (low_entry image page l) ∙ sym (ap (λ n. allows n kind.ShadowStore User) e) ∙ a)) | inr g ↦ g ],
  elim (cases_lt page first_kernel_page) [ inl l ↦ l | inr g ↦ absurd (false≢true (sym (kernel_entry image page g) ∙ sym (ap (λ n. allows n kind.ShadowStore User) e) ∙ a)) ],
)

-- ---- and the address one of its addresses

-- c, d, e, f and g tell the ranges in the order of `page_at`
area_by : (addr page : ℕ) (c d e f g : Bool) → within image_start image_end addr ≡ c → within stack_start stack_end addr ≡ d → within mmap_start mmap_end addr ≡ e →
    within shadow_start shadow_end addr ≡ f → first_shadow_page ≤ page → page < first_kernel_page →
    (if c then Some ((addr - image_start) / 4096) else if d then Some (first_stack_page + (addr - stack_start) / 4096) else if e then Some
    (first_mmap_page + (addr - mmap_start) / 4096) else if f then Some (first_shadow_page + (addr - shadow_start) / 4096) else if g then Some
    (first_kernel_page + (addr - kernel_start) / 4096) else None) ≡ Some page → f ≡ true
area_by addr page true d e f g p q r s lo hi is = absurd (let at : (addr - image_start) / 4096 ≡ page = cc in let high : addr < image_end = grind (arith, nat_tests) in omega arith)
area_by addr page false true e f g p q r s lo hi is = absurd (let at : first_stack_page + (addr - stack_start) / 4096 ≡ page = cc in let high : addr < stack_end = grind (arith, nat_tests) in omega arith)
area_by addr page false false true f g p q r s lo hi is = absurd (let at : first_mmap_page + (addr - mmap_start) / 4096 ≡ page = cc in let high : addr < mmap_end = grind (arith, nat_tests) in omega arith)
area_by addr page false false false true g p q r s lo hi is = refl
area_by addr page false false false false true p q r s lo hi is = absurd (let at : first_kernel_page + (addr - kernel_start) / 4096 ≡ page = cc in omega arith)
area_by addr page false false false false false p q r s lo hi is = cc

pub in_shadow_area : (addr page : ℕ) → page_at addr ≡ Some page → first_shadow_page ≤ page → page < first_kernel_page → (shadow_start ≤ addr) × (addr < shadow_end)
unfolding page_at
in_shadow_area addr page e lo hi =
    let f : within shadow_start shadow_end addr ≡ true = area_by addr page _ _ _ _ (within kernel_start kernel_end addr) refl refl refl refl lo hi e in
    (grind (arith, nat_tests), grind (arith, nat_tests))

-- ---- what an address of some region tells of the entries of region m

-- So many stand at and above it: what ends a region is a page of none, which 255 entries don't reach over.
pub entries_at : (b : Book) (m i j : ℕ) → Shape b → m < length b.regions → j < 512 → In (region b i) (top (region b m) + 8 * j) → j + 1 ≤ length (region b m).entries
entries_at b m i j h l few inn = elim (cases_lt j (length (region b m).entries)) [
  | inl g ↦ omega arith
  | inr g ↦ absurd (
      let li = in_there b i (top (region b m) + 8 * j) inn in
      let full = (h.bounds m l).full in
      let last = (h.bounds m l).last in
      let room = (h.fits m).room in
      let lo = inn.low in
      let hi = inn.high in
      elim (cases_lt i m) [
        | inl q ↦ (let a = h.apart i m q l in omega arith)
        | inr q ↦ elim (cases_lt m i) [
          | inl q' ↦ (let a = h.apart m i q' li in let first = (h.bounds i li).first in omega arith)
          | inr q' ↦ (let u : i ≡ m = omega arith in let hi' : top (region b m) + 8 * j < (region b m).end = subst (λ n. top (region b m) + 8 * j < (region b n).end) u hi in omega arith)
        ]
      ])
]

-- ---- the look, with what follows it

module _ (job : JobData) (arch : Arch) where
  pub shadow_store_look_then : {A : Type 0} (Q : List Visit → State → State → A → Type 0) (past : List Visit) (before s : State) (addr : ℕ) (f : ℕ → Script A) →
      Resting arch.number untouched (progress past) s.book arch.ssp → ((now : State) → (r : Relies arch.number s.book now.book) → (v : ℕ) → shadow_start ≤ addr → addr < shadow_end →
      Known job.image arch.number past now.book (access.Look (first_shadow_page + (addr - shadow_start) / 4096)) v → (i : ℕ) → In (region now.book i) addr →
      Claim job arch Q (visit (access.Look (first_shadow_page + (addr - shadow_start) / 4096)) v [] ∷ past) now now (f (first_shadow_page + (addr - shadow_start) / 4096))) →
      Claim job arch Q past before s (look kind.ShadowStore User addr >>= f)
  shadow_store_look_then Q past before s addr f rest h =
      look_then job arch Q past before s kind.ShadowStore User addr f rest (λ now r page v at known a.
      let p = of_shadow_area job.image page v (known.entry page refl) a in
      let q = in_shadow_area addr page at p.0 p.1 in
      let low = q.0 in
      let high = q.1 in
      let is : first_shadow_page + (addr - shadow_start) / 4096 ≡ page = (let e = shadow_page addr low high in cc) in
      let known' = subst (λ p. Known job.image arch.number past now.book (access.Look p) v) (sym is) known in
      let lies = known'.look (first_shadow_page + (addr - shadow_start) / 4096) refl (omega arith) (omega arith) (entry_there kind.ShadowStore v a) in
      subst (λ n. Claim job arch Q (visit (access.Look n) v [] ∷ past) now now (f n)) is (h now r v low high known' lies.0 (in_page now.book lies.0 addr low high lies.1)))
