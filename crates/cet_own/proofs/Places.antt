-- What the page check tells of a page, and what a look at a shadow stack's page tells of its region. Source: own.
use Rattle.std.proofs.Common.{◌≡◌, ◌≢◌, ℕ, ◌+◌, ◌-◌, ◌*◌, ◌/◌, ◌%◌, ◌^◌, ◌<◌, ◌≤◌, inl, inr, Bool, true, false, length, Some, refl, sym, ◌∙◌, ap, subst, arith, lit<}
use Rattle.std.specs.Prelude.{bit_and, nat_lt, ◌==◌, if◌then◌else◌}
use Rattle.std.specs.Int.Bits.{and_zero_r}
use Rattle.std.proofs.lemmas.Nat.{and_block}
use Rattle.std.proofs.lemmas.Bool.{cases_lt, false≢true}
use Rattle.std.proofs.lemmas.Bool.Decides.{nat_tests}
use Rattle.cet_words.specs.Entries.{entry_of, entry_with, no_execute}
use Rattle.cet_words.specs.Job.{ImageData}
use Rattle.cet_words.specs.Layout.{page_at, word_in, first_kernel_page, first_region_start, first_shadow_page, shadow_end, shadow_start, last_region_end}
use Rattle.cet_book.specs.Book.{Book, region, top}
use Rattle.cet_book.specs.Shape.{Shape}
use Rattle.cet_book.specs.Stack.{slot}
use Rattle.cet_page.specs.Page.{allows}
use Rattle.cet_page.specs.Word64.{add64, sub64}
use Rattle.cet_page.specs.declared.checks.Kind.{Kind}
use Rattle.cet_page.specs.declared.checks.Kind.TheVariants as kind
use Rattle.cet_page.specs.declared.checks.Who.TheVariants.{User}
use Rattle.cet_book.specs.Facts.{In, LiesIn}
use Rattle.cet_own.specs.Facts.{IsEntry}
use Rattle.cet_own.specs.Holds.{IsOut}
use Rattle.cet_own.proofs.Writes.{in_there}

-- ---- the bits of an entry

-- the low bits decide
pub low_bits : (frame bits mask : ℕ) → bits < 2 ^ 12 → mask < 2 ^ 12 → bit_and (frame * 2 ^ 12 + bits) mask ≡ bit_and bits mask
low_bits frame bits mask b m =
    let z : mask ≡ 0 * 2 ^ 12 + mask = omega arith in
    ap (bit_and (frame * 2 ^ 12 + bits)) z ∙ and_block 12 frame 0 bits mask b m ∙ rw (and_zero_r frame) (omega arith)

store_bits : (page bits : ℕ) → bits < 2 ^ 12 → allows (no_execute + entry_with page bits) kind.Store User ≡ allows bits kind.Store User
store_bits page bits b =
    let e : no_execute + entry_with page bits ≡ (2 ^ 51 + page + 256) * 2 ^ 12 + bits = omega arith in
    let one = low_bits (2 ^ 51 + page + 256) bits 1 b (lit< tt) in
    let two = low_bits (2 ^ 51 + page + 256) bits 2 b (lit< tt) in
    let four = low_bits (2 ^ 51 + page + 256) bits 4 b (lit< tt) in
    ap (λ n. allows n kind.Store User) e ∙ rw (one, two, four) refl

-- the entries of pages past the main stack's and the mmap area's let no user store
no_store : (page : ℕ) (c d e : Bool) → allows (if c then no_execute + entry_with page 0x65 else if d then no_execute + entry_with page 0x63 else if e then no_execute + entry_with page 0x61 else 0) kind.Store User ≡ false
no_store page true d e = store_bits page 0x65 (lit< tt)
no_store page false true e = store_bits page 0x63 (lit< tt)
no_store page false false true = store_bits page 0x61 (lit< tt)
no_store page false false false = refl

high_entry : (image : ImageData) (page : ℕ) → first_shadow_page ≤ page → allows (entry_of image page) kind.Store User ≡ false
unfolding entry_of
high_entry image page l =
    let a : nat_lt page 1024 ≡ false = grind (arith, nat_tests) in
    let b : nat_lt page first_shadow_page ≡ false = grind (arith, nat_tests) in
    rw (a, b) (no_store page (nat_lt page first_kernel_page) (page == first_kernel_page) (page % 2 == 0))

-- a page on which the user may store is one of image, main stack or mmap area
pub store_page : (image : ImageData) (page v : ℕ) → IsEntry image page v → allows v kind.Store User ≡ true → page < first_shadow_page
store_page image page v (inl z) a = absurd (false≢true (sym (ap (λ n. allows n kind.Store User) z) ∙ a))
store_page image page v (inr e) a = elim (cases_lt page first_shadow_page) [
  | inl l ↦ l
  | inr g ↦ absurd (false≢true (sym (high_entry image page g) ∙ sym (ap (λ n. allows n kind.Store User) e) ∙ a))
]

-- the entries of kernel pages let no user load
load_bits : (page bits : ℕ) → bits < 2 ^ 12 → allows (no_execute + entry_with page bits) kind.Load User ≡ allows bits kind.Load User
load_bits page bits b =
    let e : no_execute + entry_with page bits ≡ (2 ^ 51 + page + 256) * 2 ^ 12 + bits = omega arith in
    let one = low_bits (2 ^ 51 + page + 256) bits 1 b (lit< tt) in
    let four = low_bits (2 ^ 51 + page + 256) bits 4 b (lit< tt) in
    ap (λ n. allows n kind.Load User) e ∙ rw (one, four) refl

no_load : (page : ℕ) (d e : Bool) → allows (if d then no_execute + entry_with page 0x63 else if e then no_execute + entry_with page 0x61 else 0) kind.Load User ≡ false
no_load page true e = load_bits page 0x63 (lit< tt)
no_load page false true = load_bits page 0x61 (lit< tt)
no_load page false false = refl

kernel_entry : (image : ImageData) (page : ℕ) → first_kernel_page ≤ page → allows (entry_of image page) kind.Load User ≡ false
unfolding entry_of
kernel_entry image page l =
    let a : nat_lt page 1024 ≡ false = grind (arith, nat_tests) in
    let b : nat_lt page first_shadow_page ≡ false = grind (arith, nat_tests) in
    let c : nat_lt page first_kernel_page ≡ false = grind (arith, nat_tests) in
    rw (a, b, c) (no_load page (page == first_kernel_page) (page % 2 == 0))

-- a page on which the user may load is none of the kernel's
pub load_page : (image : ImageData) (page v : ℕ) → IsEntry image page v → allows v kind.Load User ≡ true → page < first_kernel_page
load_page image page v (inl z) a = absurd (false≢true (sym (ap (λ n. allows n kind.Load User) z) ∙ a))
load_page image page v (inr e) a = elim (cases_lt page first_kernel_page) [
  | inl l ↦ l
  | inr g ↦ absurd (false≢true (sym (kernel_entry image page g) ∙ sym (ap (λ n. allows n kind.Load User) e) ∙ a))
]

-- its words matter for no stack, where the user may store
pub page_word : (page addr : ℕ) → page < first_shadow_page → IsOut (word_in page addr)
page_word page addr l = record { shadow = inl (omega arith); entry = omega arith; token = λ k lk. omega arith; below = λ k lk. omega arith; actions = inl (omega arith); draw = omega arith; next = omega arith; exit = omega arith }

-- an entry that allows something is present
pub entry_there : (k : Kind) (v : ℕ) → allows v k User ≡ true → v ≢ 0
entry_there k v a z = let none : allows 0 k User ≡ false = refl in false≢true (sym none ∙ sym (ap (λ n. allows n k User) z) ∙ a)

-- ---- addresses of the shadow area

pub shadow_page : (addr : ℕ) → shadow_start ≤ addr → addr < shadow_end → page_at addr ≡ Some (first_shadow_page + (addr - shadow_start) / 4096)
unfolding page_at
shadow_page addr low high = grind (arith, nat_tests)

pub shadow_slot : (addr : ℕ) → shadow_start ≤ addr → addr < shadow_end → word_in (first_shadow_page + (addr - shadow_start) / 4096) addr ≡ slot addr
shadow_slot addr low high = omega arith

pub below_is : (ssp : ℕ) → first_region_start ≤ ssp → ssp ≤ last_region_end → sub64 ssp 8 ≡ ssp - 8
below_is ssp low high = omega arith

pub above_is : (ssp : ℕ) → ssp ≤ last_region_end → add64 ssp 8 ≡ ssp + 8
above_is ssp high = omega arith

-- an address of a page that lies in a region
pub in_page : (b : Book) (i addr : ℕ) → shadow_start ≤ addr → addr < shadow_end → LiesIn (region b i) (first_shadow_page + (addr - shadow_start) / 4096) → In (region b i) addr
in_page b i addr low high l =
    let lo = l.low in
    let hi = l.high in
    record { low = omega arith; high = omega arith }

-- ---- what an address of some region tells of the top of region m

-- at the top there is an entry
pub entry_at : (b : Book) (m i : ℕ) → Shape b → m < length b.regions → In (region b i) (top (region b m)) → 1 ≤ length (region b m).entries
entry_at b m i h l inn = elim (cases_lt 0 (length (region b m).entries)) [
  | inl g ↦ omega arith
  | inr g ↦ absurd (
      let li = in_there b i (top (region b m)) inn in
      let full = (h.bounds m l).full in
      let lo = inn.low in
      let hi = inn.high in
      let e : top (region b m) ≡ (region b m).end = omega arith in
      elim (cases_lt i m) [
        | inl q ↦ (let a = h.apart i m q l in omega arith)
        | inr q ↦ elim (cases_lt m i) [
          | inl q' ↦ (let a = h.apart m i q' li in omega arith)
          | inr q' ↦ (let u : i ≡ m = omega arith in let hi' : top (region b m) < (region b m).end = subst (λ n. top (region b m) < (region b n).end) u hi in omega arith)
        ]
      ])
]

-- below the top there is room
pub room_below : (b : Book) (m i : ℕ) → Shape b → m < length b.regions → In (region b i) (top (region b m) - 8) → (region b m).start + 8 ≤ top (region b m)
room_below b m i h l inn =
    let d = h.bounds m l in
    let lo = d.low in
    let first = d.first in
    let last = d.last in
    let o = (h.fits m).room in
    elim (cases_lt (top (region b m)) ((region b m).start + 8)) [
      | inr g ↦ g
      | inl g ↦ absurd (
          let li = in_there b i (top (region b m) - 8) inn in
          let low = inn.low in
          let hi = inn.high in
          let e : top (region b m) ≡ (region b m).start = omega arith in
          elim (cases_lt i m) [
            | inl q ↦ (let a = h.apart i m q l in let el = (h.bounds i li).last in omega arith)
            | inr q ↦ elim (cases_lt m i) [
              | inl q' ↦ (let a = h.apart m i q' li in omega arith)
              | inr q' ↦ (let u : i ≡ m = omega arith in let low' : (region b m).start ≤ top (region b m) - 8 = subst (λ n. (region b n).start ≤ top (region b m) - 8) u low in omega arith)
            ]
          ])
    ]

-- and room for one more word, by another address
pub room_two_below : (b : Book) (m i : ℕ) → Shape b → m < length b.regions → (region b m).start + 8 ≤ top (region b m) → In (region b i) (top (region b m) - 16) → (region b m).start + 16 ≤ top (region b m)
room_two_below b m i h l some inn =
    let d = h.bounds m l in
    let lo = d.low in
    let first = d.first in
    let last = d.last in
    let o = (h.fits m).room in
    elim (cases_lt (top (region b m)) ((region b m).start + 16)) [
      | inr g ↦ g
      | inl g ↦ absurd (
          let li = in_there b i (top (region b m) - 16) inn in
          let low = inn.low in
          let hi = inn.high in
          let e : top (region b m) ≡ (region b m).start + 8 = omega arith in
          elim (cases_lt i m) [
            | inl q ↦ (let a = h.apart i m q l in let el = (h.bounds i li).last in omega arith)
            | inr q ↦ elim (cases_lt m i) [
              | inl q' ↦ (let a = h.apart m i q' li in omega arith)
              | inr q' ↦ (let u : i ≡ m = omega arith in let low' : (region b m).start ≤ top (region b m) - 16 = subst (λ n. (region b n).start ≤ top (region b m) - 16) u low in omega arith)
            ]
          ])
    ]
