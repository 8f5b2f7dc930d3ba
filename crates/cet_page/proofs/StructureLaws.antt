-- The words of a structure are numbered one after another, as its addresses are. Source: own.
use Rattle.std.proofs.Common.{true, false, arith}
use Rattle.std.proofs.lemmas.Bool.{leb-true}
use Rattle.std.proofs.lemmas.Bool.Decides.{nat_tests}
use Rattle.std.specs.Prelude.{◌≡◌, ℕ, ◌+◌, ◌-◌, ◌*◌, ◌/◌, ◌%◌, ◌^◌, ◌<◌, ◌≤◌, Bool, nat_le, Option, Some, None, if◌then◌else◌, refl}
use Rattle.cet_page.specs.Word64.{add64}
use Rattle.cet_words.specs.Layout.{within, page_at, word_in, first_kernel_page, first_mmap_page, first_shadow_page, first_stack_page, image_end, image_start}
use Rattle.cet_words.specs.Layout.{kernel_end, kernel_start, mmap_end, mmap_start, shadow_end, shadow_start, stack_end, stack_start}

-- the address lies in a range of addresses that begins with this page
pub record Lies (addr page first start end : ℕ) : Type 0 where
  pub low : start ≤ addr
  pub high : addr < end
  pub page_is : page ≡ first + (addr - start) / 4096

-- c, d, e, f and g tell the ranges in the order of `page_at`
abbrev page_by : (addr : ℕ) (c d e f g : Bool) → Option ℕ
page_by addr c d e f g = if c then Some ((addr - image_start) / 4096) else if d then Some (first_stack_page + (addr - stack_start) / 4096) else if e then Some
    (first_mmap_page + (addr - mmap_start) / 4096) else if f then Some (first_shadow_page + (addr - shadow_start) / 4096) else if g then Some
    (first_kernel_page + (addr - kernel_start) / 4096) else None

module _ (P : Type 0) (addr page : ℕ) (image : Lies addr page 0 image_start image_end → P) (stack : Lies addr page first_stack_page stack_start stack_end →
    P) (mmap : Lies addr page first_mmap_page mmap_start mmap_end → P) (shadow : Lies addr page first_shadow_page shadow_start shadow_end →
    P) (kernel : Lies addr page first_kernel_page kernel_start kernel_end → P) where
  by_range : (c d e f g : Bool) → within image_start image_end addr ≡ c → within stack_start stack_end addr ≡ d → within mmap_start mmap_end addr ≡ e → within shadow_start shadow_end addr ≡ f →
      within kernel_start kernel_end addr ≡ g → page_by addr c d e f g ≡ Some page → P
  by_range true d e f g p q r s t is = image (let at : (addr - image_start) / 4096 ≡ page = cc in record { low = grind (arith, nat_tests); high = grind (arith, nat_tests); page_is = omega arith })
  by_range false true e f g p q r s t is = stack (let at : first_stack_page + (addr - stack_start) / 4096 ≡ page = cc in record { low = grind (arith, nat_tests); high = grind (arith, nat_tests); page_is = omega arith })
  by_range false false true f g p q r s t is = mmap (let at : first_mmap_page + (addr - mmap_start) / 4096 ≡ page = cc in record { low = grind (arith, nat_tests); high = grind (arith, nat_tests); page_is = omega arith })
  by_range false false false true g p q r s t is = shadow (let at : first_shadow_page + (addr - shadow_start) / 4096 ≡ page = cc in record { low = grind (arith, nat_tests); high = grind (arith, nat_tests); page_is = omega arith })
  by_range false false false false true p q r s t is = kernel (let at : first_kernel_page + (addr - kernel_start) / 4096 ≡ page = cc in record { low = grind (arith, nat_tests); high = grind (arith, nat_tests); page_is = omega arith })
  by_range false false false false false p q r s t is = cc

  -- by the range that holds an address of a page
  pub ranges : page_at addr ≡ Some page → P
  unfolding page_at
  ranges is = by_range _ _ _ _ _ refl refl refl refl refl is

low_sum : (addr bytes : ℕ) {end : ℕ} → bytes < 4096 → addr < end → nat_le (end + 4096) (2 ^ 64) ≡ true → add64 addr bytes ≡ addr + bytes
low_sum addr bytes {end} few low fits = let g = leb-true (end + 4096) (2 ^ 64) fits in let l : addr + bytes < 2 ^ 64 = omega arith in omega arith

-- two addresses less than a page apart
module _ (addr page n other : ℕ) (few : n < 512) where
  -- of one range
  same : (first start end : ℕ) → start % 4096 ≡ 0 → Lies addr page first start end → Lies (addr + 8 * n) other first start end → word_in other (addr + 8 * n) ≡ word_in page addr + n
  same first start end whole a b = let p = a.page_is in let q = b.page_is in let l = a.low in omega arith

  -- no range begins less than a page above the end of another
  above : (first start end first' start' end' : ℕ) → nat_le (end + 4096) start' ≡ true → Lies addr page first start end → Lies (addr + 8 * n) other first' start' end' → word_in other (addr + 8 * n) ≡ word_in page addr + n
  above first start end first' start' end' gap a b = absurd (let g = leb-true (end + 4096) start' gap in let h = a.high in let l = b.low in omega arith)

  below : (first start end first' start' end' : ℕ) → nat_le end' start ≡ true → Lies addr page first start end → Lies (addr + 8 * n) other first' start' end' → word_in other (addr + 8 * n) ≡ word_in page addr + n
  below first start end first' start' end' gap a b = absurd (let g = leb-true end' start gap in let l = a.low in let h = b.high in omega arith)

  -- the words between the two are numbered one after another
  pub words_follow : page_at addr ≡ Some page → page_at (addr + 8 * n) ≡ Some other → word_in other (addr + 8 * n) ≡ word_in page addr + n
  words_follow here there = ranges _ addr page
      (λ a. ranges _ (addr + 8 * n) other (same 0 image_start image_end refl a) (above 0 image_start image_end first_stack_page stack_start stack_end refl a)
      (above 0 image_start image_end first_mmap_page mmap_start mmap_end refl a) (above 0 image_start image_end first_shadow_page shadow_start shadow_end refl a)
      (above 0 image_start image_end first_kernel_page kernel_start kernel_end refl a) there)
      (λ a. ranges _ (addr + 8 * n) other (below first_stack_page stack_start stack_end 0 image_start image_end refl a) (same first_stack_page stack_start stack_end refl a)
      (above first_stack_page stack_start stack_end first_mmap_page mmap_start mmap_end refl a) (above first_stack_page stack_start stack_end first_shadow_page shadow_start shadow_end refl a)
      (above first_stack_page stack_start stack_end first_kernel_page kernel_start kernel_end refl a) there)
      (λ a. ranges _ (addr + 8 * n) other (below first_mmap_page mmap_start mmap_end 0 image_start image_end refl a)
      (below first_mmap_page mmap_start mmap_end first_stack_page stack_start stack_end refl a) (same first_mmap_page mmap_start mmap_end refl a)
      (above first_mmap_page mmap_start mmap_end first_shadow_page shadow_start shadow_end refl a)
      (above first_mmap_page mmap_start mmap_end first_kernel_page kernel_start kernel_end refl a) there)
      (λ a. ranges _ (addr + 8 * n) other (below first_shadow_page shadow_start shadow_end 0 image_start image_end refl a)
      (below first_shadow_page shadow_start shadow_end first_stack_page stack_start stack_end refl a) (below first_shadow_page shadow_start shadow_end first_mmap_page mmap_start mmap_end refl a)
      (same first_shadow_page shadow_start shadow_end refl a) (above first_shadow_page shadow_start shadow_end first_kernel_page kernel_start kernel_end refl a) there)
      (λ a. ranges _ (addr + 8 * n) other (below first_kernel_page kernel_start kernel_end 0 image_start image_end refl a)
      (below first_kernel_page kernel_start kernel_end first_stack_page stack_start stack_end refl a) (below first_kernel_page kernel_start kernel_end first_mmap_page mmap_start mmap_end refl a)
      (below first_kernel_page kernel_start kernel_end first_shadow_page shadow_start shadow_end refl a) (same first_kernel_page kernel_start kernel_end refl a) there)
      here

-- no page is so high that a sum wraps
pub unwrapped : (addr page bytes : ℕ) → bytes < 4096 → page_at addr ≡ Some page → add64 addr bytes ≡ addr + bytes
unwrapped addr page bytes few here = ranges _ addr page (λ a. low_sum addr bytes few a.high refl) (λ a. low_sum addr bytes few a.high refl) (λ a. low_sum addr bytes few a.high refl)
    (λ a. low_sum addr bytes few a.high refl) (λ a. low_sum addr bytes few a.high refl) here
