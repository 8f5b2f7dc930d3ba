-- A word that is read or set where it is held. Source: own.
use Rattle.std.proofs.Common.{◌≡◌, ℕ, ◌-◌, ◌<◌, ◌≤◌, List, [], length, get_or, set, sym, ◌∙◌, arith, length-set}
use Rattle.std.specs.Prelude.{slice_index, slice_set, if◌then◌else◌, ◌==◌}
use Rattle.std.proofs.lemmas.List.{ext_get_or, get_or_past}
use Rattle.std.proofs.lemmas.List.FromFn.{length-map-range_with_len, get_or-map-range_with_len}
use Rattle.std.proofs.lemmas.Grind.{common_steps}
use Rattle.std.proofs.lemmas.Bool.Decides.{nat_tests}
use Rattle.cet_words.specs.Layout.{first_stack_word, first_shadow_word, first_kernel_word, within, word_count}
use Rattle.cet_words.specs.Fill.{FilledFrom, WordSet}
use Rattle.cet_words.specs.Held.{tabulate, held_word, held_words}

pub length-tabulate : (n : ℕ) (f : ℕ → ℕ) → length (tabulate n f) ≡ n
unfolding tabulate
length-tabulate n f = length-map-range_with_len f 0 n

pub get_or-tabulate : (n : ℕ) (f : ℕ → ℕ) (i : ℕ) → i < n → get_or (tabulate n f) i 0 ≡ f i
unfolding tabulate
get_or-tabulate n f i h = get_or-map-range_with_len f 0 n i i 0 h (omega arith)

-- all words are there
pub all_held : (image stack shadow kernel : List ℕ) → length (held_words image stack shadow kernel) ≡ word_count
all_held image stack shadow kernel = length-tabulate word_count (held_word image stack shadow kernel)

-- where one value of the function changes, one element of the list does
pub tabulate_set : (n : ℕ) (f g : ℕ → ℕ) (i v : ℕ) → i < n → ((w : ℕ) → g w ≡ (if w == i then v else f w)) → tabulate n g ≡ set (tabulate n f) i v
tabulate_set n f g i v h e =
    ext_get_or 0 (tabulate n g) (set (tabulate n f) i v)
    (length-tabulate n g ∙ sym (length-set (tabulate n f) i v ∙ length-tabulate n f))
    (λ k l. (let small : k < n = (let size = length-tabulate n g in omega arith) in
    grind (arith, nat_tests, common_steps, e k, get_or-tabulate n g k small, get_or-tabulate n f k small, length-tabulate n f)))

pub held_at : (image stack shadow kernel : List ℕ) (w : ℕ) → w < word_count → slice_index (held_words image stack shadow kernel) w ≡ held_word image stack shadow kernel w
held_at image stack shadow kernel w h = get_or-tabulate word_count (held_word image stack shadow kernel) w h

held_set : (image stack shadow kernel image' stack' shadow' kernel' : List ℕ) (i v : ℕ) → i < word_count
    → ((w : ℕ) → held_word image' stack' shadow' kernel' w ≡ (if w == i then v else held_word image stack shadow kernel w))
    → held_words image' stack' shadow' kernel' ≡ slice_set (held_words image stack shadow kernel) i v
held_set image stack shadow kernel image' stack' shadow' kernel' i v h e =
    tabulate_set word_count (held_word image stack shadow kernel) (held_word image' stack' shadow' kernel') i v h e

pub image_set : (image stack shadow kernel new : List ℕ) (i v : ℕ) → i < first_stack_word → WordSet i v image new
    → held_words new stack shadow kernel ≡ slice_set (held_words image stack shadow kernel) i v
image_set image stack shadow kernel new i v high s =
    held_set image stack shadow kernel new stack shadow kernel i v (omega arith) (λ w. grind (arith, nat_tests, s w))

pub stack_set : (image stack shadow kernel new : List ℕ) (i v : ℕ) → first_stack_word ≤ i → i < first_shadow_word → WordSet (i - first_stack_word) v stack new
    → held_words image new shadow kernel ≡ slice_set (held_words image stack shadow kernel) i v
stack_set image stack shadow kernel new i v low high s =
    held_set image stack shadow kernel image new shadow kernel i v (omega arith) (λ w. grind (arith, nat_tests, s (w - first_stack_word)))

pub shadow_set : (image stack shadow kernel new : List ℕ) (i v : ℕ) → first_shadow_word ≤ i → i < first_kernel_word → WordSet (i - first_shadow_word) v shadow new
    → held_words image stack new kernel ≡ slice_set (held_words image stack shadow kernel) i v
shadow_set image stack shadow kernel new i v low high s =
    held_set image stack shadow kernel image stack new kernel i v (omega arith) (λ w. grind (arith, nat_tests, s (w - first_shadow_word)))

pub kernel_set : (image stack shadow kernel new : List ℕ) (i v : ℕ) → first_kernel_word ≤ i → i < word_count → WordSet (i - first_kernel_word) v kernel new
    → held_words image stack shadow new ≡ slice_set (held_words image stack shadow kernel) i v
kernel_set image stack shadow kernel new i v low high s =
    held_set image stack shadow kernel image stack shadow new i v high (λ w. grind (arith, nat_tests, s (w - first_kernel_word)))

-- the words at one number where each range is cleared
cleared_at : (image stack shadow kernel image' stack' shadow' kernel' : List ℕ) (low high : ℕ)
    → FilledFrom (low - 0) (high - 0) (λ w. 0) image image' → FilledFrom (low - first_stack_word) (high - first_stack_word) (λ w. 0) stack stack'
    → FilledFrom (low - first_shadow_word) (high - first_shadow_word) (λ w. 0) shadow shadow' → FilledFrom (low - first_kernel_word) (high - first_kernel_word) (λ w. 0) kernel kernel'
    → (w : ℕ) → held_word image' stack' shadow' kernel' w ≡ (if within low high w then 0 else held_word image stack shadow kernel w)
cleared_at image stack shadow kernel image' stack' shadow' kernel' low high a b c d w =
    grind (arith, nat_tests, a w, b (w - first_stack_word), c (w - first_shadow_word), d (w - first_kernel_word))

pub cleared : (image stack shadow kernel image' stack' shadow' kernel' : List ℕ) (low high : ℕ) → high ≤ word_count
    → FilledFrom (low - 0) (high - 0) (λ w. 0) image image' → FilledFrom (low - first_stack_word) (high - first_stack_word) (λ w. 0) stack stack'
    → FilledFrom (low - first_shadow_word) (high - first_shadow_word) (λ w. 0) shadow shadow' → FilledFrom (low - first_kernel_word) (high - first_kernel_word) (λ w. 0) kernel kernel'
    → FilledFrom low high (λ w. 0) (held_words image stack shadow kernel) (held_words image' stack' shadow' kernel')
cleared image stack shadow kernel image' stack' shadow' kernel' low high top a b c d w =
    grind (
      arith,
      nat_tests,
      cleared_at image stack shadow kernel image' stack' shadow' kernel' low high a b c d w,
      held_at image stack shadow kernel w,
      held_at image' stack' shadow' kernel' w,
      get_or_past (held_words image stack shadow kernel) w 0,
      get_or_past (held_words image' stack' shadow' kernel') w 0,
      all_held image stack shadow kernel,
      all_held image' stack' shadow' kernel',
    )

-- what is appended range by range is all words
pub all_laid : (image stack shadow kernel zero one two three all : List ℕ) (a b c d : ℕ) → zero ≡ [] → a ≡ 0 → b ≡ first_stack_word → c ≡ first_shadow_word → d ≡ first_kernel_word → length all ≡ word_count
    → FilledFrom a first_stack_word (λ w. slice_index image (w - a)) zero one → FilledFrom b first_shadow_word (λ w. slice_index stack (w - b)) one two
    → FilledFrom c first_kernel_word (λ w. slice_index shadow (w - c)) two three → FilledFrom d word_count (λ w. slice_index kernel (w - d)) three all
    → all ≡ held_words image stack shadow kernel
all_laid image stack shadow kernel zero one two three all a b c d none ea eb ec ed size e f g h =
    ext_get_or 0 all (held_words image stack shadow kernel) (size ∙ sym (all_held image stack shadow kernel))
    (λ w small. grind (arith, nat_tests, held_at image stack shadow kernel w, e w, f w, g w, h w))
