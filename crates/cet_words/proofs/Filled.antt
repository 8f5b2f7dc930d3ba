-- Words written one by one and range by range. Source: own.
use Rattle.std.proofs.Common.{◌≡◌, ℕ, ◌+◌, ◌-◌, ◌<◌, ◌≤◌, List, [], get_or, set, ◌∙◌, arith}
use Rattle.std.proofs.lemmas.Bool.Decides.{nat_tests}
use Rattle.cet_words.specs.Layout.{first_stack_word, first_kernel_word, first_entry_word, word_count}
use Rattle.cet_words.specs.Job.{ImageData}
use Rattle.cet_words.specs.Fill.{FilledFrom, WordSet}
use Rattle.cet_words.specs.Held.{held_words, held_word}
use Rattle.cet_words.specs.Start.{image_word, kernel_word, start_entry, start_word, IsStart}
use Rattle.cet_words.proofs.HeldLaws.{held_at, length-tabulate}

pub filled_none : (low : ℕ) (word : ℕ → ℕ) (old : List ℕ) → FilledFrom low low word old old
filled_none low word old w = grind (arith, nat_tests)

pub filled_more : (low at next : ℕ) (word : ℕ → ℕ) (old now new : List ℕ) (x : ℕ) → low ≤ at → next ≡ at + 1 → x ≡ word at → FilledFrom low at word old now → WordSet at x now new →
    FilledFrom low next word old new
filled_more low at next word old now new x from step is filled set w = grind (arith, nat_tests, filled w, set w)

-- what is written range by range
pub filled_on : (low at high : ℕ) (word : ℕ → ℕ) (old now new : List ℕ) → low ≤ at → at ≤ high → FilledFrom low at word old now → FilledFrom at high word now new → FilledFrom low high word old new
filled_on low at high word old now new from to first second w = grind (arith, nat_tests, first w, second w)

pub still_zero : (low high : ℕ) (word : ℕ → ℕ) (now : List ℕ) → FilledFrom low high word [] now → (w : ℕ) → high ≤ w → get_or now w 0 ≡ 0
still_zero low high word now filled w from = grind (arith, nat_tests, filled w)

pub kernel_filled : (image : ImageData) (first second : List ℕ) → FilledFrom 0 (first_entry_word - first_kernel_word) kernel_word [] first
    → FilledFrom (first_entry_word - first_kernel_word) (word_count - first_kernel_word) (λ w. start_entry image (w - (first_entry_word - first_kernel_word))) first second
    → (w : ℕ) → w < word_count - first_kernel_word → get_or second w 0 ≡ start_word image (first_kernel_word + w)
unfolding start_word
kernel_filled image first second a b w small =
    let back : first_kernel_word + w - first_kernel_word ≡ w = omega arith in
    let entry : first_kernel_word + w - first_entry_word ≡ w - (first_entry_word - first_kernel_word) = omega arith in
    grind (arith, nat_tests, a w, b w, back, entry)

started_each : (image : ImageData) (pages stack shadow kernel : List ℕ) → FilledFrom 0 first_stack_word (image_word image.segments) [] pages → stack ≡ [] → shadow ≡ []
    → ((w : ℕ) → w < word_count - first_kernel_word → get_or kernel w 0 ≡ start_word image (first_kernel_word + w))
    → (w : ℕ) → w < word_count → held_word pages stack shadow kernel w ≡ start_word image w
unfolding start_word
started_each image pages stack shadow kernel a b c d w small = grind (arith, nat_tests, a w, b, c, d (w - first_kernel_word))

pub started : (image : ImageData) (pages stack shadow kernel : List ℕ) → FilledFrom 0 first_stack_word (image_word image.segments) [] pages → stack ≡ [] → shadow ≡ []
    → ((w : ℕ) → w < word_count - first_kernel_word → get_or kernel w 0 ≡ start_word image (first_kernel_word + w))
    → IsStart image (held_words pages stack shadow kernel)
started image pages stack shadow kernel a b c d = record {
  size = length-tabulate word_count (held_word pages stack shadow kernel);
  each = λ w small. held_at pages stack shadow kernel w small ∙ started_each image pages stack shadow kernel a b c d w small;
}
