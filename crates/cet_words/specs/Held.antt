-- How the words of a machine are held: those of the image, of the main stack and the mmap area, of the shadow area, and
-- of the kernel pages with the page entries, each as a list of its own, past whose end the words are 0. Source: own.
use Rattle.std.specs.Prelude.{ℕ, ◌-◌, nat_lt, if◌then◌else◌, List, map, slice_index}
use Rattle.std.specs.List.{range_with_len}
use Rattle.cet_words.specs.Layout.{first_stack_word, first_shadow_word, first_kernel_word, word_count}

-- the values of a function at 0, 1, .., of which there are so many
unfoldable pub tabulate : ℕ → (ℕ → ℕ) → List ℕ
tabulate count f = map f (range_with_len 0 count)

-- the word of a number
abbrev pub held_word : (image stack shadow kernel : List ℕ) → ℕ → ℕ
held_word image stack shadow kernel w =
    if nat_lt w first_stack_word then slice_index image w
    else if nat_lt w first_shadow_word then slice_index stack (w - first_stack_word)
    else if nat_lt w first_kernel_word then slice_index shadow (w - first_shadow_word)
    else slice_index kernel (w - first_kernel_word)

abbrev pub held_words : (image stack shadow kernel : List ℕ) → List ℕ
held_words image stack shadow kernel = tabulate word_count (held_word image stack shadow kernel)
