-- Words that are copied part by part. Source: own.
use Rattle.std.proofs.Common.{◌≡◌, ℕ, zero, suc, ◌+◌, ◌<◌, ◌≤◌, List, [], ◌∷◌, length, get_or, set, sym, ◌∙◌, arith, length-set}
use Rattle.std.specs.Prelude.{bit_or, slice_index}
use Rattle.std.proofs.lemmas.Grind.{common_steps, same_number_lists}
use Rattle.std.proofs.lemmas.Nat.{le_or_l, le_or_r}
use Rattle.std.proofs.lemmas.Bool.Decides.{nat_tests}
use mathlib.Core.Option.{some, some-ne-none, some-injective}
use lib.ListN.{get_elem?}
use Rattle.cet_words.specs.Fill.{FilledFrom}
use Rattle.cet_words.specs.Layout.{word_count}

pub read_at : (l : List ℕ) (i a : ℕ) → get_elem? l i ≡ some a → get_or l i 0 ≡ a
read_at [] i a e = absurd (some-ne-none a (sym e))
read_at (x ∷ xs) zero a e = some-injective x a e
read_at (x ∷ xs) (suc i) a e = read_at xs i a e

-- each of the words from low to high is at most this number
abbrev pub Bounded : (low high bits : ℕ) (words : List ℕ) → Type 0
Bounded low high bits words = (w : ℕ) → low ≤ w → w < high → slice_index words w ≤ bits

pub bounded_more : (low at bits x : ℕ) (words : List ℕ) → get_elem? words at ≡ some x → Bounded low at bits words → Bounded low (at + 1) (bit_or bits x) words
bounded_more low at bits x words is h w from to =
    grind (arith, h w, read_at words at x is, le_or_l bits x, le_or_r bits x)

-- the words from low up to a place are stored
pub record Stored (low at : ℕ) (words old new : List ℕ) : Type 0 where
  pub size : length new ≡ word_count
  pub filled : FilledFrom low at (slice_index words) old new

pub stored_none : (low : ℕ) (words into : List ℕ) → length into ≡ word_count → Stored low low words into into
stored_none low words into size = record { size = size; filled = λ w. grind (arith, nat_tests) }

pub stored_more : (low at x : ℕ) (words old now : List ℕ) → low ≤ at → at < word_count → get_elem? words at ≡ some x → Stored low at words old now → Stored low (at + 1) words old (set now at x)
stored_more low at x words old now from to is h = record {
  size = length-set now at x ∙ h.size;
  filled = λ w. (let size = h.size in grind (arith, nat_tests, common_steps, h.filled w, read_at words at x is));
}

-- where a further part is stored
pub stored_on : (at next : ℕ) (words old now new : List ℕ) → at ≤ next → Stored 0 at words old now → length new ≡ word_count → FilledFrom at next (slice_index words) now new → Stored 0 next words old new
stored_on at next words old now new le h size more = record { size = size; filled = λ w. grind (arith, nat_tests, h.filled w, more w) }

pub stored_all : (words old new : List ℕ) → length words ≡ word_count → Stored 0 word_count words old new → new ≡ words
stored_all words old new long h =
    same_number_lists new words (h.size ∙ sym long) (λ w small. (let size = h.size in grind (arith, nat_tests, h.filled w)))
