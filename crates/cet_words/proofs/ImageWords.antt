-- The words of a page go by the segment that covers it.
use Rattle.std.proofs.Common.{◌≡◌, ℕ, ◌+◌, ◌*◌, ◌/◌, ◌<◌, ◌≤◌, List, Option, Some, None, refl, arith, ◌∙◌, ap, lit<}
use Rattle.std.proofs.lemmas.Bool.Decides.{nat_tests}
use Rattle.std.specs.Prelude.{find, slice_index}
use Rattle.cet_words.specs.declared.images.Segment.{Segment}
use Rattle.cet_words.specs.Layout.{image_start}
use Rattle.cet_words.specs.Job.{covers}
use Rattle.cet_words.specs.Start.{covered_byte, image_byte, word_of_bytes, image_word}
use Rattle.cet_words.specs.Fill.{FilledFrom}

byte_in : (segments : List Segment) (n : ℕ) (o : Option Segment) (addr : ℕ) → addr / 4096 ≡ n → find (covers n) segments ≡ o → image_byte segments addr ≡ covered_byte o addr
unfolding image_byte
byte_in segments n o addr at found = ap (λ m. covered_byte (find (covers m) segments) addr) at ∙ ap (λ p. covered_byte p addr) found

pub word_in : (segments : List Segment) (page w : ℕ) (o : Option Segment) → find (covers (1024 + page)) segments ≡ o → 512 * page ≤ w → w < 512 * page + 512 →
    image_word segments w ≡ word_of_bytes (covered_byte o) (image_start + 8 * w)
unfolding image_word word_of_bytes
word_in segments page w o found low high =
    let first : image_byte segments (image_start + 8 * w) ≡ covered_byte o (image_start + 8 * w)
    = byte_in segments (1024 + page) o (image_start + 8 * w) (omega arith) found in
    let at : (k : ℕ) → k < 8 → image_byte segments (image_start + 8 * w + k) ≡ covered_byte o (image_start + 8 * w + k)
    = λ k small. byte_in segments (1024 + page) o (image_start + 8 * w + k) (omega arith) found in
    rw (first, at 1 (lit< tt), at 2 (lit< tt), at 3 (lit< tt), at 4 (lit< tt), at 5 (lit< tt), at 6 (lit< tt), at 7 (lit< tt))

pub page_loaded : (segments : List Segment) (page : ℕ) (s : Segment) (old new : List ℕ) → find (covers (1024 + page)) segments ≡ Some s →
    FilledFrom (512 * page) (512 * page + 512) (λ w. word_of_bytes (covered_byte (Some s)) (image_start + 8 * w)) old new → FilledFrom (512 * page) (512 * page + 512) (image_word segments) old new
page_loaded segments page s old new found filled w =
    grind (arith, nat_tests, filled w, word_in segments page w (Some s) found)

no_bytes : (addr : ℕ) → word_of_bytes (covered_byte None) addr ≡ 0
unfolding word_of_bytes
no_bytes addr = refl

pub page_absent : (segments : List Segment) (page : ℕ) (words : List ℕ) → find (covers (1024 + page)) segments ≡ None → ((w : ℕ) → 512 * page ≤ w → slice_index words w ≡ 0) →
    FilledFrom (512 * page) (512 * page + 512) (image_word segments) words words
page_absent segments page words none zero w =
    grind (arith, nat_tests, zero w, word_in segments page w None none, no_bytes (image_start + 8 * w))
