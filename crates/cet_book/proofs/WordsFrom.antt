-- Words read one by one are those of memory. Source: own.
use Rattle.std.proofs.Common.{◌≡◌, ℕ, suc, ◌+◌, ◌-◌, ◌*◌, ◌<◌, ◌≤◌, arith, refl, ap, sym, ◌∙◌, append_assoc, append-nil, List, [], ◌∷◌, ◌++◌}
use Rattle.cet_book.specs.Stack.{slot_word}
use Rattle.cet_book.specs.View.{words_from}

words_next : (words : List ℕ) (addr left count next : ℕ) → left ≡ suc count → next ≡ addr + 8 → words_from words addr left ≡ slot_word words addr ∷ words_from words next count
unfolding words_from
words_next words addr left count next e f = rw (e, f) refl

pub words_more : (words : List ℕ) (from count at : ℕ) → at < count → words_from words (from + 8 * at) (count - at) ≡ slot_word words (from + 8 * at) ∷ words_from words (from + 8 * (at + 1)) (count - (at + 1))
words_more words from count at l = words_next words (from + 8 * at) (count - at) (count - (at + 1)) (from + 8 * (at + 1)) (omega arith) (omega arith)

pub words_none : (words : List ℕ) (from count at : ℕ) → count ≤ at → words_from words (from + 8 * at) (count - at) ≡ []
unfolding words_from
words_none words from count at l = let e : count - at ≡ 0 = omega arith in rw e refl

-- one word more was read
pub read_more : (start list all : List ℕ) (from count at value : ℕ) → at < count → value ≡ slot_word start (from + 8 * at) → list ++ words_from start (from + 8 * at) (count - at) ≡ all →
    (list ++ value ∷ []) ++ words_from start (from + 8 * (at + 1)) (count - (at + 1)) ≡ all
read_more start list all from count at value l v e =
    let more = words_more start from count at l in
    let whole : list ++ (value ∷ words_from start (from + 8 * (at + 1)) (count - (at + 1))) ≡ all = ap (λ x. list ++ (x ∷ words_from start (from + 8 * (at + 1)) (count - (at + 1)))) v ∙
    ap (λ rest. list ++ rest) (sym more) ∙ e in
    rw append_assoc whole

pub read_all : (start list all : List ℕ) (from count at : ℕ) → count ≤ at → list ++ words_from start (from + 8 * at) (count - at) ≡ all → list ≡ all
read_all start list all from count at l e = sym (append-nil list) ∙ ap (λ rest. list ++ rest) (sym (words_none start from count at l)) ∙ e
