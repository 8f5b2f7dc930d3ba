-- A list has no more items than its text has bytes.
use Rattle.std.proofs.Common.{ℕ, ◌+◌, ◌≤◌, Bool, true, false, cond, eqb, List, [], ◌∷◌, length, Option, Some, None, arith}
use Rattle.cet_syntax.specs.Tokens.{Token, Word, Sign, Minus, ◌>>=◌, is_sign, is_blank, begins_word, sign_token, onto_word, tokens}
use Rattle.cet_syntax.specs.Words.{Place, word_place, number_place}
use Rattle.cet_syntax.specs.Operands.{before, items}
use Rattle.cet_syntax.specs.Line.{byte_of, quad_of, bytes_in, quads_in}

onto_length : (b : ℕ) (t : Bool) (ts : List Token) → length (onto_word b t ts) ≤ 1 + length ts
onto_length b true (Word w ∷ ts) = omega arith
onto_length b true (Sign s ∷ ts) = omega arith
onto_length b true (Minus ∷ ts) = omega arith
onto_length b true [] = omega arith
onto_length b false ts = omega arith

tokens_length : (bytes : List ℕ) → length (tokens bytes) ≤ length bytes
unfolding tokens
tokens_length [] = omega arith
tokens_length (b ∷ bytes) = go (is_sign b) (is_blank b) (tokens_length bytes)
  where
    go : (s t : Bool) → length (tokens bytes) ≤ length bytes
        → length (cond s (sign_token b (begins_word bytes) ∷ tokens bytes) (cond t (tokens bytes) (onto_word b (begins_word bytes) (tokens bytes)))) ≤ length (b ∷ bytes)
    go true t h = omega (arith, h)
    go false true h = omega (arith, h)
    go false false h = omega (arith, h, onto_length b (begins_word bytes) (tokens bytes))

before_length : {A : Type 0} (o : Option A) (xs : List A) → length (before o xs) ≤ 1 + length xs
before_length None xs = omega arith
before_length (Some x) xs = omega arith

items_length : {A : Type 0} (f : Place → Option A) (ts : List Token) → length (items f ts) ≤ length ts
unfolding items
items_length f [] = omega arith
items_length f (Sign s ∷ ts) = omega arith
items_length f (Word w ∷ []) = before_length (word_place w >>= f) []
items_length {A} f (Word w ∷ Sign s ∷ ts) = go (eqb s 44) (items_length f ts)
  where
    go : (t : Bool) → length (items f ts) ≤ length ts → length {A = A} (cond t (before (word_place w >>= f) (items f ts)) []) ≤ length (Word w ∷ Sign s ∷ ts)
    go true h = omega (arith, h, before_length (word_place w >>= f) (items f ts))
    go false h = omega arith
items_length f (Word w ∷ Word v ∷ ts) = omega arith
items_length f (Word w ∷ Minus ∷ ts) = omega arith
items_length f (Minus ∷ []) = omega arith
items_length f (Minus ∷ Sign s ∷ ts) = omega arith
items_length f (Minus ∷ Minus ∷ ts) = omega arith
items_length f (Minus ∷ Word w ∷ []) = omega (arith, before_length (number_place true w >>= f) [])
items_length {A} f (Minus ∷ Word w ∷ Sign s ∷ ts) = go (eqb s 44) (items_length f ts)
  where
    go : (t : Bool) → length (items f ts) ≤ length ts → length {A = A} (cond t (before (number_place true w >>= f) (items f ts)) []) ≤ length (Minus ∷ Word w ∷ Sign s ∷ ts)
    go true h = omega (arith, h, before_length (number_place true w >>= f) (items f ts))
    go false h = omega arith
items_length f (Minus ∷ Word w ∷ Word v ∷ ts) = omega arith
items_length f (Minus ∷ Word w ∷ Minus ∷ ts) = omega arith

pub bytes_fit : (text : List ℕ) → length (bytes_in (tokens text)) ≤ length text
unfolding bytes_in
bytes_fit text = omega (arith, items_length byte_of (tokens text), tokens_length text)

pub quads_fit : (text : List ℕ) → length (quads_in (tokens text)) ≤ length text
unfolding quads_in
quads_fit text = omega (arith, items_length quad_of (tokens text), tokens_length text)

pub ruleset size_laws = (bytes_fit, quads_fit)
