-- The first token of a text.
use Rattle.std.proofs.Common.{◌≡◌, ℕ, ◌≤◌, ◌<◌, Bool, true, false, not, ◌||◌, cond, List, [], ◌∷◌, length, refl, ap, arith}
use Rattle.cet_syntax.specs.declared.classes.Class.{Class}
use Rattle.cet_syntax.specs.declared.classes.Class.TheVariants.{Letter}
use Rattle.cet_syntax.specs.Tokens.{Word, is_blank, is_sign, in_class, front, behind, begins_word, sign_token, onto_word, tokens}

pub letter_is : (b : ℕ) → in_class Letter b ≡ true → (is_sign b ≡ false) × (is_blank b ≡ false)
letter_is b h = go (is_sign b) (is_blank b) h
  where
    go : (t u : Bool) → not (t || u) ≡ true → (t ≡ false) × (u ≡ false)
    go false false e = (refl, refl)
    go false true e = absurd cc
    go true u e = absurd cc

letter_if : (b : ℕ) → is_sign b ≡ false → is_blank b ≡ false → in_class Letter b ≡ true
letter_if b s l = rw (s, l) refl

word_at : (b : ℕ) (bytes : List ℕ) → in_class Letter b ≡ true → tokens (b ∷ bytes) ≡ Word (b ∷ front Letter bytes) ∷ tokens (behind Letter bytes)
unfolding tokens
word_at b [] l = let e = letter_is b l in rw (e.0, e.1) refl
word_at b (c ∷ bytes) l = go (in_class Letter c) refl (λ k. word_at c bytes k)
  where
    go : (t : Bool) → in_class Letter c ≡ t → (in_class Letter c ≡ true → tokens (c ∷ bytes) ≡ Word (c ∷ front Letter bytes) ∷ tokens (behind Letter bytes))
        → tokens (b ∷ (c ∷ bytes)) ≡ Word (b ∷ cond t (c ∷ front Letter bytes) []) ∷ tokens (cond t (behind Letter bytes) (c ∷ bytes))
    go true k ih = let e = letter_is b l in rw (e.0, e.1) (rw k (ap (onto_word b true) (ih k)))
    go false k ih = let e = letter_is b l in rw (e.0, e.1) (rw k refl)

-- a word at the front
pub first_word : (b : ℕ) (bytes : List ℕ) → is_sign b ≡ false → is_blank b ≡ false → tokens (b ∷ bytes) ≡ Word (front Letter (b ∷ bytes)) ∷ tokens (behind Letter (b ∷ bytes))
first_word b bytes s l = let k = letter_if b s l in rw k (word_at b bytes k)

pub behind_shorter : (c : Class) (bytes : List ℕ) → length (behind c bytes) ≤ length bytes
behind_shorter c [] = omega arith
behind_shorter c (b ∷ bytes) = go (in_class c b) (behind_shorter c bytes)
  where
    go : (t : Bool) → length (behind c bytes) ≤ length bytes → length (cond t (behind c bytes) (b ∷ bytes)) ≤ length (b ∷ bytes)
    go true h = omega (arith, h)
    go false h = omega arith

pub first_shorter : (b : ℕ) (bytes : List ℕ) → is_sign b ≡ false → is_blank b ≡ false → length (behind Letter (b ∷ bytes)) < length (b ∷ bytes)
first_shorter b bytes s l = let k = letter_if b s l in rw k (let h = behind_shorter Letter bytes in omega (arith, h))

pub first_blank : (b : ℕ) (bytes : List ℕ) → is_sign b ≡ false → is_blank b ≡ true → tokens (b ∷ bytes) ≡ tokens bytes
unfolding tokens
first_blank b bytes s l = rw (s, l) refl

pub first_sign : (b : ℕ) (bytes : List ℕ) → is_sign b ≡ true → tokens (b ∷ bytes) ≡ sign_token b (begins_word bytes) ∷ tokens bytes
unfolding tokens
first_sign b bytes s = rw s refl

pub no_tokens : tokens [] ≡ []
unfolding tokens
no_tokens = refl

pub ruleset first_token_laws = (first_word, first_shorter, first_blank, first_sign, no_tokens)
