-- A text made of pieces: its bytes, and its words and signs.
use Rattle.std.proofs.Common.{◌≡◌, ℕ, ◌<◌, Bool, true, false, not, ◌&&◌, ◌||◌, eqb, nat_lt, nat_le, List, [], ◌∷◌, ◌++◌, refl, sym, ap, ◌∙◌, append_assoc, append-nil, arith}
use Rattle.std.specs.List.{list_all}
use Rattle.std.proofs.lemmas.Bool.{and_parts, agree_below, agree_below_at}
use Rattle.cet_syntax.specs.declared.classes.Class.TheVariants.{Solid, Letter, BeforeComment}
use Rattle.cet_syntax.specs.Tokens.{Token, Word, is_sign, is_name_byte, in_class, begins_word, sign_token, onto_word, tokens}
use Rattle.cet_syntax.proofs.TokenLaws.{letter_is}
use Rattle.cet_encode.specs.Text as text

-- ---- bytes

-- a byte of a text: of ASCII, and neither the end of a line nor the start of a comment
abbrev pub is_text_byte : ℕ → Bool
is_text_byte b = nat_lt b 128 && (not (eqb b 10) && in_class BeforeComment b)

abbrev pub is_word : List ℕ → Bool
is_word [] = false
is_word (b ∷ w) = list_all is_name_byte (b ∷ w)

below : (b : ℕ) → is_name_byte b ≡ true → b < 123
below b h = go (nat_le 48 b) (nat_le b 57) (nat_le 97 b) (nat_le b 122) (nat_le 65 b) (nat_le b 90) (eqb b 95) refl refl refl refl h
  where
    go : (p q r s t u v : Bool) → nat_le b 57 ≡ q → nat_le b 122 ≡ s → nat_le b 90 ≡ u → eqb b 95 ≡ v
        → ((p && q) || ((r && s) || ((t && u) || v))) ≡ true → b < 123
    go p true r s t u v eq es eu ev h = grind arith
    go p false r true t u v eq es eu ev h = grind arith
    go p false r false t true v eq es eu ev h = grind arith
    go p false r false t false true eq es eu ev h = grind arith
    go true false true false true false false eq es eu ev h = absurd cc
    go true false true false false false false eq es eu ev h = absurd cc
    go true false false false true false false eq es eu ev h = absurd cc
    go true false false false false false false eq es eu ev h = absurd cc
    go false false true false true false false eq es eu ev h = absurd cc
    go false false true false false false false eq es eu ev h = absurd cc
    go false false false false true false false eq es eu ev h = absurd cc
    go false false false false false false false eq es eu ev h = absurd cc

abbrev implies : Bool → Bool → Bool
implies a b = not a || b

implied : (a b : Bool) → implies a b ≡ true → a ≡ true → b ≡ true
implied true b h e = h
implied false b h e = absurd cc

-- a test that all letters, digits and `_` pass, tried on each number below 123
abbrev pub all_pass : (ℕ → Bool) → Bool
all_pass p = agree_below (λ b. implies (is_name_byte b) (p b)) (λ _. true) 123

pub name_passes : (p : ℕ → Bool) (b : ℕ) → all_pass p ≡ true → is_name_byte b ≡ true → p b ≡ true
name_passes p b h k =
    implied (is_name_byte b) (p b) (agree_below_at (λ b. implies (is_name_byte b) (p b)) (λ _. true) 123 b h (below b k)) k

pub names_pass : (p : ℕ → Bool) (w : List ℕ) → all_pass p ≡ true → list_all is_name_byte w ≡ true → list_all p w ≡ true
names_pass p [] h k = refl
names_pass p (b ∷ w) h k =
    let a = and_parts (is_name_byte b) (list_all is_name_byte w) k in rw (name_passes p b h a.0) (names_pass p w h a.1)

pub name_letter : (b : ℕ) → is_name_byte b ≡ true → in_class Letter b ≡ true
name_letter b h = name_passes (in_class Letter) b refl h

pub name_solid : (b : ℕ) → is_name_byte b ≡ true → in_class Solid b ≡ true
name_solid b h = name_passes (in_class Solid) b refl h

-- ---- pieces after one another

abbrev pub joined : List text.Piece → List ℕ
joined [] = []
joined (p ∷ ps) = text.bytes_of p ++ joined ps

pub onto_joined : (bytes : List ℕ) (ps : List text.Piece) → text.onto bytes ps ≡ bytes ++ joined ps
onto_joined bytes [] = sym (append-nil bytes)
onto_joined bytes (p ∷ ps) = onto_joined (bytes ++ text.bytes_of p) ps ∙ append_assoc bytes (text.bytes_of p) (joined ps)

abbrev pub begins : List text.Piece → Bool
begins [] = false
begins (text.Word w ∷ ps) = true
begins (text.Sign b ∷ ps) = false
begins (text.Space ∷ ps) = false

abbrev pub tokens_of : List text.Piece → List Token
tokens_of [] = []
tokens_of (text.Word w ∷ ps) = Word w ∷ tokens_of ps
tokens_of (text.Sign b ∷ ps) = sign_token b (begins ps) ∷ tokens_of ps
tokens_of (text.Space ∷ ps) = tokens_of ps

-- no two words touch
abbrev pub IsPlain : List text.Piece → Type 0
IsPlain [] = Unit {0}
IsPlain (text.Word w ∷ ps) = (is_word w ≡ true) × (begins ps ≡ false) × IsPlain ps
IsPlain (text.Sign b ∷ ps) = (is_sign b ≡ true) × IsPlain ps
IsPlain (text.Space ∷ ps) = IsPlain ps

sign_is : (b : ℕ) → is_sign b ≡ true → in_class Letter b ≡ false
sign_is b h = rw h refl

begins_same : (ps : List text.Piece) → IsPlain ps → begins_word (joined ps) ≡ begins ps
begins_same [] h = refl
begins_same (text.Word [] ∷ ps) h = absurd (let e : false ≡ true = h.0 in cc)
begins_same (text.Word (b ∷ w) ∷ ps) h = name_letter b (and_parts (is_name_byte b) (list_all is_name_byte w) h.0).0
begins_same (text.Sign b ∷ ps) h = sign_is b h.0
begins_same (text.Space ∷ ps) h = refl

word_tokens : (b : ℕ) (w rest : List ℕ) → list_all is_name_byte (b ∷ w) ≡ true → begins_word rest ≡ false
    → tokens (b ∷ (w ++ rest)) ≡ Word (b ∷ w) ∷ tokens rest
unfolding tokens
word_tokens b [] rest h stop =
    let a = and_parts (is_name_byte b) (list_all is_name_byte []) h in
    let l = letter_is b (name_letter b a.0) in
    rw (l.0, l.1, stop) refl
word_tokens b (c ∷ w) rest h stop =
    let a = and_parts (is_name_byte b) (list_all is_name_byte (c ∷ w)) h in
    let l = letter_is b (name_letter b a.0) in
    let d = and_parts (is_name_byte c) (list_all is_name_byte w) a.1 in
    let ih = word_tokens c w rest a.1 stop in
    rw (l.0, l.1) (ap (λ (t : Bool). onto_word b t (tokens (c ∷ (w ++ rest)))) (name_letter c d.0) ∙ ap (onto_word b true) ih)

pub tokens_joined : (ps : List text.Piece) → IsPlain ps → tokens (joined ps) ≡ tokens_of ps
unfolding tokens
tokens_joined [] h = refl
tokens_joined (text.Space ∷ ps) h = tokens_joined ps h
tokens_joined (text.Sign b ∷ ps) h =
    rw h.0 (ap (λ (t : Bool). sign_token b t ∷ tokens (joined ps)) (begins_same ps h.1)
    ∙ ap (λ (k : List Token). sign_token b (begins ps) ∷ k) (tokens_joined ps h.1))
tokens_joined (text.Word [] ∷ ps) h = absurd (let e : false ≡ true = h.0 in cc)
tokens_joined (text.Word (b ∷ w) ∷ ps) h =
    word_tokens b w (joined ps) h.0 (begins_same ps h.2 ∙ h.1) ∙ ap (λ (k : List Token). Word (b ∷ w) ∷ k) (tokens_joined ps h.2)

-- ---- texts of pieces

all_append : (p : ℕ → Bool) (xs ys : List ℕ) → list_all p xs ≡ true → list_all p ys ≡ true → list_all p (xs ++ ys) ≡ true
all_append p [] ys h k = k
all_append p (x ∷ xs) ys h k = let a = and_parts (p x) (list_all p xs) h in rw a.0 (all_append p xs ys a.1 k)

-- a sign is one of six bytes
sign_text : (b : ℕ) → is_sign b ≡ true → is_text_byte b ≡ true
sign_text b h = implied (is_sign b) (is_text_byte b) (go (nat_lt b 94) refl) h
  where
    go : (t : Bool) → nat_lt b 94 ≡ t → implies (is_sign b) (is_text_byte b) ≡ true
    go true e = agree_below_at (λ b. implies (is_sign b) (is_text_byte b)) (λ _. true) 94 b refl (grind arith)
    go false e = absurd (grind arith)

pub joined_text : (ps : List text.Piece) → IsPlain ps → list_all is_text_byte (joined ps) ≡ true
joined_text [] h = refl
joined_text (text.Word [] ∷ ps) h = absurd (let e : false ≡ true = h.0 in cc)
joined_text (text.Word (b ∷ w) ∷ ps) h =
    all_append is_text_byte (b ∷ w) (joined ps) (names_pass is_text_byte (b ∷ w) refl h.0) (joined_text ps h.2)
joined_text (text.Sign b ∷ ps) h = rw (sign_text b h.0) (joined_text ps h.1)
joined_text (text.Space ∷ ps) h = joined_text ps h

pub plain_append : (ps qs : List text.Piece) → IsPlain ps → IsPlain qs → begins qs ≡ false → IsPlain (ps ++ qs)
plain_append [] qs h k stop = k
plain_append (text.Word w ∷ []) qs h k stop = (h.0, stop, k)
plain_append (text.Word w ∷ text.Word v ∷ ps) qs h k stop = absurd (let e : true ≡ false = h.1 in cc)
plain_append (text.Word w ∷ text.Sign b ∷ ps) qs h k stop = (h.0, refl, plain_append (text.Sign b ∷ ps) qs h.2 k stop)
plain_append (text.Word w ∷ text.Space ∷ ps) qs h k stop = (h.0, refl, plain_append ps qs h.2 k stop)
plain_append (text.Sign b ∷ ps) qs h k stop = (h.0, plain_append ps qs h.1 k stop)
plain_append (text.Space ∷ ps) qs h k stop = plain_append ps qs h k stop
