-- The tokens of a line's operands. Source: own.
use Rattle.std.specs.Prelude.{ℕ, Bool, true, false, not, ◌&&◌, ◌||◌, ◌==◌, nat_le, if◌then◌else◌, List, [], ◌∷◌, Option, Some, None, option_and_then}
use Rattle.cet_syntax.specs.declared.classes.Class.{Class}
use Rattle.cet_syntax.specs.declared.classes.Class.TheVariants.{Blank, Solid, Letter, NameByte, BeforeComment}

-- ---- classes of bytes

-- space or tab
abbrev pub is_blank : ℕ → Bool
is_blank b = (b == 32) || (b == 9)

-- one of `,` `[` `]` `+` `-` `*`
abbrev pub is_sign : ℕ → Bool
is_sign b = (b == 44) || ((b == 91) || ((b == 93) || ((b == 43) || ((b == 45) || (b == 42)))))

abbrev pub is_decimal : ℕ → Bool
is_decimal b = nat_le 48 b && nat_le b 57

-- a letter of ASCII, a digit or `_`
abbrev pub is_name_byte : ℕ → Bool
is_name_byte b = is_decimal b || ((nat_le 97 b && nat_le b 122) || ((nat_le 65 b && nat_le b 90) || (b == 95)))

-- a comment begins by `;` or `#`
abbrev pub in_class : Class → ℕ → Bool
in_class Blank b = is_blank b
in_class Solid b = not (is_blank b)
in_class Letter b = not (is_sign b || is_blank b)
in_class NameByte b = is_name_byte b
in_class BeforeComment b = not ((b == 59) || (b == 35))

-- the bytes of a class at the front
abbrev pub front : Class → List ℕ → List ℕ
front c [] = []
front c (b ∷ bytes) = if in_class c b then b ∷ front c bytes else []

-- what follows them
abbrev pub behind : Class → List ℕ → List ℕ
behind c [] = []
behind c (b ∷ bytes) = if in_class c b then behind c bytes else b ∷ bytes

-- ---- tokens

-- a word; one of the signs; a `-` with a word directly after it
pub data Token : Type 0 where
  Word : (bytes : List ℕ) → Token
  Sign : (byte : ℕ) → Token
  Minus : Token

abbrev pub begins_word : List ℕ → Bool
begins_word [] = false
begins_word (b ∷ bytes) = in_class Letter b

-- a sign, by whether a word stands directly after it
abbrev pub sign_token : ℕ → Bool → Token
sign_token b t = if (b == 45) && t then Minus else Sign b

-- a letter, by whether it belongs to the word after it
abbrev pub onto_word : ℕ → Bool → List Token → List Token
onto_word b true (Word w ∷ ts) = Word (b ∷ w) ∷ ts
onto_word b t ts = Word (b ∷ []) ∷ ts

-- blanks separate, and are no tokens
unfoldable pub tokens : List ℕ → List Token
tokens [] = []
tokens (b ∷ bytes) =
    if is_sign b then sign_token b (begins_word bytes) ∷ tokens bytes
    else if is_blank b then tokens bytes
    else onto_word b (begins_word bytes) (tokens bytes)

-- ---- steps that may find nothing

infixl 10 ◌>>=◌
abbrev pub ◌>>=◌ : {A B : Type 0} → Option A → (A → Option B) → Option B
o >>= f = option_and_then f o

-- the word at the front
abbrev pub word_first : List Token → Option (List ℕ × List Token)
word_first (Word w ∷ ts) = Some (w, ts)
word_first ts = None

-- what follows this sign
abbrev pub sign_first : ℕ → List Token → Option (List Token)
sign_first b (Sign s ∷ ts) = if s == b then Some ts else None
sign_first b ts = None
