-- Lists read item by item.
use Rattle.std.proofs.Common.{◌≡◌, ℕ, Bool, true, false, ◌&&◌, cond, eqb, List, [], ◌∷◌, Option, Some, None, refl, ap, sym, ◌∙◌}
use Rattle.std.specs.Prelude.{is_some}
use Rattle.cet_syntax.specs.Tokens.{Token, Word, Sign, Minus, ◌>>=◌, tokens}
use Rattle.cet_syntax.specs.Words.{Place, word_place, number_place}
use Rattle.cet_syntax.specs.Operands.{is_list, before, items, listed, separated, item_first}
use Rattle.cet_syntax.specs.Line.{Item, byte_of, quad_of, bytes_in, quads_in}

Found : Type 0
Found = Option (Place × Option (List Token))

-- a list by its first item
list_by : Option (Place × Option (List Token)) → Bool
list_by None = false
list_by (Some (p, None)) = true
list_by (Some (p, Some ts)) = is_list ts

items_by : {A : Type 0} → (Place → Option A) → Option (Place × Option (List Token)) → List A
items_by f None = []
items_by f (Some (p, None)) = before (f p) []
items_by f (Some (p, Some ts)) = before (f p) (items f ts)

list_end : (o : Option Place) → is_some o ≡ list_by (separated o [])
unfolding list_by
list_end None = refl
list_end (Some p) = refl

list_sign : (o : Option Place) (s : ℕ) (ts : List Token) → (is_some o && (eqb s 44 && is_list ts)) ≡ list_by (separated o (Sign s ∷ ts))
unfolding list_by
list_sign None s ts = refl
list_sign (Some p) s ts = go (eqb s 44)
  where
    go : (t : Bool) → (t && is_list ts) ≡ list_by (cond t (Some (p, Some ts)) None)
    go true = refl
    go false = refl

list_word : (o : Option Place) (w : List ℕ) (ts : List Token) → false ≡ list_by (separated o (Word w ∷ ts))
unfolding list_by
list_word None w ts = refl
list_word (Some p) w ts = refl

list_minus : (o : Option Place) (ts : List Token) → false ≡ list_by (separated o (Minus ∷ ts))
unfolding list_by
list_minus None ts = refl
list_minus (Some p) ts = refl

is_list-first : (ts : List Token) → is_list ts ≡ list_by (item_first ts)
unfolding is_list item_first list_by
is_list-first [] = refl
is_list-first (Sign s ∷ ts) = refl
is_list-first (Word w ∷ []) = list_end (word_place w)
is_list-first (Word w ∷ Sign s ∷ ts) = list_sign (word_place w) s ts
is_list-first (Word w ∷ Word v ∷ ts) = list_word (word_place w) v ts
is_list-first (Word w ∷ Minus ∷ ts) = list_minus (word_place w) ts
is_list-first (Minus ∷ []) = refl
is_list-first (Minus ∷ Sign s ∷ ts) = refl
is_list-first (Minus ∷ Minus ∷ ts) = refl
is_list-first (Minus ∷ Word w ∷ []) = list_end (number_place true w)
is_list-first (Minus ∷ Word w ∷ Sign s ∷ ts) = list_sign (number_place true w) s ts
is_list-first (Minus ∷ Word w ∷ Word v ∷ ts) = list_word (number_place true w) v ts
is_list-first (Minus ∷ Word w ∷ Minus ∷ ts) = list_minus (number_place true w) ts

items_end : {A : Type 0} (f : Place → Option A) (o : Option Place) → before (o >>= f) [] ≡ items_by f (separated o [])
unfolding items_by
items_end f None = refl
items_end f (Some p) = refl

items_sign : {A : Type 0} (f : Place → Option A) (o : Option Place) (s : ℕ) (ts : List Token) → cond (eqb s 44) (before (o >>= f) (items f ts)) [] ≡ items_by f (separated o (Sign s ∷ ts))
unfolding items_by
items_sign f None s ts = go (eqb s 44)
  where
    go : (t : Bool) → cond t (before (None >>= f) (items f ts)) [] ≡ []
    go true = refl
    go false = refl
items_sign f (Some p) s ts = go (eqb s 44)
  where
    go : (t : Bool) → cond t (before (f p) (items f ts)) [] ≡ items_by f (cond t (Some (p, Some ts)) None)
    go true = refl
    go false = refl

items_word : {A : Type 0} (f : Place → Option A) (o : Option Place) (w : List ℕ) (ts : List Token) → [] ≡ items_by f (separated o (Word w ∷ ts))
unfolding items_by
items_word f None w ts = refl
items_word f (Some p) w ts = refl

items_minus : {A : Type 0} (f : Place → Option A) (o : Option Place) (ts : List Token) → [] ≡ items_by f (separated o (Minus ∷ ts))
unfolding items_by
items_minus f None ts = refl
items_minus f (Some p) ts = refl

items-first : {A : Type 0} (f : Place → Option A) (ts : List Token) → items f ts ≡ items_by f (item_first ts)
unfolding items item_first items_by
items-first f [] = refl
items-first f (Sign s ∷ ts) = refl
items-first f (Word w ∷ []) = items_end f (word_place w)
items-first f (Word w ∷ Sign s ∷ ts) = items_sign f (word_place w) s ts
items-first f (Word w ∷ Word v ∷ ts) = items_word f (word_place w) v ts
items-first f (Word w ∷ Minus ∷ ts) = items_minus f (word_place w) ts
items-first f (Minus ∷ []) = refl
items-first f (Minus ∷ Sign s ∷ ts) = refl
items-first f (Minus ∷ Minus ∷ ts) = refl
items-first f (Minus ∷ Word w ∷ []) = items_end f (number_place true w)
items-first f (Minus ∷ Word w ∷ Sign s ∷ ts) = items_sign f (number_place true w) s ts
items-first f (Minus ∷ Word w ∷ Word v ∷ ts) = items_word f (number_place true w) v ts
items-first f (Minus ∷ Word w ∷ Minus ∷ ts) = items_minus f (number_place true w) ts

-- ---- the cases of a first item

pub no_list : (ts : List Token) → None ≡ item_first ts → is_list ts ≡ false
unfolding list_by
no_list ts e = is_list-first ts ∙ ap list_by (sym e)

pub last_list : (ts : List Token) (p : Place) → Some (p, None) ≡ item_first ts → is_list ts ≡ true
unfolding list_by
last_list ts p e = is_list-first ts ∙ ap list_by (sym e)

pub more_list : (ts more : List Token) (p : Place) → Some (p, Some more) ≡ item_first ts → is_list ts ≡ is_list more
unfolding list_by
more_list ts more p e = is_list-first ts ∙ ap list_by (sym e)

pub no_items : {A : Type 0} (f : Place → Option A) (ts : List Token) → None ≡ item_first ts → items f ts ≡ []
unfolding items_by
no_items f ts e = items-first f ts ∙ ap (items_by f) (sym e)

pub last_items : {A : Type 0} (f : Place → Option A) (ts : List Token) (p : Place) → Some (p, None) ≡ item_first ts → items f ts ≡ before (f p) []
unfolding items_by
last_items f ts p e = items-first f ts ∙ ap (items_by f) (sym e)

pub more_items : {A : Type 0} (f : Place → Option A) (ts more : List Token) (p : Place) → Some (p, Some more) ≡ item_first ts → items f ts ≡ before (f p) (items f more)
unfolding items_by
more_items f ts more p e = items-first f ts ∙ ap (items_by f) (sym e)

pub last_listed : (ts : List Token) (p : Place) → Some (p, None) ≡ item_first ts → listed ts ≡ p ∷ []
last_listed ts p e = last_items (λ (q : Place). Some q) ts p e

pub more_listed : (ts more : List Token) (p : Place) → Some (p, Some more) ≡ item_first ts → listed ts ≡ p ∷ listed more
more_listed ts more p e = more_items (λ (q : Place). Some q) ts more p e

pub ruleset list_laws = (no_list, last_list, more_list, last_listed, more_listed)

-- ---- bytes and words

items_none : {A : Type 0} (f : Place → Option A) (ts : List Token) (p : Place) (o : Option (List Token)) → Some (p, o) ≡ item_first ts → None ≡ f p → items f ts ≡ []
items_none f ts p None e n = last_items f ts p e ∙ ap (λ x. before x []) (sym n)
items_none f ts p (Some more) e n = more_items f ts more p e ∙ ap (λ x. before x (items f more)) (sym n)

pub no_bytes : (ts : List Token) → None ≡ item_first ts → bytes_in ts ≡ []
unfolding bytes_in
no_bytes ts e = no_items byte_of ts e

pub byte_none : (ts : List Token) (p : Place) (o : Option (List Token)) → Some (p, o) ≡ item_first ts → None ≡ byte_of p → bytes_in ts ≡ []
unfolding bytes_in
byte_none ts p o e n = items_none byte_of ts p o e n

pub last_byte : (ts : List Token) (p : Place) (b : ℕ) → Some (p, None) ≡ item_first ts → Some b ≡ byte_of p → bytes_in ts ≡ b ∷ bytes_in (tokens [])
unfolding bytes_in tokens items
last_byte ts p b e n = last_items byte_of ts p e ∙ ap (λ x. before x []) (sym n)

pub more_bytes : (ts more : List Token) (p : Place) (b : ℕ) → Some (p, Some more) ≡ item_first ts → Some b ≡ byte_of p → bytes_in ts ≡ b ∷ bytes_in more
unfolding bytes_in
more_bytes ts more p b e n = more_items byte_of ts more p e ∙ ap (λ x. before x (items byte_of more)) (sym n)

pub no_quads : (ts : List Token) → None ≡ item_first ts → quads_in ts ≡ []
unfolding quads_in
no_quads ts e = no_items quad_of ts e

pub quad_none : (ts : List Token) (p : Place) (o : Option (List Token)) → Some (p, o) ≡ item_first ts → None ≡ quad_of p → quads_in ts ≡ []
unfolding quads_in
quad_none ts p o e n = items_none quad_of ts p o e n

pub last_quad : (ts : List Token) (p : Place) (w : Item) → Some (p, None) ≡ item_first ts → Some w ≡ quad_of p → quads_in ts ≡ w ∷ quads_in (tokens [])
unfolding quads_in tokens items
last_quad ts p w e n = last_items quad_of ts p e ∙ ap (λ x. before x []) (sym n)

pub more_quads : (ts more : List Token) (p : Place) (w : Item) → Some (p, Some more) ≡ item_first ts → Some w ≡ quad_of p → quads_in ts ≡ w ∷ quads_in more
unfolding quads_in
more_quads ts more p w e n = more_items quad_of ts more p e ∙ ap (λ x. before x (items quad_of more)) (sym n)

pub ruleset byte_laws = (no_bytes, byte_none, last_byte, more_bytes)

pub ruleset quad_laws = (no_quads, quad_none, last_quad, more_quads)
