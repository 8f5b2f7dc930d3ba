-- The operands of a line. Source: own, after the Intel syntax of the SDM (volume 2).
use Rattle.std.specs.Prelude.{ℕ, ℤ, Bool, true, false, ◌==◌, ◌&&◌, if◌then◌else◌, List, [], ◌∷◌, Option, Some, None, is_some, codes}
use Rattle.std.specs.Str.{bytes_eq}
use Rattle.cet_isa.specs.declared.instructions.Base.{Base}
use Rattle.cet_isa.specs.declared.instructions.Base.TheVariants as bases
use Rattle.cet_isa.specs.declared.instructions.Reg.{Reg}
use Rattle.cet_isa.specs.declared.instructions.Size.{Size}
use Rattle.cet_isa.specs.declared.instructions.Size.TheVariants as sizes
use Rattle.cet_syntax.specs.Tokens.{Token, Word, Sign, Minus, ◌>>=◌, word_first, sign_first}
use Rattle.cet_syntax.specs.Words.{Place, Number, register_of, is_counter, is_pointer, is_label, number_place, word_place}

-- ---- memory

-- base, index, and a number or label
pub record Address : Type 0 where
  pub base : Base
  pub index : Option Reg
  pub scale : ℕ
  pub disp : Option Place

abbrev pub empty_address : Address
empty_address = record { base = bases.None; index = None; scale = 1; disp = None }

abbrev pub with_index : Address → Reg → ℕ → Option Address
with_index a r scale = go a.index
  where
    go : Option Reg → Option Address
    go None = Some (record a { index = Some r; scale = scale })
    go (Some i) = None

abbrev pub with_pointer : Address → Option Address
with_pointer a = go a.base
  where
    go : Base → Option Address
    go bases.None = Some (record a { base = bases.Rip })
    go base = None

-- the first register without a scale is the base, another one the index
abbrev pub with_register : Address → Reg → Option Address
with_register a r = go a.base
  where
    go : Base → Option Address
    go bases.None = Some (record a { base = bases.Reg r })
    go base = with_index a r 1

abbrev pub with_place : Address → Option Place → Option Address
with_place a None = None
with_place a (Some p) = go a.disp
  where
    go : Option Place → Option Address
    go None = Some (record a { disp = Some p })
    go (Some q) = None

-- a word by itself
abbrev pub with_word : Address → List ℕ → Option Address
with_word a w = if is_pointer w then with_pointer a else go (register_of w)
  where
    go : Option (Size × Reg) → Option Address
    go (Some (sizes.Qword, r)) = with_register a r
    go (Some (sizes.Dword, r)) = None
    go None = with_place a (word_place w)

abbrev pub scale_of : List ℕ → Option ℕ
scale_of (b ∷ []) = if b == 49 then Some 1 else if b == 50 then Some 2 else if b == 52 then Some 4 else if b == 56 then Some 8 else None
scale_of w = None

-- a register and its scale
abbrev pub with_scaled : Address → List ℕ → List ℕ → Option Address
with_scaled a w k = go (register_of w) (scale_of k)
  where
    go : Option (Size × Reg) → Option ℕ → Option Address
    go (Some (sizes.Qword, r)) (Some scale) = with_index a r scale
    go o s = None

-- `*` and a word
abbrev pub starred : List Token → Option (List ℕ × List Token)
starred ts = sign_first 42 ts >>= word_first

abbrev pub after : Option Address → List Token → Option (Address × List Token)
after None ts = None
after (Some a) ts = Some (a, ts)

-- a part, with what follows it
unfoldable pub word_part : Address → List ℕ → List Token → Option (Address × List Token)
word_part a w ts = go (starred ts)
  where
    go : Option (List ℕ × List Token) → Option (Address × List Token)
    go None = after (with_word a w) ts
    go (Some k) = after (with_scaled a w k.0) k.1

-- a number whose `-` stands before, with what follows it
abbrev pub minus_part : Address → Bool → List Token → Option (Address × List Token)
minus_part a minus (Word w ∷ ts) = after (with_place a (number_place minus w)) ts
minus_part a minus ts = None

unfoldable pub part : Address → List Token → Option (Address × List Token)
part a (Word w ∷ ts) = word_part a w ts
part a (Minus ∷ ts) = minus_part a true ts
part a ts = None

-- a number that is taken away
unfoldable pub taken_part : Address → List Token → Option (Address × List Token)
taken_part a (Word w ∷ ts) = after (with_place a (number_place true w)) ts
taken_part a (Minus ∷ ts) = minus_part a false ts
taken_part a ts = None

-- a part after `+`, or a number after `-`
unfoldable pub joined : Address → List Token → Option (Address × List Token)
joined a (Minus ∷ ts) = taken_part a ts
joined a (Sign s ∷ ts) = if s == 43 then part a ts else if s == 45 then taken_part a ts else None
joined a ts = None

-- the same, or nothing before `]`
unfoldable pub more : Address → List Token → Option (Address × List Token)
more a ts = go (sign_first 93 ts)
  where
    go : Option (List Token) → Option (Address × List Token)
    go None = joined a ts
    go (Some rest) = Some (a, ts)

-- what follows `[`: base, index and number are three parts at most
unfoldable pub memory : List Token → Option (Address × List Token)
memory ts = do
  one ← part empty_address ts
  two ← more one.0 one.1
  three ← more two.0 two.1
  rest ← sign_first 93 three.1
  Some (three.0, rest)

-- ---- operands

-- `Dword` and `Byte` are memory after that word, `Relative` a number after `rel`, `Short` a label after `short`.
pub data ParsedOperand : Type 0 where
  Register : Size → Reg → ParsedOperand
  Counter : ParsedOperand
  Value : Place → ParsedOperand
  Memory : Address → ParsedOperand
  Dword : Address → ParsedOperand
  Byte : Address → ParsedOperand
  Relative : (value : Option ℤ) → ParsedOperand
  Short : (name : List ℕ) → ParsedOperand

abbrev pub value_parsed : Option Place → Option ParsedOperand
value_parsed None = None
value_parsed (Some p) = Some (Value p)

-- a word by itself
unfoldable pub word_parsed : List ℕ → Option ParsedOperand
word_parsed w = if is_counter w then Some Counter else go (register_of w)
  where
    go : Option (Size × Reg) → Option ParsedOperand
    go (Some x) = Some (Register x.0 x.1)
    go None = value_parsed (word_place w)

abbrev pub followed : Option ParsedOperand → List Token → Option (ParsedOperand × List Token)
followed None ts = None
followed (Some g) ts = Some (g, ts)

-- memory after a word
unfoldable pub sized_parsed : List ℕ → List Token → Option (ParsedOperand × List Token)
sized_parsed w ts = do
  m ← memory ts
  if bytes_eq w (codes "dword") then Some (Dword m.0, m.1) else if bytes_eq w (codes "byte") then Some (Byte m.0, m.1) else None

abbrev pub relative_parsed : Option Place → Option ParsedOperand
relative_parsed (Some (Number value)) = Some (Relative value)
relative_parsed p = None

-- a word after another
unfoldable pub second_parsed : List ℕ → List ℕ → Option ParsedOperand
second_parsed w v =
    if bytes_eq w (codes "rel") then relative_parsed (number_place false v)
    else if bytes_eq w (codes "short") then (if is_label v then Some (Short v) else None)
    else None

-- `-` and a word after a word
unfoldable pub minus_parsed : List ℕ → List ℕ → Option ParsedOperand
minus_parsed w v = if bytes_eq w (codes "rel") then relative_parsed (number_place true v) else None

-- the same, with what follows it
abbrev pub minus_worded : List ℕ → List Token → Option (ParsedOperand × List Token)
minus_worded w (Word v ∷ ts) = followed (minus_parsed w v) ts
minus_worded w ts = None

-- an operand that begins by the word, with what follows it
unfoldable pub worded : List ℕ → List Token → Option (ParsedOperand × List Token)
worded w [] = followed (word_parsed w) []
worded w (Sign s ∷ ts) = if s == 91 then sized_parsed w ts else followed (word_parsed w) (Sign s ∷ ts)
worded w (Word v ∷ ts) = followed (second_parsed w v) ts
worded w (Minus ∷ ts) = minus_worded w ts

abbrev pub memory_parsed : Option (Address × List Token) → Option (ParsedOperand × List Token)
memory_parsed None = None
memory_parsed (Some m) = Some (Memory m.0, m.1)

-- a number after its `-`, with what follows it
abbrev pub negative_parsed : List Token → Option (ParsedOperand × List Token)
negative_parsed (Word w ∷ ts) = followed (value_parsed (number_place true w)) ts
negative_parsed ts = None

-- an operand, with what follows it
unfoldable pub parsed : List Token → Option (ParsedOperand × List Token)
parsed (Word w ∷ ts) = worded w ts
parsed (Sign s ∷ ts) = if s == 91 then memory_parsed (memory ts) else None
parsed (Minus ∷ ts) = negative_parsed ts
parsed [] = None

pub data Operands : Type 0 where
  Absent : Operands
  One : ParsedOperand → Operands
  Two : ParsedOperand → ParsedOperand → Operands

abbrev pub ended : ParsedOperand → ParsedOperand → List Token → Option Operands
ended g h [] = Some (Two g h)
ended g h ts = None

-- the second operand, which ends the line
unfoldable pub second : ParsedOperand → List Token → Option Operands
second g ts = parsed ts >>= (λ o. ended g o.0 o.1)

unfoldable pub after_first : ParsedOperand → List Token → Option Operands
after_first g [] = Some (One g)
after_first g (Sign s ∷ ts) = if s == 44 then second g ts else None
after_first g ts = None

-- at most two, with a comma between them; None is a bad operand
unfoldable pub operands : List Token → Option Operands
operands [] = Some Absent
operands ts = parsed ts >>= (λ o. after_first o.0 o.1)

-- ---- lists

-- numbers and labels with commas between them
unfoldable pub is_list : List Token → Bool
is_list (Word w ∷ []) = is_some (word_place w)
is_list (Word w ∷ Sign s ∷ ts) = is_some (word_place w) && ((s == 44) && is_list ts)
is_list (Minus ∷ Word w ∷ []) = is_some (number_place true w)
is_list (Minus ∷ Word w ∷ Sign s ∷ ts) = is_some (number_place true w) && ((s == 44) && is_list ts)
is_list ts = false

abbrev pub before : {A : Type 0} → Option A → List A → List A
before None xs = []
before (Some x) xs = x ∷ xs

-- what the function makes of the numbers and labels of a list, up to the first for which it has nothing
unfoldable pub items : {A : Type 0} → (Place → Option A) → List Token → List A
items f (Word w ∷ []) = before (word_place w >>= f) []
items f (Word w ∷ Sign s ∷ ts) = if s == 44 then before (word_place w >>= f) (items f ts) else []
items f (Minus ∷ Word w ∷ []) = before (number_place true w >>= f) []
items f (Minus ∷ Word w ∷ Sign s ∷ ts) = if s == 44 then before (number_place true w >>= f) (items f ts) else []
items f ts = []

abbrev pub listed : List Token → List Place
listed ts = items (λ p. Some p) ts

-- what follows an item: the end, or a comma and more
abbrev pub separated : Option Place → List Token → Option (Place × Option (List Token))
separated None ts = None
separated (Some p) [] = Some (p, None)
separated (Some p) (Sign s ∷ ts) = if s == 44 then Some (p, Some ts) else None
separated (Some p) ts = None

abbrev pub negative_item : List Token → Option (Place × Option (List Token))
negative_item (Word w ∷ ts) = separated (number_place true w) ts
negative_item ts = None

-- the first item of a list, and what follows its comma
unfoldable pub item_first : List Token → Option (Place × Option (List Token))
item_first (Word w ∷ ts) = separated (word_place w) ts
item_first (Minus ∷ ts) = negative_item ts
item_first ts = None
