-- Names and numbers of the assembler. Source: own; register names are those of the Intel SDM (volume 1, chapter 3).
use Rattle.std.specs.Prelude.{ℕ, ℤ, pos, negsuc, neg_ℤ, ◌^◌, Bool, false, not, ◌&&◌, ◌||◌, nat_lt, if◌then◌else◌, List, [], ◌∷◌, Option, Some, None, is_some, codes, ◌==◌}
use Rattle.std.specs.List.{list_all}
use Rattle.std.specs.Option.{option_or}
use Rattle.std.specs.Str.{bytes_eq}
use Rattle.std.specs.Int.{w8, w32, w64, cast_signed, cast_unsigned}
use Rattle.cet_base.specs.Numbers.{number_of}
use Rattle.cet_isa.specs.Names.{register_named}
use Rattle.cet_isa.specs.declared.instructions.Reg.{Reg}
use Rattle.cet_isa.specs.declared.instructions.Size.{Size}
use Rattle.cet_isa.specs.declared.instructions.Size.TheVariants.{Dword, Qword}
use Rattle.cet_syntax.specs.Tokens.{is_decimal, is_name_byte}

-- ---- names

abbrev pub sized : Size → Option Reg → Option (Size × Reg)
sized size None = None
sized size (Some r) = Some (size, r)

-- the register that the word names, and the size by which it calls it
unfoldable pub register_of : List ℕ → Option (Size × Reg)
register_of w = option_or (sized Qword (register_named Qword w)) (sized Dword (register_named Dword w))

abbrev pub is_counter : List ℕ → Bool
is_counter w = bytes_eq w (codes "cl")

abbrev pub is_pointer : List ℕ → Bool
is_pointer w = bytes_eq w (codes "rip")

abbrev pub begins_decimal : List ℕ → Bool
begins_decimal [] = false
begins_decimal (b ∷ bytes) = is_decimal b

abbrev pub is_reserved : List ℕ → Bool
is_reserved w = is_some (register_of w) || (is_counter w || is_pointer w)

abbrev pub is_word_of_name : List ℕ → Bool
is_word_of_name [] = false
is_word_of_name (b ∷ bytes) = not (is_decimal b) && list_all is_name_byte (b ∷ bytes)

-- letters, digits and `_`, no digit first; no register and not `rip`
unfoldable pub is_label : List ℕ → Bool
is_label w = is_word_of_name w && not (is_reserved w)

-- ---- numbers and labels where a number may stand

-- a number, None where it is ill-formed, or a label
pub data Place : Type 0 where
  Number : (value : Option ℤ) → Place
  Label : (name : List ℕ) → Place

-- a number with or without `-` before it
abbrev pub signed : Bool → Option ℕ → Option ℤ
signed minus None = None
signed minus (Some n) = if minus then Some (neg_ℤ (pos n)) else Some (pos n)

-- a byte of ASCII, but for NUL and the carriage return
abbrev pub is_plain : ℕ → Bool
is_plain b = not ((b == 0) || (b == 13)) && nat_lt b 128

-- a number begins by a digit; a word with other bytes than plain ones is none, and no ill-formed one option_or
unfoldable pub number_place : Bool → List ℕ → Option Place
number_place minus w = if begins_decimal w && list_all is_plain w then Some (Number (signed minus (number_of w))) else None

unfoldable pub word_place : List ℕ → Option Place
word_place w = if begins_decimal w then number_place false w else if is_label w then Some (Label w) else None

-- ---- fields

-- -2^31 to 2^31 - 1
abbrev pub dword_holds : ℤ → Bool
dword_holds (pos n) = nat_lt n (2 ^ 31)
dword_holds (negsuc n) = nat_lt n (2 ^ 31)

abbrev pub signed_dword : ℤ → Option ℤ
signed_dword z = if dword_holds z then Some z else None

abbrev pub unsigned_dword : ℤ → Option ℤ
unsigned_dword (pos n) = if nat_lt n (2 ^ 32) then Some (cast_signed w32 n) else None
unsigned_dword (negsuc n) = None

-- the field of an immediate: for 32 bits also 2^31 to 2^32 - 1, as the number with the same bits
abbrev pub immediate_field : Size → ℤ → Option ℤ
immediate_field Qword z = signed_dword z
immediate_field Dword z = option_or (signed_dword z) (unsigned_dword z)

-- a field of so many values, without sign
abbrev pub unsigned_field : ℕ → ℤ → Option ℕ
unsigned_field count (pos n) = if nat_lt n count then Some n else None
unsigned_field count (negsuc n) = None

-- -2^7 to 2^8 - 1, modulo 2^8
abbrev pub byte_field : ℤ → Option ℕ
byte_field (pos n) = if nat_lt n 256 then Some n else None
byte_field (negsuc n) = if nat_lt n 128 then Some (cast_unsigned w8 (negsuc n)) else None

-- -2^63 to 2^64 - 1, modulo 2^64
abbrev pub quad_field : ℤ → Option ℕ
quad_field (pos n) = if nat_lt n (2 ^ 64) then Some n else None
quad_field (negsuc n) = if nat_lt n (2 ^ 63) then Some (cast_unsigned w64 (negsuc n)) else None
