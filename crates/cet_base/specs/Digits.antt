-- Numbers as text. Source: own; a decimal number is what Rust's `{}` writes (`decimal` of std).
use Rattle.std.specs.Prelude.{ℕ, zero, suc, ◌/◌, ◌%◌, ◌^◌, false, List, [], ◌∷◌}
use Rattle.std.specs.Fmt.{digit_glyph}

-- the lower-case hexadecimal digit of n that is worth 16 ^ place
abbrev pub hex_digit_at : ℕ → ℕ → ℕ
hex_digit_at n place = digit_glyph false (n / 16 ^ place % 16)

-- the count lowest hexadecimal digits of n, the highest first
abbrev pub hex_digits : ℕ → ℕ → List ℕ
hex_digits zero n = []
hex_digits (suc count) n = hex_digit_at n count ∷ hex_digits count n

-- the two digits of a byte
abbrev pub hex2 : ℕ → List ℕ
hex2 byte = hex_digits 2 byte

unfoldable pub hex16 : ℕ → List ℕ
hex16 n = hex_digits 16 n
