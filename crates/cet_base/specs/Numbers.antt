-- The number that a text writes. Source: own; digits and their values are those of Rust's `to_digit`.
use Rattle.std.specs.Prelude.{ℕ, ◌^◌, ◌&&◌, nat_lt, nat_le, nat_eq, if◌then◌else◌, List, length, drop, Option, Some, None, codes}
use Rattle.std.specs.List.{list_all, starts_with}
use Rattle.std.specs.Char.{is_digit}
use Rattle.std.specs.Str.Parse.{digits_value}

-- a number of 64 bits
abbrev pub fitting : ℕ → Option ℕ
fitting n = if nat_lt n (2 ^ 64) then Some n else None

-- digits of the radix and nothing else
abbrev pub digits_number : ℕ → List ℕ → Option ℕ
digits_number radix ds = if list_all (λ c. is_digit c radix) ds then fitting (digits_value radix ds) else None

-- the same of 1 to `most` digits
abbrev pub numeral : ℕ → ℕ → List ℕ → Option ℕ
numeral radix most ds = if nat_le 1 (length ds) && nat_le (length ds) most then digits_number radix ds else None

-- `0x` and 1 to 16 hexadecimal digits, or 1 to 20 decimal ones
unfoldable pub number_of : List ℕ → Option ℕ
number_of text = if starts_with nat_eq text (codes "0x") then numeral 16 16 (drop 2 text) else numeral 10 20 text
