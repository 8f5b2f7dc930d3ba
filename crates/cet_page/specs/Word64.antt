-- Arithmetic of 64-bit words. Source: Intel SDM volume 1, the chapter on basic data types: sums and differences are modulo 2^64.
use Rattle.std.specs.Prelude.{ℕ, ◌+◌, ◌-◌, ◌%◌, ◌^◌}

abbrev pub add64 : ℕ → ℕ → ℕ
add64 addr bytes = (addr + bytes) % 2 ^ 64

abbrev pub sub64 : ℕ → ℕ → ℕ
sub64 addr bytes = (addr + (2 ^ 64 - bytes)) % 2 ^ 64
