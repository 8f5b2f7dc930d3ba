-- Canonical addresses. Source: Intel SDM volume 1, canonical addressing in 64-bit mode.
use Rattle.std.specs.Prelude.{ℕ, ◌-◌, ◌/◌, ◌^◌, Bool, ◌||◌, ◌==◌}

-- bits 63 to 47 are all clear or all set
abbrev pub canonical : ℕ → Bool
canonical addr = (addr / 2 ^ 47 == 0) || (addr / 2 ^ 47 == 2 ^ 17 - 1)
