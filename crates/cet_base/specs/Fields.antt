-- Little-endian fields of 2, 4 and 8 bytes. Source: own, after `from_le_bytes` of Rust.
use Rattle.std.specs.Prelude.{ℕ, ◌+◌, nat_le, if◌then◌else◌, List, length, Option, Some, None, slice_range}
use Rattle.std.specs.Int.{Width, byte_len, from_le_bytes}

-- the field of this width that starts at a place, where it is wholly inside
abbrev pub field_at : Width → List ℕ → ℕ → Option ℕ
field_at width bytes at =
    if nat_le (at + byte_len width) (length bytes)
    then Some (from_le_bytes width (slice_range bytes at (at + byte_len width))) else None
