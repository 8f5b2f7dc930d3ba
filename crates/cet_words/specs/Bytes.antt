-- The bytes of an image by their addresses. Source: System V ABI for x86-64, program loading (bytes past the file's are
-- 0, whole pages take the segment's rights).
use Rattle.std.specs.Prelude.{ℕ, ◌-◌, ◌/◌, nat_le, List, slice_index, if◌then◌else◌, Option, Some, None, find}
use Rattle.cet_words.specs.declared.images.Segment.{Segment}
use Rattle.cet_words.specs.Job.{covers}

-- the byte at an address of one of the segment's pages: 0 outside the file bytes
abbrev pub segment_byte : Segment → ℕ → ℕ
segment_byte s addr = if nat_le s.start addr then slice_index s.bytes (addr - s.start) else 0

-- the byte, where the segment that covers the page is executable
abbrev pub executable_byte : Option Segment → ℕ → Option ℕ
executable_byte None addr = None
executable_byte (Some s) addr = if s.exec then Some (segment_byte s addr) else None

-- the byte of code at an address, or None where no executable segment covers its page
unfoldable pub code_byte : List Segment → ℕ → Option ℕ
code_byte segments addr = executable_byte (find (covers (addr / 4096)) segments) addr
