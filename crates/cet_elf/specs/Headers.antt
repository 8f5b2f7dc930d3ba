-- The headers of an ELF file. Source: System V ABI, ELF-64 object files (Elf64_Ehdr, Elf64_Phdr).
use Rattle.std.specs.Prelude.{ℕ, ◌+◌, ◌*◌, Bool, ◌==◌, List, map, unwrap_or, bit_and}
use Rattle.std.specs.Int.{w16, w32, w64}
use Rattle.std.specs.List.{range_with_len}
use Rattle.cet_base.specs.Fields.{field_at}
use Rattle.cet_elf.specs.declared.headers.ProgramHeader.{ProgramHeader}

-- the field at a place, or 0 where it isn't wholly in the file
unfoldable pub half : List ℕ → ℕ → ℕ
half bytes at = unwrap_or (field_at w16 bytes at) 0

unfoldable pub word : List ℕ → ℕ → ℕ
word bytes at = unwrap_or (field_at w32 bytes at) 0

unfoldable pub xword : List ℕ → ℕ → ℕ
xword bytes at = unwrap_or (field_at w64 bytes at) 0

-- the program header at a place
unfoldable pub header_at : List ℕ → ℕ → ProgramHeader
header_at bytes at = record {
  place = at;
  kind = word bytes at;
  flags = word bytes (at + 4);
  offset = xword bytes (at + 8);
  address = xword bytes (at + 16);
  file_size = xword bytes (at + 32);
  memory_size = xword bytes (at + 40);
}

-- so many program headers of 56 bytes, from a place on
unfoldable pub headers_from : List ℕ → ℕ → ℕ → List ProgramHeader
headers_from bytes table count = map (λ i. header_at bytes (table + 56 * i)) (range_with_len 0 count)

-- the program headers of a file, by e_phoff and e_phnum
unfoldable pub headers : List ℕ → List ProgramHeader
headers bytes = headers_from bytes (xword bytes 32) (half bytes 56)

-- PT_LOAD
abbrev pub is_load : ProgramHeader → Bool
is_load h = h.kind == 1

-- PF_W
abbrev pub is_writable : ProgramHeader → Bool
is_writable h = bit_and h.flags 2 == 2

-- PF_X
abbrev pub is_executable : ProgramHeader → Bool
is_executable h = bit_and h.flags 1 == 1
