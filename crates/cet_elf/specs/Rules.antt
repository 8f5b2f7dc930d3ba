-- The rules of a file that is loaded, and where a file breaks each of them. Source: System V ABI, ELF-64 object files;
-- the choice of the rules, their order and the places are own.
use Rattle.std.specs.Prelude.{ℕ, ◌+◌, ◌-◌, ◌*◌, ◌/◌, ◌%◌, Bool, not, ◌==◌, ◌&&◌, nat_lt, nat_le, if◌then◌else◌, List, [], ◌∷◌}
use Rattle.std.specs.Prelude.{◌++◌, length, find, slice_index, slice_index_or, Option, Some, None, option_map}
use Rattle.std.specs.List.{list_any}
use Rattle.std.specs.Option.{option_or}
use Rattle.cet_words.specs.Layout.{image_end, image_start}
use Rattle.cet_elf.specs.Headers.{half, word, xword, headers, is_load, is_writable, is_executable}
use Rattle.cet_elf.specs.Notes.{has_stacks, features}
use Rattle.cet_elf.specs.declared.headers.ProgramHeader.{ProgramHeader}

-- a breach at this place, where what should hold doesn't
abbrev pub unless : Bool → ℕ → Option ℕ
unless holds at = if holds then None else Some at

abbrev pub wrong_byte : List ℕ → ℕ → ℕ → Option ℕ
wrong_byte bytes at wanted = unless (slice_index bytes at == wanted) at

-- a file begins with 7f 45 4c 46, and has the 64 bytes of a file header
unfoldable pub magic_breach : List ℕ → Option ℕ
magic_breach bytes =
    option_or (wrong_byte bytes 0 0x7f) (option_or (wrong_byte bytes 1 0x45) (option_or (wrong_byte bytes 2 0x4c)
    (option_or (wrong_byte bytes 3 0x46) (unless (nat_le 64 (length bytes)) (length bytes)))))

-- 64 bits, little-endian, version 1 of the header
unfoldable pub class_breach : List ℕ → Option ℕ
class_breach bytes = option_or (wrong_byte bytes 4 2) (option_or (wrong_byte bytes 5 1) (wrong_byte bytes 6 1))

-- program headers have 56 bytes, there are 1 to 64 of them, and their table lies in the file
unfoldable pub table_breach : List ℕ → Option ℕ
table_breach bytes =
    option_or (unless (half bytes 54 == 56) 54)
    (option_or (unless (nat_le 1 (half bytes 56) && nat_le (half bytes 56) 64) 56)
    (unless (nat_le (xword bytes 32 + 56 * half bytes 56) (length bytes)) 32))

-- of the file header: the magic, the class, the type ET_EXEC, the machine EM_X86_64, the version, the table
abbrev pub file_breaches : List ℕ → List (Option ℕ)
file_breaches bytes =
    magic_breach bytes ∷ class_breach bytes ∷ unless (half bytes 16 == 2) 16 ∷ unless (half bytes 18 == 62) 18
    ∷ unless (word bytes 20 == 1) 20 ∷ table_breach bytes ∷ []

-- the place of the first of these headers that fails the test
abbrev pub header_breach : (ProgramHeader → Bool) → List ProgramHeader → Option ℕ
header_breach holds hs = option_map (λ h. h.place) (find (λ h. not (holds h)) hs)

-- PT_INTERP
abbrev pub is_interpreter : ProgramHeader → Bool
is_interpreter h = h.kind == 3

-- the same of PT_LOAD alone
abbrev pub load_breach : (ProgramHeader → Bool) → List ProgramHeader → Option ℕ
load_breach holds hs = option_map (λ h. h.place) (find (λ h. is_load h && not (holds h)) hs)

-- the file has the bytes that the header tells, and they are no more than the segment's size
abbrev pub is_filled : ℕ → ProgramHeader → Bool
is_filled size h = nat_le (h.offset + h.file_size) size && nat_le h.file_size h.memory_size

-- the segment lies in the image range
abbrev pub is_placed : ProgramHeader → Bool
is_placed h = nat_le image_start h.address && nat_le (h.address + h.memory_size) image_end

-- offset and address have one place in their pages
abbrev pub is_aligned : ProgramHeader → Bool
is_aligned h = h.offset % 4096 == h.address % 4096

-- not both writable and executable
abbrev pub is_guarded : ProgramHeader → Bool
is_guarded h = not (is_writable h && is_executable h)

-- no byte of the first segment lies in a page of the second or behind it
abbrev pub ends_before : ProgramHeader → ProgramHeader → Bool
ends_before g h = nat_lt ((g.address + g.memory_size - 1) / 4096) (h.address / 4096)

-- one page has bytes of both segments
abbrev pub shares_page : ProgramHeader → ProgramHeader → Bool
shares_page g h = nat_lt 0 g.memory_size && nat_lt 0 h.memory_size && not (ends_before g h) && not (ends_before h g)

-- g is an earlier segment of the table that has a byte in a page of h
abbrev pub precedes : ProgramHeader → ProgramHeader → Bool
precedes h g = is_load g && nat_lt g.place h.place && shares_page g h

-- no earlier segment of the table has a byte in its pages
abbrev pub is_apart : List ProgramHeader → ProgramHeader → Bool
is_apart hs h = not (list_any (precedes h) hs)

-- the address is in the segment, which is executable
abbrev pub has_entry : ℕ → ProgramHeader → Bool
has_entry addr h = is_load h && is_executable h && nat_le h.address addr && nat_lt addr (h.address + h.memory_size)

-- Of the program headers, with these feature bits: no PT_INTERP, each PT_LOAD with its bytes in the file, in the image
-- range, aligned, guarded and apart, the entry (e_entry) in code, marked SHSTK.
unfoldable pub header_breaches : List ℕ → ℕ → List ProgramHeader → List (Option ℕ)
header_breaches bytes marks hs =
    header_breach (λ h. not (is_interpreter h)) hs ∷ load_breach (is_filled (length bytes)) hs ∷ load_breach is_placed hs
    ∷ load_breach is_aligned hs ∷ load_breach is_guarded hs ∷ load_breach (is_apart hs) hs
    ∷ unless (list_any (has_entry (xword bytes 24)) hs) 24 ∷ unless (has_stacks marks) 0 ∷ []

abbrev pub later_breaches : List ℕ → List (Option ℕ)
later_breaches bytes = header_breaches bytes (features bytes) (headers bytes)

-- where a file breaks each of the fourteen rules
abbrev pub breaches : List ℕ → List (Option ℕ)
breaches bytes = file_breaches bytes ++ later_breaches bytes

-- where a file breaks a rule, by its number from 1 on, or None where the rule holds
unfoldable pub breach : ℕ → List ℕ → Option ℕ
breach rule bytes = slice_index_or (breaches bytes) (rule - 1) None
