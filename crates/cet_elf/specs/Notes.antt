-- How a file is marked for shadow stacks and branch tracking. Source: System V ABI for x86-64, program property note
-- (NT_GNU_PROPERTY_TYPE_0, GNU_PROPERTY_X86_FEATURE_1_AND); that a fault in it is no mark is own.
use Rattle.std.specs.Prelude.{ℕ, zero, suc, ◌+◌, ◌*◌, ◌/◌, Bool, ◌==◌, ◌&&◌, nat_le, if◌then◌else◌, List, length, take, drop, find, Option, None, unwrap_or, bit_and}
use Rattle.std.specs.Int.{w32}
use Rattle.std.specs.Option.{option_and_then}
use Rattle.cet_base.specs.Fields.{field_at}
use Rattle.cet_elf.specs.Headers.{word, headers}
use Rattle.cet_elf.specs.declared.headers.ProgramHeader.{ProgramHeader}

-- the next multiple of 8
abbrev pub padded : ℕ → ℕ
padded size = 8 * ((size + 7) / 8)

-- A list of properties begins with GNU_PROPERTY_X86_FEATURE_1_AND: a type, a size of 4, and the data.
abbrev pub is_feature : List ℕ → Bool
is_feature properties = word properties 0 == 0xc0000002 && word properties 4 == 4

-- The data of the first such property among the first ones of a list, where it is wholly there. The next property begins
-- behind the padded data of the one before.
unfoldable pub feature_among : ℕ → List ℕ → Option ℕ
feature_among zero properties = None
feature_among (suc n) properties =
    if is_feature properties then field_at w32 properties 8
    else feature_among n (drop (8 + padded (word properties 4)) properties)

-- a property has 8 bytes or more, so a list has fewer than it has bytes
abbrev pub feature : List ℕ → Option ℕ
feature properties = feature_among (length properties) properties

-- The file has the bytes that the header tells, and these begin as a note of the owner GNU whose type is 5: the size of
-- the owner's name, the size of the description, the type, the name.
abbrev pub is_note : List ℕ → ProgramHeader → Bool
is_note bytes h =
    nat_le (h.offset + h.file_size) (length bytes) && nat_le 16 h.file_size && word bytes h.offset == 4
    && word bytes (h.offset + 8) == 5 && word bytes (h.offset + 12) == 0x00554e47

-- the description of that note, as far as the file goes
abbrev pub description : List ℕ → ProgramHeader → List ℕ
description bytes h = take (word bytes (h.offset + 4)) (drop (h.offset + 16) bytes)

unfoldable pub note_feature : List ℕ → ProgramHeader → Option ℕ
note_feature bytes h = if is_note bytes h then feature (description bytes h) else None

-- PT_GNU_PROPERTY
abbrev pub is_property : ProgramHeader → Bool
is_property h = h.kind == 0x6474e553

-- the feature bits of the first header of that type among these, or 0
unfoldable pub features_of : List ℕ → List ProgramHeader → ℕ
features_of bytes hs = unwrap_or (option_and_then (note_feature bytes) (find is_property hs)) 0

-- GNU_PROPERTY_X86_FEATURE_1_SHSTK and GNU_PROPERTY_X86_FEATURE_1_IBT
abbrev pub has_stacks : ℕ → Bool
has_stacks features = bit_and features 2 == 2

abbrev pub has_tracking : ℕ → Bool
has_tracking features = bit_and features 1 == 1

-- the feature bits of a file
abbrev pub features : List ℕ → ℕ
features bytes = features_of bytes (headers bytes)
