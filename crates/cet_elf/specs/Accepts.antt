-- Which files are loaded, the image of such a file, and what is answered for every file. Source: System V ABI for x86-64,
-- program loading; the rules are own.
use Rattle.std.specs.Prelude.{ℕ, ◌≡◌, ◌+◌, ◌≤◌, ◌<◌, List, map, filter, slice_range, Some, None, Result, Ok, Err}
use Rattle.cet_words.specs.Job.{ImageData}
use Rattle.cet_words.specs.declared.images.Segment.{Segment}
use Rattle.cet_elf.specs.Headers.{xword, headers, is_load, is_writable, is_executable}
use Rattle.cet_elf.specs.Notes.{has_stacks, has_tracking, features}
use Rattle.cet_elf.specs.Rules.{breach}
use Rattle.cet_elf.specs.declared.headers.ProgramHeader.{ProgramHeader}
use Rattle.cet_elf.specs.declared.loads.LoadFault.{LoadFault}
use Rattle.cet_elf.specs.declared.loads.LoadFault.TheVariants.{Refused, NoMemory}

-- all fourteen rules hold
abbrev pub Accepts : List ℕ → Type 0
Accepts bytes = (rule : ℕ) → 1 ≤ rule → rule ≤ 14 → breach rule bytes ≡ None

-- the file breaks this rule at this place, and none before it
pub record FirstBroken (bytes : List ℕ) (rule offset : ℕ) : Type 0 where
  pub low : 1 ≤ rule
  pub high : rule ≤ 14
  pub here : breach rule bytes ≡ Some offset
  pub before : (k : ℕ) → 1 ≤ k → k < rule → breach k bytes ≡ None

-- the segment of a PT_LOAD: its address, its bytes of the file, its size in memory, its rights
abbrev pub segment_of : List ℕ → ProgramHeader → Segment
segment_of bytes h = record {
  start = h.address;
  bytes = slice_range bytes h.offset (h.offset + h.file_size);
  size = h.memory_size;
  write = is_writable h;
  exec = is_executable h;
}

-- the segments of these headers, in their order
abbrev pub segments_of : List ℕ → List ProgramHeader → List Segment
segments_of bytes hs = map (segment_of bytes) (filter is_load hs)

-- the image of a file with these feature bits and program headers: its entry (e_entry), its two marks, and a segment for
-- each PT_LOAD
unfoldable pub image_from : List ℕ → ℕ → List ProgramHeader → ImageData
image_from bytes marks hs = record {
  entry = xword bytes 24;
  marked = has_stacks marks;
  tracked = has_tracking marks;
  segments = segments_of bytes hs;
}

abbrev pub image_of : List ℕ → ImageData
image_of bytes = image_from bytes (features bytes) (headers bytes)

-- the image of an accepted file, and of every other its first broken rule; a want of memory is free
abbrev pub Loads : List ℕ → Result ImageData LoadFault → Type 0
Loads bytes (Ok image) = Accepts bytes × (image ≡ image_of bytes)
Loads bytes (Err (Refused rule offset)) = FirstBroken bytes rule offset
Loads bytes (Err NoMemory) = Unit {0}
