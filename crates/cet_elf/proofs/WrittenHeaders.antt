-- The headers and the note of a written file, as they are read.
use Rattle.std.proofs.Common.{◌≡◌, ℕ, ◌+◌, ◌<◌, ◌≤◌, ◌^◌, true, leb, List, [], ◌∷◌, ◌++◌, length, take, drop, Some, None, refl, ap, sym, ◌∙◌, arith, length-append, lit<}
use Rattle.std.specs.Int.{w32, to_le_bytes}
use Rattle.std.proofs.Math.Seq.{drop-append-add}
use Rattle.std.proofs.lemmas.Bool.{le-leb}
use Rattle.std.proofs.lemmas.Nat.{from_le_bytes-to_le_bytes_4}
use Rattle.cet_words.specs.Layout.{page_up}
use Rattle.cet_asm.specs.Layout.{text_start}
use Rattle.cet_elf.specs.Headers.{half, word, xword, header_at, headers_from, headers}
use Rattle.cet_elf.specs.Notes.{feature, is_note, description, note_feature}
use Rattle.cet_elf.specs.Rules.{magic_breach, class_breach}
use Rattle.cet_elf.specs.Written.{file_header, text_header, data_header, note_header, property_note}
use Rattle.cet_elf.specs.declared.headers.ProgramHeader.{ProgramHeader}
use Rattle.cet_elf.proofs.FieldLemmas.{field_here, half_here, word_here, xword_here, word_behind, header_behind}
use Rattle.cet_elf.proofs.NoteLemmas.{found_here}

-- the header of the text, that of the data and that of the note, as they are read
abbrev pub text_read : ℕ → ProgramHeader
text_read size = record { place = 64; kind = 1; flags = 5; offset = 4096; address = text_start; file_size = size; memory_size = size }

abbrev pub data_read : ℕ → ℕ → ProgramHeader
data_read behind size = record { place = 120; kind = 1; flags = 6; offset = 4096 + behind; address = text_start + behind; file_size = size; memory_size = size }

abbrev pub note_read : ℕ → ProgramHeader
note_read place = record { place = place; kind = 0x6474e553; flags = 4; offset = 232; address = 0; file_size = 32; memory_size = 32 }

pub file_size : (entry count : ℕ) → length (file_header entry count) ≡ 64
unfolding file_header
file_size entry count = refl

-- what the file header says, whatever stands behind it
pub record Heads (entry count : ℕ) (bytes : List ℕ) : Type 0 where
  pub long : 64 ≤ length bytes
  pub magic : magic_breach bytes ≡ None
  pub class : class_breach bytes ≡ None
  pub kind : half bytes 16 ≡ 2
  pub machine : half bytes 18 ≡ 62
  pub version : word bytes 20 ≡ 1
  pub entered : xword bytes 24 ≡ entry
  pub table : xword bytes 32 ≡ 64
  pub entry_size : half bytes 54 ≡ 56
  pub number : half bytes 56 ≡ count

magic : (entry count : ℕ) (back : List ℕ) → leb 64 (length (file_header entry count ++ back)) ≡ true → magic_breach (file_header entry count ++ back) ≡ None
unfolding magic_breach file_header
magic entry count back long = rw long refl

class : (entry count : ℕ) (back : List ℕ) → class_breach (file_header entry count ++ back) ≡ None
unfolding class_breach file_header
class entry count back = refl

pub heads : (entry count : ℕ) (back : List ℕ) → entry < 2 ^ 64 → count < 2 ^ 16 → Heads entry count (file_header entry count ++ back)
unfolding file_header
heads entry count back a b =
    let bytes = file_header entry count ++ back in
    let size : 64 ≤ length bytes = omega (arith, length-append (file_header entry count) back, file_size entry count) in
    record {
      long = size;
      magic = magic entry count back (le-leb 64 (length bytes) size);
      class = class entry count back;
      kind = half_here bytes 16 2 (lit< tt) (omega arith) refl;
      machine = half_here bytes 18 62 (lit< tt) (omega arith) refl;
      version = word_here bytes 20 1 (lit< tt) (omega arith) refl;
      entered = xword_here bytes 24 entry a (omega arith) refl;
      table = xword_here bytes 32 64 (lit< tt) (omega arith) refl;
      entry_size = half_here bytes 54 56 (lit< tt) (omega arith) refl;
      number = half_here bytes 56 count b (omega arith) refl;
    }

pub text_behind : (front back : List ℕ) (size : ℕ) → length front ≡ 64 → size < 2 ^ 64 → header_at (front ++ (text_header size ++ back)) 64 ≡ text_read size
unfolding text_header
text_behind front back size place small = header_behind front back 64 1 5 4096 text_start size 4096 place (lit< tt) (lit< tt) (lit< tt) (lit< tt) small

pub data_behind : (front back : List ℕ) (text size : ℕ) → length front ≡ 120 → page_up text < 2 ^ 63 → size < 2 ^ 64 → header_at (front ++ (data_header text size ++ back)) 120 ≡ data_read (page_up text) size
unfolding data_header
data_behind front back text size place room small =
    header_behind front back 120 1 6 (4096 + page_up text) (text_start + page_up text) size 4096 place (lit< tt) (lit< tt) (omega arith) (omega arith) small

pub note_behind : (front back : List ℕ) (at : ℕ) → length front ≡ at → header_at (front ++ (note_header ++ back)) at ≡ note_read at
unfolding note_header
note_behind front back at place = header_behind front back at 0x6474e553 4 232 0 32 8 place (lit< tt) (lit< tt) (lit< tt) (lit< tt) (lit< tt)

pub two_headers : (bytes : List ℕ) (g h : ProgramHeader) → xword bytes 32 ≡ 64 → half bytes 56 ≡ 2 → header_at bytes 64 ≡ g → header_at bytes 120 ≡ h → headers bytes ≡ g ∷ h ∷ []
unfolding headers headers_from
two_headers bytes g h table number one two = rw (table, number, one, two) refl

pub three_headers : (bytes : List ℕ) (g h i : ProgramHeader) → xword bytes 32 ≡ 64 → half bytes 56 ≡ 3 → header_at bytes 64 ≡ g → header_at bytes 120 ≡ h → header_at bytes 176 ≡ i →
    headers bytes ≡ g ∷ h ∷ i ∷ []
unfolding headers headers_from
three_headers bytes g h i table number one two three = rw (table, number, one, two, three) refl

-- the description of the note
abbrev properties : ℕ → List ℕ
properties mark = to_le_bytes w32 0xc0000002 ++ to_le_bytes w32 4 ++ to_le_bytes w32 mark ++ to_le_bytes w32 0

feature_read : (mark : ℕ) → mark < 2 ^ 32 → feature (properties mark) ≡ Some mark
unfolding word
feature_read mark small =
    found_here 16 (properties mark) (lit< tt) refl ∙ field_here w32 (properties mark) (to_le_bytes w32 mark) 8 (omega arith) refl
    ∙ ap (λ n. Some n) (from_le_bytes-to_le_bytes_4 mark small)

pub note_size : (mark : ℕ) → length (property_note mark) ≡ 32
unfolding property_note
note_size mark = refl

is_note_read : (bytes : List ℕ) (place : ℕ) → leb 264 (length bytes) ≡ true → word bytes 232 ≡ 4 → word bytes 240 ≡ 5 → word bytes 244 ≡ 0x00554e47 → is_note bytes (note_read place) ≡ true
is_note_read bytes place long a b c = rw (long, a, b, c) refl

pub note_feature_read : (front back : List ℕ) (place mark : ℕ) → length front ≡ 232 → mark < 2 ^ 32 → note_feature (front ++ (property_note mark ++ back)) (note_read place) ≡ Some mark
unfolding note_feature property_note
note_feature_read front back place mark at small =
    let rest = property_note mark ++ back in
    let bytes = front ++ rest in
    let room : 32 ≤ length rest = omega (arith, length-append (property_note mark) back, note_size mark) in
    let long : 264 ≤ length bytes = omega (arith, length-append front rest) in
    let owner = word_behind front rest 232 0 4 (omega arith) (lit< tt) (omega arith) refl in
    let size = word_behind front rest 236 4 16 (omega arith) (lit< tt) (omega arith) refl in
    let kind = word_behind front rest 240 8 5 (omega arith) (lit< tt) (omega arith) refl in
    let name = word_behind front rest 244 12 0x00554e47 (omega arith) (lit< tt) (omega arith) refl in
    let is = is_note_read bytes place (le-leb 264 (length bytes) long) owner kind name in
    let place_is : length front + 16 ≡ 248 = omega arith in
    let behind : drop 248 bytes ≡ drop 16 rest = ap (λ i. drop i bytes) (sym place_is) ∙ drop-append-add front rest 16 in
    let described : description bytes (note_read place) ≡ properties mark
    = ap (λ n. take n (drop 248 bytes)) size ∙ ap (λ l. take 16 l) behind in
    rw is (ap feature described ∙ feature_read mark small)
