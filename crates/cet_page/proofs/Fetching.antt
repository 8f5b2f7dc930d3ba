-- One more byte that can be fetched, or none; the address behind an instruction.
use Rattle.std.proofs.Common.{◌≡◌, ℕ, suc, ◌+◌, ◌-◌, ◌%◌, ◌^◌, ◌<◌, ◌≤◌, arith, refl, ap, sym, ◌∙◌, List, [], ◌∷◌, ◌++◌, Some, None, take, length, set, length-set, append_assoc, append-nil}
use Rattle.std.proofs.lemmas.List.{take_more_set}
use Rattle.cet_words.specs.declared.images.Segment.{Segment}
use Rattle.cet_words.specs.Bytes.{code_byte}
use Rattle.cet_isa.specs.Reading.{Decoding, Read, Short, Unknown, read_length}
use Rattle.cet_isa.specs.declared.threads.Arch.{Arch}
use Rattle.cet_page.specs.Fetch.{fetchable}
use Rattle.cet_page.specs.Row.{address_after}

next_byte : (segments : List Segment) (addr left most next b : ℕ) → left ≡ suc most → next ≡ addr + 1 → code_byte segments addr ≡ Some b → fetchable segments addr left ≡ b ∷ fetchable segments next most
unfolding fetchable
next_byte segments addr left most next b e f h = rw (e, f, h) refl

no_byte : (segments : List Segment) (addr left most : ℕ) → left ≡ suc most → code_byte segments addr ≡ None → fetchable segments addr left ≡ []
unfolding fetchable
no_byte segments addr left most e h = rw (e, h) refl

no_room : (segments : List Segment) (addr left : ℕ) → left ≡ 0 → fetchable segments addr left ≡ []
unfolding fetchable
no_room segments addr left e = rw e refl

-- the byte at `at` goes to its place
pub fetch_more : (segments : List Segment) (addr at b : ℕ) (buffer : List ℕ) → at < length buffer → code_byte segments (addr + at) ≡ Some b →
    take at buffer ++ fetchable segments (addr + at) (length buffer - at) ≡ fetchable segments addr (length buffer) →
    take (at + 1) (set buffer at b) ++ fetchable segments (addr + (at + 1)) (length (set buffer at b) - (at + 1)) ≡ fetchable segments addr (length (set buffer at b))
fetch_more segments addr at b buffer l h e =
    let more = next_byte segments (addr + at) (length buffer - at) (length buffer - (at + 1)) (addr + (at + 1)) b (omega arith) (omega arith) h in
    let all : take at buffer ++ (b ∷ fetchable segments (addr + (at + 1)) (length buffer - (at + 1))) ≡ fetchable segments addr (length buffer) = ap (λ rest. take at buffer ++ rest) (sym more) ∙ e in
    rw (length-set buffer at b, take_more_set buffer at b l, append_assoc) all

pub fetch_none : (segments : List Segment) (addr at : ℕ) (buffer : List ℕ) → at < length buffer → code_byte segments (addr + at) ≡ None →
    take at buffer ++ fetchable segments (addr + at) (length buffer - at) ≡ fetchable segments addr (length buffer) → take at buffer ≡ fetchable segments addr (length buffer)
fetch_none segments addr at buffer l h e =
    let none = no_byte segments (addr + at) (length buffer - at) (length buffer - at - 1) (omega arith) h in
    sym (append-nil (take at buffer)) ∙ ap (λ rest. take at buffer ++ rest) (sym none) ∙ e

pub fetch_full : (segments : List Segment) (addr at : ℕ) (buffer : List ℕ) → length buffer ≤ at → at ≤ length buffer →
    take at buffer ++ fetchable segments (addr + at) (length buffer - at) ≡ fetchable segments addr (length buffer) → take (length buffer) buffer ≡ fetchable segments addr (length buffer)
fetch_full segments addr at buffer l m e =
    let none = no_room segments (addr + at) (length buffer - at) (omega arith) in
    let same : length buffer ≡ at = omega arith in
    ap (λ n. take n buffer) same ∙ sym (append-nil (take at buffer)) ∙ ap (λ rest. take at buffer ++ rest) (sym none) ∙ e

-- the address after an instruction, by its length
pub address_is : (arch : Arch) (d : Decoding) → arch.rip < 2 ^ 64 → (arch.rip + read_length d) % 2 ^ 64 ≡ address_after arch d
address_is arch (Read i len) fits = refl
address_is arch Short fits = omega arith
address_is arch Unknown fits = omega arith
