-- Fields of bytes that are put together.
use Rattle.std.proofs.Common.{◌≡◌, ℕ, ◌+◌, ◌-◌, ◌<◌, ◌≤◌, ◌^◌, List, ◌++◌, length, take, drop, Some, unwrap_or, refl, ap, sym, ◌∙◌, arith, length-append, le-leb}
use Rattle.std.specs.Prelude.{slice_range}
use Rattle.std.specs.Int.{Width, w16, w32, w64, byte_len, from_le_bytes, to_le_bytes}
use Rattle.std.proofs.Math.Seq.{drop-append-add}
use Rattle.std.proofs.lemmas.Nat.{from_le_bytes-to_le_bytes_2, from_le_bytes-to_le_bytes_4, from_le_bytes-to_le_bytes_8}
use Rattle.cet_base.specs.Fields.{field_at}
use Rattle.cet_elf.specs.Headers.{half, word, xword, header_at}
use Rattle.cet_elf.specs.Written.{program_header}

-- a field that is wholly inside
pub field_here : (w : Width) (bytes field : List ℕ) (at : ℕ) → at + byte_len w ≤ length bytes → slice_range bytes at (at + byte_len w) ≡ field → field_at w bytes at ≡ Some (from_le_bytes w field)
field_here w bytes field at inside is =
    rw (le-leb (at + byte_len w) (length bytes) inside) (ap (λ f. Some (from_le_bytes w f)) is)

pub half_here : (bytes : List ℕ) (at n : ℕ) → n < 2 ^ 16 → at + 2 ≤ length bytes → slice_range bytes at (at + 2) ≡ to_le_bytes w16 n → half bytes at ≡ n
unfolding half
half_here bytes at n small inside is =
    ap (λ o. unwrap_or o 0) (field_here w16 bytes (to_le_bytes w16 n) at inside is) ∙ from_le_bytes-to_le_bytes_2 n small

pub word_here : (bytes : List ℕ) (at n : ℕ) → n < 2 ^ 32 → at + 4 ≤ length bytes → slice_range bytes at (at + 4) ≡ to_le_bytes w32 n → word bytes at ≡ n
unfolding word
word_here bytes at n small inside is =
    ap (λ o. unwrap_or o 0) (field_here w32 bytes (to_le_bytes w32 n) at inside is) ∙ from_le_bytes-to_le_bytes_4 n small

pub xword_here : (bytes : List ℕ) (at n : ℕ) → n < 2 ^ 64 → at + 8 ≤ length bytes → slice_range bytes at (at + 8) ≡ to_le_bytes w64 n → xword bytes at ≡ n
unfolding xword
xword_here bytes at n small inside is =
    ap (λ o. unwrap_or o 0) (field_here w64 bytes (to_le_bytes w64 n) at inside is) ∙ from_le_bytes-to_le_bytes_8 n small

-- a part of what stands behind other bytes
pub behind : (front back : List ℕ) (at k n : ℕ) → length front + k ≡ at → slice_range (front ++ back) at (at + n) ≡ slice_range back k (k + n)
behind front back at k n is =
    let size : at + n - at ≡ n = omega arith in
    let same : k + n - k ≡ n = omega arith in
    let rest : drop at (front ++ back) ≡ drop k back
    = ap (λ i. drop i (front ++ back)) (sym is) ∙ drop-append-add front back k in
    ap (λ m. take m (drop at (front ++ back))) size ∙ ap (λ l. take n l) rest ∙ ap (λ m. take m (drop k back)) (sym same)

pub word_behind : (front back : List ℕ) (at k n : ℕ) → length front + k ≡ at → n < 2 ^ 32 → k + 4 ≤ length back → slice_range back k (k + 4) ≡ to_le_bytes w32 n → word (front ++ back) at ≡ n
word_behind front back at k n place small inside is =
    word_here (front ++ back) at n small (omega (arith, length-append front back)) (behind front back at k 4 place ∙ is)

pub xword_behind : (front back : List ℕ) (at k n : ℕ) → length front + k ≡ at → n < 2 ^ 64 → k + 8 ≤ length back → slice_range back k (k + 8) ≡ to_le_bytes w64 n → xword (front ++ back) at ≡ n
xword_behind front back at k n place small inside is =
    xword_here (front ++ back) at n small (omega (arith, length-append front back)) (behind front back at k 8 place ∙ is)

pub header_size : (kind flags offset address size align : ℕ) → length (program_header kind flags offset address size align) ≡ 56
unfolding program_header
header_size kind flags offset address size align = refl

-- a program header reads as it was put
pub header_behind : (front back : List ℕ) (at kind flags offset address size align : ℕ) → length front ≡ at → kind < 2 ^ 32 → flags < 2 ^ 32 → offset < 2 ^ 64 → address < 2 ^ 64 → size < 2 ^ 64 →
    header_at (front ++ (program_header kind flags offset address size align ++ back)) at ≡ record {
      place = at;
      kind = kind;
      flags = flags;
      offset = offset;
      address = address;
      file_size = size;
      memory_size = size;
    }
unfolding header_at program_header
header_behind front back at kind flags offset address size align place a b c d e =
    let header = program_header kind flags offset address size align in
    let rest = header ++ back in
    let long : 56 ≤ length rest = omega (arith, length-append header back, header_size kind flags offset address size align) in
    let one = word_behind front rest at 0 kind (omega arith) a (omega arith) refl in
    let two = word_behind front rest (at + 4) 4 flags (omega arith) b (omega arith) refl in
    let three = xword_behind front rest (at + 8) 8 offset (omega arith) c (omega arith) refl in
    let four = xword_behind front rest (at + 16) 16 address (omega arith) d (omega arith) refl in
    let five = xword_behind front rest (at + 32) 32 size (omega arith) e (omega arith) refl in
    let six = xword_behind front rest (at + 40) 40 size (omega arith) e (omega arith) refl in
    rw (one, two, three, four, five, six) refl
