-- Lines of code, a piece after another, and of segments.
use Rattle.std.proofs.Common.{ℕ, ◌+◌, ◌-◌, ◌<◌, ◌≤◌, ◌≡◌, List, [], ◌∷◌, ◌++◌, length, drop, refl, sym, ◌∙◌, ap, subst, arith, inl, inr, ◌⊎◌}
use Rattle.std.specs.Prelude.{slice_index}
use Rattle.std.proofs.lemmas.List.{append_assoc, append-nil, drop-drop, length-append, length-drop, nil_from_length}
use Rattle.cet_words.specs.declared.images.Segment.{Segment}
use Rattle.cet_isa.specs.declared.instructions.Instr.{Instr}
use Rattle.cet_isa.specs.Reading.{IsAnswer, Read, Short, Unknown}
use Rattle.cet_isa.specs.Spells.{Begins}
use Rattle.cet_decode.specs.Decoded.{decoding}
use Rattle.cet_decode.specs.declared.decoder.Decoded.{Decoded}
use Rattle.cet_decode.specs.declared.decoder.Decoded.TheVariants as answers
use Rattle.cet_top.specs.Listing.{Piece, IsFirst, IsListing, Lists, ListsIf, piece_bytes, piece_line, piece_lines}

-- lines that complete those of all code, where what is said is that of the code before a place
abbrev pub SaidAt : (addr at : ℕ) (code said : List ℕ) → Type 0
SaidAt addr at code said = (rest : List ℕ) → Lists (addr + at) (drop at code) rest → Lists addr code (said ++ rest)

pub none_said : (addr : ℕ) (code : List ℕ) → SaidAt addr 0 code []
none_said addr code rest l = subst (λ a. Lists a code rest) (omega arith) l

more_listed : (addr count : ℕ) (p : Piece) (code left rest : List ℕ) → IsFirst p code → count ≡ length (piece_bytes p) → code ≡ piece_bytes p ++ left → Lists (addr + count) left rest →
    Lists addr code (piece_line addr p ++ rest)
more_listed addr count p code left rest stands size whole l = record {
  pieces = p ∷ l.pieces;
  cut = (left, stands, whole, l.cut);
  lines = ap (λ (t : List ℕ). piece_line addr p ++ t) (l.lines ∙ ap (λ n. piece_lines (addr + n) l.pieces) size);
}

-- one piece more is said
pub piece_said : (addr at count : ℕ) (code here said : List ℕ) (p : Piece) → here ≡ drop at code → SaidAt addr at code said → IsFirst p here → count ≡ length (piece_bytes p) →
    here ≡ piece_bytes p ++ drop count here → SaidAt addr (at + count) code (said ++ piece_line (addr + at) p)
piece_said addr at count code here said p is so_far stands size whole rest l =
    let left : drop count here ≡ drop (at + count) code = ap (drop count) is ∙ drop-drop count at code in
    let place : addr + (at + count) ≡ addr + at + count = omega arith in
    let after : Lists (addr + at + count) (drop count here) rest = subst (λ a. Lists a (drop count here) rest) place (subst (λ c. Lists (addr + (at + count)) c rest) (sym left) l) in
    let more : Lists (addr + at) here (piece_line (addr + at) p ++ rest) = more_listed (addr + at) count p here (drop count here) rest stands size whole after in
    subst (Lists addr code) (sym (append_assoc said (piece_line (addr + at) p) rest))
    (so_far (piece_line (addr + at) p ++ rest) (subst (λ c. Lists (addr + at) c (piece_line (addr + at) p ++ rest)) is more))

pub piece_within : (at count : ℕ) (code here : List ℕ) (p : Piece) → at ≤ length code → here ≡ drop at code → count ≡ length (piece_bytes p) → here ≡ piece_bytes p ++ drop count here → at + count ≤ length code
piece_within at count code here p within is size whole =
    let all : length here ≡ length (piece_bytes p) + length (drop count here) = ap length whole ∙ length-append (piece_bytes p) (drop count here) in
    let left : length here ≡ length code - at = ap length is ∙ length-drop at code in
    omega arith

-- at the end all is said
pub all_said : (addr at : ℕ) (code said : List ℕ) → length code ≤ at → SaidAt addr at code said → Lists addr code said
all_said addr at code said past so_far =
    let none : drop at code ≡ [] = nil_from_length (drop at code) (omega (arith, length-drop at code)) in
    subst (Lists addr code) (append-nil said) (so_far [] (record { pieces = []; cut = none; lines = refl }))

-- the lines of one segment more
pub listing_more : (ss : List Segment) (s : Segment) (text more : List ℕ) → IsListing ss text → ListsIf s.exec s more → IsListing (ss ++ s ∷ []) (text ++ more)
listing_more [] s text more l m = (more, [], m, refl, ap (λ (t : List ℕ). t ++ more) l ∙ sym (append-nil more))
listing_more (x ∷ ss) s text more (first, rest, here, others, whole) m =
    (first, rest ++ more, here, listing_more ss s rest more others m, ap (λ (t : List ℕ). t ++ more) whole ∙ append_assoc first rest more)

-- what the first byte is
pub first_byte : (code : List ℕ) → 0 < length code → code ≡ slice_index code 0 ∷ drop 1 code
first_byte [] some = absurd (omega arith)
first_byte (x ∷ xs) some = refl

-- no instruction begins where the decoder answers none
pub none_begins : (d : Decoded) (code : List ℕ) → IsAnswer code (decoding d) → (d ≡ answers.Short) ⊎ (d ≡ answers.Unknown) → (instr : Instr) (len : ℕ) → ¬ Begins code instr len
none_begins d code says (inl e) instr len begins =
    let read : decoding d ≡ Read instr len = (says.read instr len).1 begins in
    let short : decoding d ≡ Short = ap decoding e in
    cc
none_begins d code says (inr e) instr len begins =
    let read : decoding d ≡ Read instr len = (says.read instr len).1 begins in
    let unknown : decoding d ≡ Unknown = ap decoding e in
    cc
