-- The image of a written file is that of its program.
use Rattle.std.proofs.Common.{◌≡◌, ℕ, ◌+◌, ◌-◌, true, false, eqb, List, [], ◌∷◌, ◌++◌, length, take, refl, ap, sym, ◌∙◌, arith, length-append, append_assoc}
use Rattle.std.specs.Prelude.{slice_range}
use Rattle.std.proofs.Math.Seq.{take-append_seam}
use Rattle.std.proofs.lemmas.List.{append-nil}
use Rattle.cet_words.specs.Layout.{page_up}
use Rattle.cet_words.specs.declared.images.Segment.{Segment}
use Rattle.cet_asm.specs.Layout.{text_start}
use Rattle.cet_elf.specs.Headers.{headers, xword}
use Rattle.cet_elf.specs.Notes.{has_stacks, has_tracking, features}
use Rattle.cet_elf.specs.Accepts.{segments_of, image_from, image_of}
use Rattle.cet_elf.specs.Written.{text_segment, program_image}
use Rattle.cet_elf.specs.declared.headers.ProgramHeader.{ProgramHeader}
use Rattle.cet_elf.proofs.FieldLemmas.{behind}
use Rattle.cet_elf.proofs.WrittenHeaders.{text_read, data_read, note_read}

-- a part between others
pub part_between : (front part back : List ℕ) (at : ℕ) → length front ≡ at → slice_range (front ++ (part ++ back)) at (at + length part) ≡ part
part_between front part back at place =
    let zero : length part - 0 ≡ length part = omega arith in
    behind front (part ++ back) at 0 (length part) (omega arith) ∙ ap (λ n. take n (part ++ back)) (omega arith) ∙ take-append_seam part back

-- the image by what is read of a file
pub image_read : (bytes : List ℕ) (hs : List ProgramHeader) (entry mark : ℕ) (segments : List Segment) → xword bytes 24 ≡ entry → features bytes ≡ mark → headers bytes ≡ hs →
    segments_of bytes hs ≡ segments → image_of bytes ≡ record { entry = entry; marked = has_stacks mark; tracked = has_tracking mark; segments = segments }
unfolding image_from
image_read bytes hs entry mark segments enter marked table is =
    let loaded : segments_of bytes (headers bytes) ≡ segments = ap (segments_of bytes) table ∙ is in
    rw (enter, marked, loaded) refl

pub one_segment : (bytes text : List ℕ) (place : ℕ) → slice_range bytes 4096 (4096 + length text) ≡ text → segments_of bytes (text_read (length text) ∷ note_read place ∷ []) ≡ text_segment text ∷ []
one_segment bytes text place is = rw is refl

pub two_segments : (bytes text static_data : List ℕ) (r place : ℕ) → slice_range bytes 4096 (4096 + length text) ≡ text → slice_range bytes (4096 + r) (4096 + r + length static_data) ≡ static_data →
    segments_of bytes (text_read (length text) ∷ data_read r (length static_data) ∷ note_read place ∷ []) ≡ text_segment text ∷ record {
      start = text_start + r;
      bytes = static_data;
      size = length static_data;
      write = true;
      exec = false;
    } ∷ []
two_segments bytes text static_data r place is other = rw (is, other) refl

-- the parts of a file by what stands before them
pub seventh : (a b c d e f text rest : List ℕ) (at : ℕ) → length a + length b + length c + length d + length e + length f ≡ at → slice_range (a ++ (b ++ (c ++ (d ++ (e ++ (f ++ (text ++ rest))))))) at (at + length text) ≡ text
seventh a b c d e f text rest at place =
    let front = a ++ (b ++ (c ++ (d ++ (e ++ f)))) in
    let whole : a ++ (b ++ (c ++ (d ++ (e ++ (f ++ (text ++ rest)))))) ≡ front ++ (text ++ rest) = sym (simp append_assoc) in
    ap (λ l. slice_range l at (at + length text)) whole
    ∙ part_between front text rest at (omega (arith, length-append a (b ++ (c ++ (d ++ (e ++ f)))), length-append b (c ++ (d ++ (e ++ f))), length-append c (d ++ (e ++ f)), length-append d (e ++ f), length-append e f))

pub ninth : (a b c d e f g h static_data : List ℕ) (at : ℕ) → length a + length b + length c + length d + length e + length f + length g + length h ≡ at →
    slice_range (a ++ (b ++ (c ++ (d ++ (e ++ (f ++ (g ++ (h ++ static_data)))))))) at (at + length static_data) ≡ static_data
ninth a b c d e f g h static_data at place =
    let front = a ++ b in
    let whole : a ++ (b ++ (c ++ (d ++ (e ++ (f ++ (g ++ (h ++ static_data))))))) ≡ front ++ (c ++ (d ++ (e ++ (f ++ (g ++ (h ++ (static_data ++ []))))))) =
    ap (λ l. a ++ (b ++ (c ++ (d ++ (e ++ (f ++ (g ++ (h ++ l)))))))) (sym (append-nil static_data)) ∙ sym (append_assoc a b (c ++ (d ++ (e ++ (f ++ (g ++ (h ++ (static_data ++ [])))))))) in
    let regroup : front ++ (c ++ (d ++ (e ++ (f ++ (g ++ (h ++ (static_data ++ []))))))) ≡ front ++ (c ++ (d ++ (e ++ (f ++ ((g ++ h) ++ (static_data ++ [])))))) =
    ap (λ l. front ++ (c ++ (d ++ (e ++ (f ++ l))))) (sym (append_assoc g h (static_data ++ []))) in
    ap (λ l. slice_range l at (at + length static_data)) (whole ∙ regroup)
    ∙ seventh front c d e f (g ++ h) static_data [] at (omega (arith, length-append a b, length-append g h))

pub program_none : (text static_data : List ℕ) (entry mark : ℕ) → eqb (length static_data) 0 ≡ true →
    record { entry = entry; marked = has_stacks mark; tracked = has_tracking mark; segments = text_segment text ∷ [] } ≡ program_image text static_data entry mark
unfolding program_image
program_none text static_data entry mark e = rw e refl

pub program_some : (text static_data : List ℕ) (entry mark : ℕ) → eqb (length static_data) 0 ≡ false →
    record {
      entry = entry;
      marked = has_stacks mark;
      tracked = has_tracking mark;
      segments =
          text_segment text ∷ record {
            start = text_start + page_up (length text);
            bytes = static_data;
            size = length static_data;
            write = true;
            exec = false;
          } ∷ [];
    } ≡ program_image text static_data entry mark
unfolding program_image
program_some text static_data entry mark e = rw e refl
