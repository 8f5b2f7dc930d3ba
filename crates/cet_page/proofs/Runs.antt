-- Bytes of one page of a segment are those that can be fetched.
use Rattle.std.proofs.Common.{◌≡◌, ℕ, zero, suc, ◌+◌, ◌-◌, ◌*◌, ◌/◌, ◌%◌, ◌<◌, ◌≤◌, arith, refl, ap, sym, ◌∙◌, true, List, ◌∷◌, Some, take, drop, length}
use Rattle.std.proofs.Math.Seq.{drop-cons}
use Rattle.std.proofs.lemmas.Bool.{le-leb}
use Rattle.std.specs.Prelude.{find, nat_le, slice_index, slice_range}
use Rattle.cet_words.specs.declared.images.Segment.{Segment}
use Rattle.cet_words.specs.Job.{covers}
use Rattle.cet_words.specs.Layout.{image_end}
use Rattle.cet_words.specs.Bytes.{code_byte, executable_byte, segment_byte}
use Rattle.cet_page.specs.Fetch.{HoldsCode, fetchable, joined}

byte_of : (segments : List Segment) (s : Segment) (addr page : ℕ) → find (covers page) segments ≡ Some s → s.exec ≡ true → addr / 4096 ≡ page →
    code_byte segments addr ≡ Some (segment_byte s addr)
unfolding code_byte
byte_of segments s addr page f x p =
    ap (λ n. executable_byte (find (covers n) segments) addr) p ∙ ap (λ o. executable_byte o addr) f ∙ rw x refl

-- the segment that has a page's first byte has all of them
pub page_holds : (segments : List Segment) (s : Segment) (addr count : ℕ) → find (covers (addr / 4096)) segments ≡ Some s → s.exec ≡ true → addr % 4096 + count ≤ 4096 →
    4096 * (addr / 4096) < image_end → HoldsCode segments s addr count
page_holds segments s addr count f x page end a low high = (byte_of segments s a (addr / 4096) f x (omega arith), omega arith)

in_file : (s : Segment) (addr at : ℕ) → s.start + at ≡ addr → segment_byte s addr ≡ slice_index s.bytes at
in_file s addr at e =
    let within : nat_le s.start addr ≡ true = le-leb s.start addr (omega arith) in
    let here : addr - s.start ≡ at = omega arith in
    rw (within, here) refl

run_from : (segments : List Segment) (s : Segment) (count addr at : ℕ) → HoldsCode segments s addr count → s.start + at ≡ addr → at + count ≤ length s.bytes →
    take count (drop at s.bytes) ≡ fetchable segments addr count
unfolding fetchable
run_from segments s zero addr at h e fits = refl
run_from segments s (suc count) addr at h e fits =
    let byte = (h addr (omega arith) (omega arith)).0 ∙ ap (λ n. Some n) (in_file s addr at e) in
    let rest = run_from segments s count (addr + 1) (suc at) (λ a low high. h a (omega arith) (omega arith)) (omega arith) (omega arith) in
    ap (take (suc count)) (drop-cons s.bytes at 0 (omega arith)) ∙ ap (λ l. slice_index s.bytes at ∷ l) rest ∙ ap (λ o. joined o (fetchable segments (addr + 1) count)) (sym byte)

pub run_is : (segments : List Segment) (s : Segment) (addr count : ℕ) → HoldsCode segments s addr count → s.start ≤ addr → addr - s.start + count ≤ length s.bytes →
    slice_range s.bytes (addr - s.start) (addr - s.start + count) ≡ fetchable segments addr count
run_is segments s addr count h l fits =
    let n : addr - s.start + count - (addr - s.start) ≡ count = omega arith in
    ap (λ k. take k (drop (addr - s.start) s.bytes)) n ∙ run_from segments s count addr (addr - s.start) h (omega arith) fits
