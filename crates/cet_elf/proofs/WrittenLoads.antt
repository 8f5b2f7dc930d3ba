-- The file of a program that fits the image range is accepted.
use Rattle.std.proofs.Common.{◌≡◌, ℕ, ◌+◌, ◌-◌, ◌/◌, ◌<◌, ◌≤◌, ◌^◌, Bool, true, false, eqb, List, [], ◌∷◌, ◌++◌, length, Some}
use Rattle.std.proofs.Common.{refl, ap, sym, ◌∙◌, subst, arith, length-append, append_assoc, lit<, replicate}
use Rattle.std.proofs.lemmas.List.{length-replicate}
use Rattle.std.specs.Prelude.{Result, IfOk}
use Rattle.std.proofs.lemmas.Result.{IfOk-weaker}
use Rattle.cet_words.specs.Layout.{image_end, page_up}
use Rattle.cet_words.specs.declared.lists.NoMemory.{NoMemory}
use Rattle.cet_asm.specs.Layout.{text_start}
use Rattle.cet_elf.specs.Headers.{xword, headers, header_at}
use Rattle.cet_elf.specs.Notes.{has_stacks, note_feature, features}
use Rattle.cet_elf.specs.Accepts.{Accepts}
use Rattle.cet_elf.specs.Written.{file_header, text_header, data_header, note_header, property_note, front, data_part, written_of, IsLoadable, LoadsAs, text_segment}
use Rattle.cet_elf.specs.declared.headers.ProgramHeader.{ProgramHeader}
use Rattle.cet_elf.proofs.FieldLemmas.{header_size}
use Rattle.cet_elf.proofs.WrittenHeaders.{heads, file_size, note_size, text_read, data_read, note_read, text_behind, data_behind, note_behind, two_headers, three_headers, note_feature_read}
use Rattle.cet_elf.proofs.WrittenRules.{one_accepted, two_accepted, one_features, two_features, features_read}
use Rattle.cet_elf.proofs.WrittenImage.{seventh, ninth, image_read, one_segment, two_segments, program_none, program_some}

text_size : (size : ℕ) → length (text_header size) ≡ 56
unfolding text_header
text_size size = header_size 1 5 4096 text_start size 4096

data_size : (text size : ℕ) → length (data_header text size) ≡ 56
unfolding data_header
data_size text size = header_size 1 6 (4096 + page_up text) (text_start + page_up text) size 4096

note_header_size : length note_header ≡ 56
unfolding note_header
note_header_size = header_size 0x6474e553 4 232 0 32 8

-- what is read of a file
record Reads (count entry mark : ℕ) (hs : List ProgramHeader) (bytes : List ℕ) : Type 0 where
  pub accepts : Accepts bytes
  pub entered : xword bytes 24 ≡ entry
  pub headers : headers bytes ≡ hs
  pub features : features bytes ≡ mark

-- without data: file header, text header, note header, 56 bytes, note, tail
one_file : (entry s mark : ℕ) (pad tail : List ℕ) → length pad ≡ 56 → mark < 2 ^ 32 → 3832 + s ≤ length tail → text_start + s ≤ image_end → text_start ≤ entry → entry < text_start + s →
    has_stacks mark ≡ true → Reads 2 entry mark (text_read s ∷ note_read 120 ∷ []) (file_header entry 2 ++ (text_header s ++ (note_header ++ (pad ++ (property_note mark ++ tail)))))
one_file entry s mark pad tail size small room fits low high marked =
    let file = file_header entry 2 in
    let noted = property_note mark ++ tail in
    let behind = pad ++ noted in
    let bytes = file ++ (text_header s ++ (note_header ++ behind)) in
    let a = file_size entry 2 in
    let b = text_size s in
    let c = note_header_size in
    let d = note_size mark in
    let h = heads entry 2 (text_header s ++ (note_header ++ behind)) (omega arith) (lit< tt) in
    let second = file ++ text_header s in
    let second_is : bytes ≡ second ++ (note_header ++ behind) = sym (append_assoc file (text_header s) (note_header ++ behind)) in
    let one : header_at bytes 64 ≡ text_read s = text_behind file (note_header ++ behind) s a (omega arith) in
    let two : header_at bytes 120 ≡ note_read 120
    = ap (λ l. header_at l 120) second_is ∙ note_behind second behind 120 (omega (arith, length-append file (text_header s))) in
    let all = file ++ (text_header s ++ (note_header ++ pad)) in
    let all_is : bytes ≡ all ++ noted = sym (simp append_assoc) in
    let long : length all ≡ 232
    = omega (arith, length-append file (text_header s ++ (note_header ++ pad)), length-append (text_header s) (note_header ++ pad), length-append note_header pad) in
    let note : note_feature bytes (note_read 120) ≡ Some mark
    = ap (λ l. note_feature l (note_read 120)) all_is ∙ note_feature_read all tail 120 mark long small in
    let total : 4096 + s ≤ length bytes
    = omega (arith, ap length all_is, length-append all noted, length-append (property_note mark) tail) in
    let hs = text_read s ∷ note_read 120 ∷ [] in
    let table = two_headers bytes (text_read s) (note_read 120) h.table h.number one two in
    record {
      accepts = one_accepted bytes s entry mark h table note total fits low high marked;
      entered = h.entered;
      headers = table;
      features = features_read bytes hs mark table (one_features bytes s 120 mark note);
    }

-- with data: file header, text header, data header, note header, note, tail
two_file : (entry s d mark : ℕ) (tail : List ℕ) → mark < 2 ^ 32 → 1 ≤ s → 3832 + page_up s + d ≤ length tail → text_start + page_up s + d ≤ image_end → text_start ≤ entry → entry < text_start + s →
    has_stacks mark ≡ true → Reads 3 entry mark (text_read s ∷ data_read (page_up s) d ∷ note_read 176 ∷ [])
    (file_header entry 3 ++ (text_header s ++ (data_header s d ++ (note_header ++ (property_note mark ++ tail)))))
two_file entry s d mark tail small some room fits low high marked =
    let file = file_header entry 3 in
    let noted = property_note mark ++ tail in
    let behind = note_header ++ noted in
    let bytes = file ++ (text_header s ++ (data_header s d ++ behind)) in
    let a = file_size entry 3 in
    let b = text_size s in
    let c = note_header_size in
    let e = note_size mark in
    let f = data_size s d in
    let up : s ≤ page_up s = omega arith in
    let h = heads entry 3 (text_header s ++ (data_header s d ++ behind)) (omega arith) (lit< tt) in
    let second = file ++ text_header s in
    let second_is : bytes ≡ second ++ (data_header s d ++ behind) = sym (append_assoc file (text_header s) (data_header s d ++ behind)) in
    let third = file ++ (text_header s ++ data_header s d) in
    let third_is : bytes ≡ third ++ behind = sym (simp append_assoc) in
    let all = file ++ (text_header s ++ (data_header s d ++ note_header)) in
    let all_is : bytes ≡ all ++ noted = sym (simp append_assoc) in
    let one : header_at bytes 64 ≡ text_read s = text_behind file (data_header s d ++ behind) s a (omega arith) in
    let two : header_at bytes 120 ≡ data_read (page_up s) d
    = ap (λ l. header_at l 120) second_is ∙ data_behind second behind s d (omega (arith, length-append file (text_header s))) (omega arith) (omega arith) in
    let three : header_at bytes 176 ≡ note_read 176
    = ap (λ l. header_at l 176) third_is ∙ note_behind third noted 176 (omega (arith, length-append file (text_header s ++ data_header s d), length-append (text_header s) (data_header s d))) in
    let long : length all ≡ 232
    = omega (arith, length-append file (text_header s ++ (data_header s d ++ note_header)), length-append (text_header s) (data_header s d ++ note_header), length-append (data_header s d) note_header) in
    let note : note_feature bytes (note_read 176) ≡ Some mark
    = ap (λ l. note_feature l (note_read 176)) all_is ∙ note_feature_read all tail 176 mark long small in
    let total : 4096 + page_up s + d ≤ length bytes
    = omega (arith, ap length all_is, length-append all noted, length-append (property_note mark) tail) in
    let hs = text_read s ∷ data_read (page_up s) d ∷ note_read 176 ∷ [] in
    let table = three_headers bytes (text_read s) (data_read (page_up s) d) (note_read 176) h.table h.number one two three in
    record {
      accepts = two_accepted bytes s (page_up s) d ((s + 4095) / 4096) entry mark h table note refl some up total fits low high marked;
      entered = h.entered;
      headers = table;
      features = features_read bytes hs mark table (two_features bytes s (page_up s) d 176 mark note);
    }

front_none : (s d entry : ℕ) → eqb d 0 ≡ true → front s d entry ≡ file_header entry 2 ++ text_header s ++ note_header ++ replicate 56 0
unfolding front
front_none s d entry e = rw e refl

front_some : (s d entry : ℕ) → eqb d 0 ≡ false → front s d entry ≡ file_header entry 3 ++ text_header s ++ data_header s d ++ note_header
unfolding front
front_some s d entry e = rw e refl

part_none : (s : ℕ) (static_data : List ℕ) → eqb (length static_data) 0 ≡ true → data_part s static_data ≡ []
unfolding data_part
part_none s static_data e = rw e refl

part_some : (s : ℕ) (static_data : List ℕ) → eqb (length static_data) 0 ≡ false → data_part s static_data ≡ replicate (page_up s - s) 0 ++ static_data
unfolding data_part
part_some s static_data e = rw e refl

regrouped : (a b c d e f g h : List ℕ) → ((((((a ++ b) ++ c) ++ d) ++ e) ++ f) ++ g) ++ h ≡ a ++ (b ++ (c ++ (d ++ (e ++ (f ++ (g ++ h))))))
regrouped a b c d e f g h = simp append_assoc

written_none : (text static_data : List ℕ) (entry mark : ℕ) → eqb (length static_data) 0 ≡ true →
    written_of text static_data entry mark ≡ file_header entry 2 ++ (text_header (length text) ++ (note_header ++ (replicate 56 0 ++ (property_note mark ++ (replicate 3832 0 ++ (text ++ []))))))
unfolding written_of
written_none text static_data entry mark e =
    ap (λ l. l ++ property_note mark ++ replicate 3832 0 ++ text ++ data_part (length text) static_data) (front_none (length text) (length static_data) entry e)
    ∙ ap (λ l. (file_header entry 2 ++ text_header (length text) ++ note_header ++ replicate 56 0) ++ property_note mark ++ replicate 3832 0 ++ text ++ l) (part_none (length text) static_data e)
    ∙ regrouped (file_header entry 2) (text_header (length text)) note_header (replicate 56 0) (property_note mark) (replicate 3832 0) text []

written_some : (text static_data : List ℕ) (entry mark : ℕ) → eqb (length static_data) 0 ≡ false →
    written_of text static_data entry mark ≡ file_header entry 3 ++ (text_header (length text) ++
    (data_header (length text) (length static_data) ++ (note_header ++ (property_note mark ++ (replicate 3832 0 ++ (text ++ (replicate (page_up (length text) - length text) 0 ++ static_data)))))))
unfolding written_of
written_some text static_data entry mark e =
    let s = length text in
    let d = length static_data in
    ap (λ l. l ++ property_note mark ++ replicate 3832 0 ++ text ++ data_part s static_data) (front_some s d entry e)
    ∙ ap (λ l. (file_header entry 3 ++ text_header s ++ data_header s d ++ note_header) ++ property_note mark ++ replicate 3832 0 ++ text ++ l) (part_some s static_data e)
    ∙ regrouped (file_header entry 3) (text_header s) (data_header s d) note_header (property_note mark) (replicate 3832 0) text (replicate (page_up s - s) 0 ++ static_data)

-- by whether there is data
loaded_none : (text static_data : List ℕ) (entry mark : ℕ) → eqb (length static_data) 0 ≡ true → mark < 2 ^ 32 → IsLoadable text static_data entry mark →
    LoadsAs text static_data entry mark (file_header entry 2 ++ (text_header (length text) ++ (note_header ++ (replicate 56 0 ++ (property_note mark ++ (replicate 3832 0 ++ (text ++ [])))))))
loaded_none text static_data entry mark e small h =
    let s = length text in
    let tail = replicate 3832 0 ++ (text ++ []) in
    let bytes = file_header entry 2 ++ (text_header s ++ (note_header ++ (replicate 56 0 ++ (property_note mark ++ tail)))) in
    let up : s ≤ page_up s = omega arith in
    let low = h.low in
    let high = h.high in
    let fits = h.fits in
    let hs = text_read s ∷ note_read 120 ∷ [] in
    let pad : length {A = ℕ} (replicate 56 0) ≡ 56 = length-replicate {A = ℕ} 56 0 in
    let gap : length {A = ℕ} (replicate 3832 0) ≡ 3832 = length-replicate {A = ℕ} 3832 0 in
    let reads = one_file entry s mark (replicate 56 0) tail pad small
    (omega (arith, length-append (replicate 3832 0) (text ++ []), length-append text [])) (omega arith) low high h.marked in
    let text_is = seventh (file_header entry 2) (text_header s) note_header (replicate 56 0) (property_note mark) (replicate 3832 0) text [] 4096
    (omega (arith, file_size entry 2, text_size s, note_header_size, note_size mark)) in
    record {
      accepts = reads.accepts;
      image = image_read bytes hs entry mark (text_segment text ∷ []) reads.entered reads.features reads.headers (one_segment bytes text 120 text_is)
          ∙ program_none text static_data entry mark e;
    }

loaded_some : (text static_data : List ℕ) (entry mark : ℕ) → eqb (length static_data) 0 ≡ false → mark < 2 ^ 32 → IsLoadable text static_data entry mark →
    LoadsAs text static_data entry mark (file_header entry 3 ++ (text_header (length text) ++
    (data_header (length text) (length static_data) ++ (note_header ++ (property_note mark ++ (replicate 3832 0 ++ (text ++ (replicate (page_up (length text) - length text) 0 ++ static_data))))))))
loaded_some text static_data entry mark e small h =
    let s = length text in
    let d = length static_data in
    let gap : List ℕ = replicate (page_up s - s) 0 in
    let tail = replicate 3832 0 ++ (text ++ (gap ++ static_data)) in
    let bytes = file_header entry 3 ++ (text_header s ++ (data_header s d ++ (note_header ++ (property_note mark ++ tail)))) in
    let up : s ≤ page_up s = omega arith in
    let low = h.low in
    let high = h.high in
    let fits = h.fits in
    let hs = text_read s ∷ data_read (page_up s) d ∷ note_read 176 ∷ [] in
    let pad : length {A = ℕ} (replicate 3832 0) ≡ 3832 = length-replicate {A = ℕ} 3832 0 in
    let room : length gap ≡ page_up s - s = length-replicate {A = ℕ} (page_up s - s) 0 in
    let a = file_size entry 3 in
    let b = text_size s in
    let c = data_size s d in
    let f = note_size mark in
    let reads = two_file entry s d mark tail small h.some
    (omega (arith, length-append (replicate 3832 0) (text ++ (gap ++ static_data)), length-append text (gap ++ static_data), length-append gap static_data)) (omega arith) low high h.marked in
    let text_is = seventh (file_header entry 3) (text_header s) (data_header s d) note_header (property_note mark) (replicate 3832 0) text (gap ++ static_data) 4096
    (omega (arith, note_header_size)) in
    let data_is = ninth (file_header entry 3) (text_header s) (data_header s d) note_header (property_note mark) (replicate 3832 0) text gap static_data (4096 + page_up s)
    (omega (arith, note_header_size)) in
    record {
      accepts = reads.accepts;
      image = image_read bytes hs entry mark _ reads.entered reads.features reads.headers (two_segments bytes text static_data (page_up s) 176 text_is data_is)
          ∙ program_some text static_data entry mark e;
    }

by_data : (text static_data : List ℕ) (entry mark : ℕ) (b : Bool) → eqb (length static_data) 0 ≡ b → mark < 2 ^ 32 → IsLoadable text static_data entry mark →
    LoadsAs text static_data entry mark (written_of text static_data entry mark)
by_data text static_data entry mark true e small h =
    subst (λ (l : List ℕ). LoadsAs text static_data entry mark l) (sym (written_none text static_data entry mark e)) (loaded_none text static_data entry mark e small h)
by_data text static_data entry mark false e small h =
    subst (λ (l : List ℕ). LoadsAs text static_data entry mark l) (sym (written_some text static_data entry mark e)) (loaded_some text static_data entry mark e small h)

pub all_loaded : (text static_data x y : List ℕ) (entry mark : ℕ) (r : Result (List ℕ) NoMemory) → x ≡ text → y ≡ static_data → IfOk r (λ bytes. bytes ≡ written_of x y entry mark) → mark < 2 ^ 32 →
    IsLoadable text static_data entry mark → IfOk r (LoadsAs text static_data entry mark)
all_loaded text static_data x y entry mark r text_is data_is is small h =
    let same : written_of x y entry mark ≡ written_of text static_data entry mark
    = ap (λ l. written_of l y entry mark) text_is ∙ ap (λ l. written_of text l entry mark) data_is in
    let loads = by_data text static_data entry mark (eqb (length static_data) 0) refl small h in
    IfOk-weaker r (λ bytes. bytes ≡ written_of x y entry mark) (LoadsAs text static_data entry mark)
    (λ bytes e. subst (λ (l : List ℕ). LoadsAs text static_data entry mark l) (sym (e ∙ same)) loads) is
