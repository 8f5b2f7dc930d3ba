-- A written file breaks no rule.
use Rattle.std.proofs.Common.{◌≡◌, ℕ, zero, suc, ◌+◌, ◌-◌, ◌*◌, ◌/◌, ◌%◌, ◌<◌, ◌≤◌, Bool, true, false, not, ◌&&◌, eqb, ltb}
use Rattle.std.proofs.Common.{leb, List, [], ◌∷◌, length, get_or, Option, Some, None, refl, ap, ◌∙◌, arith}
use Rattle.std.specs.List.{list_any, AllByRecursion}
use Rattle.std.proofs.lemmas.Bool.{le-leb, lt-ltb, eq-eqb, and_from}
use Rattle.cet_words.specs.Layout.{image_end, image_start}
use Rattle.cet_asm.specs.Layout.{text_start}
use Rattle.cet_elf.specs.Headers.{half, word, xword, headers}
use Rattle.cet_elf.specs.Notes.{has_stacks, note_feature, features_of, features}
use Rattle.cet_elf.specs.Rules.{unless, table_breach, file_breaches, header_breaches, later_breaches, load_breach, is_filled, is_placed, is_aligned, is_guarded, is_apart, ends_before, shares_page, has_entry}
use Rattle.cet_elf.specs.Refusals.{HoldBelow}
use Rattle.cet_elf.specs.Accepts.{Accepts}
use Rattle.cet_elf.specs.declared.headers.ProgramHeader.{ProgramHeader}
use Rattle.cet_elf.proofs.RuleLemmas.{all_hold}
use Rattle.cet_elf.proofs.WrittenHeaders.{Heads, text_read, data_read, note_read}

none_at : (os : List (Option ℕ)) → AllByRecursion (λ (o : Option ℕ). o ≡ None) os → (k : ℕ) → get_or os k None ≡ None
none_at [] none k = refl
none_at (o ∷ os) none zero = none.0
none_at (o ∷ os) none (suc k) = none_at os none.1 k

-- the file header
table_holds : (bytes : List ℕ) (entry count : ℕ) → Heads entry count bytes → (leb 1 count && leb count 64) ≡ true → leb (64 + 56 * count) (length bytes) ≡ true → table_breach bytes ≡ None
unfolding table_breach
table_holds bytes entry count h few inside =
    let a = h.entry_size in
    let b = h.number in
    let c = h.table in
    rw (a, b, c, few, inside) refl

kind_holds : (bytes : List ℕ) → half bytes 16 ≡ 2 → unless (eqb (half bytes 16) 2) 16 ≡ None
kind_holds bytes e = rw e refl

machine_holds : (bytes : List ℕ) → half bytes 18 ≡ 62 → unless (eqb (half bytes 18) 62) 18 ≡ None
machine_holds bytes e = rw e refl

version_holds : (bytes : List ℕ) → word bytes 20 ≡ 1 → unless (eqb (word bytes 20) 1) 20 ≡ None
version_holds bytes e = rw e refl

pub file_holds : (bytes : List ℕ) (entry count : ℕ) → Heads entry count bytes → (leb 1 count && leb count 64) ≡ true → 64 + 56 * count ≤ length bytes → HoldBelow 6 (file_breaches bytes)
file_holds bytes entry count h few inside k small =
    none_at (file_breaches bytes) (
      h.magic,
      (
        h.class,
        (
          kind_holds bytes h.kind,
          (
            machine_holds bytes h.machine,
            (
              version_holds bytes h.version,
              (table_holds bytes entry count h few (le-leb (64 + 56 * count) (length bytes) inside), tt),
            ),
          ),
        ),
      ),
    ) k

-- the headers of the text and of the data
one_load : (holds : ProgramHeader → Bool) (s place : ℕ) → holds (text_read s) ≡ true → load_breach holds (text_read s ∷ note_read place ∷ []) ≡ None
one_load holds s place e = rw e refl

two_loads : (holds : ProgramHeader → Bool) (s r d place : ℕ) → holds (text_read s) ≡ true → holds (data_read r d) ≡ true → load_breach holds (text_read s ∷ data_read r d ∷ note_read place ∷ []) ≡ None
two_loads holds s r d place e f = rw (e, f) refl

text_filled : (n s : ℕ) → 4096 + s ≤ n → is_filled n (text_read s) ≡ true
text_filled n s inside = and_from (leb (4096 + s) n) (leb s s) (le-leb (4096 + s) n inside) (le-leb s s (omega arith))

data_filled : (n r d : ℕ) → 4096 + r + d ≤ n → is_filled n (data_read r d) ≡ true
data_filled n r d inside = and_from (leb (4096 + r + d) n) (leb d d) (le-leb (4096 + r + d) n inside) (le-leb d d (omega arith))

text_placed : (s : ℕ) → text_start + s ≤ image_end → is_placed (text_read s) ≡ true
text_placed s fits = le-leb (text_start + s) image_end fits

data_placed : (r d : ℕ) → text_start + r + d ≤ image_end → is_placed (data_read r d) ≡ true
data_placed r d fits =
    and_from (leb image_start (text_start + r)) (leb (text_start + r + d) image_end)
    (le-leb image_start (text_start + r) (omega arith)) (le-leb (text_start + r + d) image_end fits)

data_aligned : (r d q : ℕ) → r ≡ 4096 * q → is_aligned (data_read r d) ≡ true
data_aligned r d q e = eq-eqb ((4096 + r) % 4096) ((text_start + r) % 4096) (omega arith)

unshared : (x y z : Bool) → (x && y && not true && z) ≡ false
unshared true true z = refl
unshared true false z = refl
unshared false y z = refl

ends : (s r d q : ℕ) → r ≡ 4096 * q → 1 ≤ s → s ≤ r → ends_before (text_read s) (data_read r d) ≡ true
ends s r d q multiple some behind =
    lt-ltb ((text_start + s - 1) / 4096) ((text_start + r) / 4096) (omega arith)

no_page : (s r d : ℕ) → ends_before (text_read s) (data_read r d) ≡ true → shares_page (text_read s) (data_read r d) ≡ false
no_page s r d e = rw e (unshared (ltb 0 s) (ltb 0 d) (not (ends_before (data_read r d) (text_read s))))

data_apart : (s r d place : ℕ) → shares_page (text_read s) (data_read r d) ≡ false → is_apart (text_read s ∷ data_read r d ∷ note_read place ∷ []) (data_read r d) ≡ true
data_apart s r d place e = rw e refl

one_entered : (s place entry : ℕ) → leb text_start entry ≡ true → ltb entry (text_start + s) ≡ true → list_any (has_entry entry) (text_read s ∷ note_read place ∷ []) ≡ true
one_entered s place entry low high = rw (low, high) refl

two_entered : (s r d place entry : ℕ) → leb text_start entry ≡ true → ltb entry (text_start + s) ≡ true → list_any (has_entry entry) (text_read s ∷ data_read r d ∷ note_read place ∷ []) ≡ true
two_entered s r d place entry low high = rw (low, high) refl

holds_at : (b : Bool) (at : ℕ) → b ≡ true → unless b at ≡ None
holds_at b at e = rw e refl

one_later : (bytes : List ℕ) (s place entry mark : ℕ) → xword bytes 24 ≡ entry → 4096 + s ≤ length bytes → text_start + s ≤ image_end → text_start ≤ entry → entry < text_start + s →
    has_stacks mark ≡ true → AllByRecursion (λ (o : Option ℕ). o ≡ None) (header_breaches bytes mark (text_read s ∷ note_read place ∷ []))
unfolding header_breaches
one_later bytes s place entry mark enter inside fits low high marked =
    let hs = text_read s ∷ note_read place ∷ [] in
    let entered : list_any (has_entry (xword bytes 24)) hs ≡ true
    = ap (λ e. list_any (has_entry e) hs) enter ∙ one_entered s place entry (le-leb text_start entry low) (lt-ltb entry (text_start + s) high) in (
      refl,
      (
        one_load (is_filled (length bytes)) s place (text_filled (length bytes) s inside),
        (
          one_load is_placed s place (text_placed s fits),
          (
            one_load is_aligned s place refl,
            (
              one_load is_guarded s place refl,
              (
                one_load (is_apart hs) s place refl,
                (
                  holds_at (list_any (has_entry (xword bytes 24)) hs) 24 entered,
                  (holds_at (has_stacks mark) 0 marked, tt),
                ),
              ),
            ),
          ),
        ),
      ),
    )

two_later : (bytes : List ℕ) (s r d q place entry mark : ℕ) → xword bytes 24 ≡ entry → r ≡ 4096 * q → 1 ≤ s → s ≤ r → 4096 + r + d ≤ length bytes → text_start + r + d ≤ image_end →
    text_start ≤ entry → entry < text_start + s → has_stacks mark ≡ true → AllByRecursion (λ (o : Option ℕ). o ≡ None) (header_breaches bytes mark (text_read s ∷ data_read r d ∷ note_read place ∷ []))
unfolding header_breaches
two_later bytes s r d q place entry mark enter multiple some behind inside fits low high marked =
    let hs = text_read s ∷ data_read r d ∷ note_read place ∷ [] in
    let entered : list_any (has_entry (xword bytes 24)) hs ≡ true
    = ap (λ e. list_any (has_entry e) hs) enter ∙ two_entered s r d place entry (le-leb text_start entry low) (lt-ltb entry (text_start + s) high) in (
      refl,
      (
        two_loads (is_filled (length bytes)) s r d place (text_filled (length bytes) s (omega arith)) (data_filled (length bytes) r d inside),
        (
          two_loads is_placed s r d place (text_placed s (omega arith)) (data_placed r d fits),
          (
            two_loads is_aligned s r d place refl (data_aligned r d q multiple),
            (
              two_loads is_guarded s r d place refl refl,
              (
                two_loads (is_apart hs) s r d place refl (data_apart s r d place (no_page s r d (ends s r d q multiple some behind))),
                (
                  holds_at (list_any (has_entry (xword bytes 24)) hs) 24 entered,
                  (holds_at (has_stacks mark) 0 marked, tt),
                ),
              ),
            ),
          ),
        ),
      ),
    )

-- the feature bits of the note
pub features_read : (bytes : List ℕ) (hs : List ProgramHeader) (mark : ℕ) → headers bytes ≡ hs → features_of bytes hs ≡ mark → features bytes ≡ mark
features_read bytes hs mark table marked = ap (features_of bytes) table ∙ marked

pub one_features : (bytes : List ℕ) (s place mark : ℕ) → note_feature bytes (note_read place) ≡ Some mark → features_of bytes (text_read s ∷ note_read place ∷ []) ≡ mark
unfolding features_of
one_features bytes s place mark e = rw e refl

pub two_features : (bytes : List ℕ) (s r d place mark : ℕ) → note_feature bytes (note_read place) ≡ Some mark → features_of bytes (text_read s ∷ data_read r d ∷ note_read place ∷ []) ≡ mark
unfolding features_of
two_features bytes s r d place mark e = rw e refl

later_holds : (bytes : List ℕ) (hs : List ProgramHeader) (mark : ℕ) → headers bytes ≡ hs → features_of bytes hs ≡ mark → AllByRecursion (λ (o : Option ℕ). o ≡ None) (header_breaches bytes mark hs) →
    HoldBelow (length (later_breaches bytes)) (later_breaches bytes)
later_holds bytes hs mark table marked none k small =
    let same : later_breaches bytes ≡ header_breaches bytes mark hs
    = ap (λ m. header_breaches bytes m (headers bytes)) (features_read bytes hs mark table marked) ∙ ap (header_breaches bytes mark) table in
    ap (λ (l : List (Option ℕ)). get_or l k None) same ∙ none_at (header_breaches bytes mark hs) none k

pub one_accepted : (bytes : List ℕ) (s entry mark : ℕ) → Heads entry 2 bytes → headers bytes ≡ text_read s ∷ note_read 120 ∷ [] → note_feature bytes (note_read 120) ≡ Some mark →
    4096 + s ≤ length bytes → text_start + s ≤ image_end → text_start ≤ entry → entry < text_start + s → has_stacks mark ≡ true → Accepts bytes
one_accepted bytes s entry mark h table note inside fits low high marked =
    all_hold bytes (file_holds bytes entry 2 h refl (omega arith))
    (later_holds bytes (text_read s ∷ note_read 120 ∷ []) mark table (one_features bytes s 120 mark note)
    (one_later bytes s 120 entry mark h.entered inside fits low high marked))

pub two_accepted : (bytes : List ℕ) (s r d q entry mark : ℕ) → Heads entry 3 bytes → headers bytes ≡ text_read s ∷ data_read r d ∷ note_read 176 ∷ [] → note_feature bytes (note_read 176) ≡ Some mark →
    r ≡ 4096 * q → 1 ≤ s → s ≤ r → 4096 + r + d ≤ length bytes → text_start + r + d ≤ image_end → text_start ≤ entry → entry < text_start + s → has_stacks mark ≡ true → Accepts bytes
two_accepted bytes s r d q entry mark h table note multiple some behind inside fits low high marked =
    all_hold bytes (file_holds bytes entry 3 h refl (omega arith))
    (later_holds bytes (text_read s ∷ data_read r d ∷ note_read 176 ∷ []) mark table (two_features bytes s r d 176 mark note)
    (two_later bytes s r d q 176 entry mark h.entered multiple some behind inside fits low high marked))
