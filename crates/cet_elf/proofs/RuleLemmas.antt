-- The fourteen rules in a row.
use Rattle.std.proofs.Common.{◌≡◌, ℕ, ◌+◌, ◌-◌, ◌*◌, ◌<◌, ◌≤◌, Bool, true, false, List, length, get_or, Option, None, Result, Err, ap, sym, ◌∙◌, refl, ◌&&◌, eqb, ltb, leb, subst, arith, lit<}
use Rattle.std.specs.Option.{option_or}
use Rattle.std.proofs.lemmas.List.{get_or_append_left, get_or-append-add}
use Rattle.std.proofs.lemmas.Bool.{ltb-true, ltb-false, leb-true}
use Rattle.cet_elf.specs.Headers.{half, xword, headers}
use Rattle.cet_elf.specs.Notes.{features_of, features}
use Rattle.std.specs.List.{list_any}
use Rattle.cet_words.specs.Job.{ImageData}
use Rattle.cet_elf.specs.Rules.{unless, file_breaches, later_breaches, header_breaches, table_breach, breaches, breach, load_breach, is_filled, is_placed, is_guarded, is_apart, has_entry}
use Rattle.cet_elf.specs.Refusals.{HoldBelow, Refusal}
use Rattle.cet_elf.specs.Accepts.{Accepts, Loads, image_from, image_of}
use Rattle.cet_elf.specs.declared.headers.ProgramHeader.{ProgramHeader}
use Rattle.cet_elf.specs.declared.loads.LoadFault.{LoadFault}
use Rattle.cet_elf.specs.declared.loads.LoadFault.TheVariants.{Refused, NoMemory}

pub eight : (bytes : List ℕ) → length (later_breaches bytes) ≡ 8
unfolding header_breaches
eight bytes = refl

early : (bytes : List ℕ) (rule k : ℕ) → rule ≡ 1 + k → k < 6 → breach rule bytes ≡ get_or (file_breaches bytes) k None
unfolding breach
early bytes rule k is small =
    let at : rule - 1 ≡ k = omega arith in
    ap (λ i. get_or (breaches bytes) i None) at ∙ get_or_append_left (file_breaches bytes) (later_breaches bytes) None k small

late : (bytes : List ℕ) (rule k : ℕ) → rule ≡ 7 + k → breach rule bytes ≡ get_or (later_breaches bytes) k None
unfolding breach
late bytes rule k is =
    let at : rule - 1 ≡ 6 + k = omega arith in
    ap (λ i. get_or (breaches bytes) i None) at ∙ get_or-append-add (file_breaches bytes) (later_breaches bytes) k None

early_hold : (bytes : List ℕ) (n : ℕ) → n ≤ 6 → HoldBelow n (file_breaches bytes) → (rule : ℕ) → 1 ≤ rule → rule < 1 + n → breach rule bytes ≡ None
early_hold bytes n most hold rule low high =
    early bytes rule (rule - 1) (omega arith) (omega arith) ∙ hold (rule - 1) (omega arith)

late_hold : (bytes : List ℕ) (n : ℕ) → HoldBelow n (later_breaches bytes) → (rule : ℕ) → 7 ≤ rule → rule < 7 + n → breach rule bytes ≡ None
late_hold bytes n hold rule low high = late bytes rule (rule - 7) (omega arith) ∙ hold (rule - 7) (omega arith)

both_hold : (bytes : List ℕ) (n rule : ℕ) (b : Bool) → ltb rule 7 ≡ b → HoldBelow 6 (file_breaches bytes) → HoldBelow n (later_breaches bytes) → 1 ≤ rule → rule < 7 + n → breach rule bytes ≡ None
both_hold bytes n rule true is file later low high =
    early_hold bytes 6 (omega arith) file rule low (omega (arith, ltb-true rule 7 is))
both_hold bytes n rule false is file later low high = late_hold bytes n later rule (ltb-false rule 7 is) high

pub hold_below : (bytes : List ℕ) (n rule : ℕ) → HoldBelow 6 (file_breaches bytes) → HoldBelow n (later_breaches bytes) → 1 ≤ rule → rule < 7 + n → breach rule bytes ≡ None
hold_below bytes n rule file later low high = both_hold bytes n rule (ltb rule 7) refl file later low high

pub all_hold : (bytes : List ℕ) → HoldBelow 6 (file_breaches bytes) → HoldBelow (length (later_breaches bytes)) (later_breaches bytes) → Accepts bytes
all_hold bytes file later rule low high =
    hold_below bytes (length (later_breaches bytes)) rule file later low (omega (arith, eight bytes))

pub early_refused : (bytes : List ℕ) (e : LoadFault) → Refusal 1 (file_breaches bytes) (Err e) → Loads bytes (Err e)
early_refused bytes (Refused rule offset) (k, small, is, here, before) = record {
  low = omega arith;
  high = omega arith;
  here = early bytes rule k is small ∙ here;
  before = λ j low high. early_hold bytes k (omega arith) before j low (omega arith);
}
early_refused bytes NoMemory e = tt

pub late_refused : (bytes : List ℕ) (e : LoadFault) → HoldBelow 6 (file_breaches bytes) → Refusal 7 (later_breaches bytes) (Err e) → Loads bytes (Err e)
late_refused bytes (Refused rule offset) file (k, small, is, here, before) = record {
  low = omega arith;
  high = omega (arith, eight bytes);
  here = late bytes rule k is ∙ here;
  before = λ j low high. hold_below bytes k j file before low (omega arith);
}
late_refused bytes NoMemory file e = tt

or_none : (b : Bool) (at : ℕ) (o : Option ℕ) → option_or (unless b at) o ≡ None → o ≡ None
or_none true at o e = e
or_none false at o e = cc

pub unless_none : (b : Bool) (at : ℕ) → unless b at ≡ None → b ≡ true
unless_none true at e = refl
unless_none false at e = cc

-- the table lies in the file where rule 6 holds
pub table_inside : (bytes : List ℕ) → HoldBelow 6 (file_breaches bytes) → xword bytes 32 + 56 * half bytes 56 ≤ length bytes
unfolding table_breach
table_inside bytes hold =
    let count = half bytes 56 in
    let end = xword bytes 32 + 56 * count in
    let inside = unless (leb end (length bytes)) 32 in
    let two = or_none (eqb (half bytes 54) 56) 54 (option_or (unless (leb 1 count && leb count 64) 56) inside) (hold 5 (lit< tt)) in
    let three = or_none (leb 1 count && leb count 64) 56 inside two in
    leb-true end (length bytes) (unless_none (leb end (length bytes)) 32 three)

pub same_breaches : (bytes : List ℕ) (hs : List ProgramHeader) (marks : ℕ) (bs : List (Option ℕ)) → hs ≡ headers bytes → marks ≡ features_of bytes hs → bs ≡ header_breaches bytes marks hs → bs ≡ later_breaches bytes
same_breaches bytes hs marks bs table marked is = cc

pub same_features : (bytes : List ℕ) (hs : List ProgramHeader) → hs ≡ headers bytes → features_of bytes hs ≡ features bytes
same_features bytes hs table = ap (features_of bytes) table

pub loaded : (bytes : List ℕ) (hs : List ProgramHeader) (marks : ℕ) (image : ImageData) → hs ≡ headers bytes → marks ≡ features_of bytes hs → image ≡ image_from bytes marks hs → image ≡ image_of bytes
loaded bytes hs marks image table marked is = cc

-- what the rules 8 to 13 tell, each by itself
pub record LaterHold (bytes : List ℕ) (hs : List ProgramHeader) : Type 0 where
  pub filled : load_breach (is_filled (length bytes)) hs ≡ None
  pub placed : load_breach is_placed hs ≡ None
  pub guarded : load_breach is_guarded hs ≡ None
  pub apart : load_breach (is_apart hs) hs ≡ None
  pub entered : list_any (has_entry (xword bytes 24)) hs ≡ true

later_hold : (bytes : List ℕ) → HoldBelow (length (later_breaches bytes)) (later_breaches bytes) → LaterHold bytes (headers bytes)
unfolding header_breaches
later_hold bytes hold = record {
  filled = hold 1 (lit< tt);
  placed = hold 2 (lit< tt);
  guarded = hold 4 (lit< tt);
  apart = hold 5 (lit< tt);
  entered = unless_none (list_any (has_entry (xword bytes 24)) (headers bytes)) 24 (hold 6 (lit< tt));
}

pub each_holds : (bytes : List ℕ) (hs : List ProgramHeader) → hs ≡ headers bytes → HoldBelow (length (later_breaches bytes)) (later_breaches bytes) → LaterHold bytes hs
each_holds bytes hs table hold = subst (λ (l : List ProgramHeader). LaterHold bytes l) (sym table) (later_hold bytes hold)

pub answered : (bytes : List ℕ) (r : Result ImageData LoadFault) (x e : LoadFault) → r ≡ Err x → x ≡ e → Loads bytes (Err e) → Loads bytes r
answered bytes r x e is same fault = subst (λ (s : Result ImageData LoadFault). Loads bytes s) (sym (is ∙ ap (λ y. Err y) same)) fault
